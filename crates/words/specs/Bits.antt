-- Numbers by their bits. Bit i of a number x is std's `bit_at x i`, which is x / 2 ^ i % 2, so bit 0 is the lowest.
use Rattle.std.specs.Prelude.{ℕ, zero, suc, ◌+◌, ◌*◌, ◌^◌}

-- the number of n bits that has f i as its bit i, where each f i is 0 or 1
unfoldable pub of_bits : ℕ → (ℕ → ℕ) → ℕ
of_bits zero f = 0
of_bits (suc n) f = f n * 2 ^ n + of_bits n f
