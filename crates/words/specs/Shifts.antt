-- Shifts and turns of a number x of n bits, by c places. Each says which bit of x bit i of the result is.
use Rattle.std.specs.Prelude.{ℕ, ◌+◌, ◌-◌, ◌%◌, min, nat_lt, if◌then◌else◌}
use Rattle.std.specs.Int.{bit_at}
use Rattle.words.specs.Bits.{of_bits}

-- to the right, with zeros coming in at the top
unfoldable pub shifted_right : ℕ → ℕ → ℕ → ℕ
shifted_right n x c = of_bits n (λ i. if nat_lt (i + c) n then bit_at x (i + c) else 0)

-- to the right, with copies of the top bit, the sign, coming in
unfoldable pub shifted_right_with_sign : ℕ → ℕ → ℕ → ℕ
shifted_right_with_sign n x c = of_bits n (λ i. bit_at x (min (i + c) (n - 1)))

-- to the left, and what leaves at the top comes in at the bottom: bit i is the one c places below, counted around
unfoldable pub turned_left : ℕ → ℕ → ℕ → ℕ
turned_left n x c = of_bits n (λ i. bit_at x ((i + (n - c % n)) % n))
