-- A number of m bits as a word, its highest bit copied into the bits above it.
use Rattle.std.specs.Prelude.{ℕ, ◌-◌, min}
use Rattle.std.specs.Int.{bit_at}
use Rattle.words.specs.Bits.{of_bits}

unfoldable pub extended : ℕ → ℕ → ℕ
extended m x = of_bits 30 (λ i. bit_at x (min i (m - 1)))
