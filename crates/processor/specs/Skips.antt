-- Skips by j, which are tested on the registers as the instruction leaves them.
use Rattle.std.specs.Prelude.{ℕ, Bool, true, false, not, ◌==◌, if◌then◌else◌}
use Rattle.std.specs.Int.{bit_at}
use Rattle.words.specs.Logic.{has_odd_ones}
use Rattle.processor.specs.declared.operation.Computation.{Computation}
use Rattle.processor.specs.declared.operation.Computation.TheVariants as computation
use Rattle.processor.specs.Digits.{by_digit}

abbrev pub is_negative : ℕ → Bool
is_negative w = bit_at w 29 == 1

-- never; always; Q's sign is 0, is 1; A is all zeros, is not; A's sign is 0, is 1
unfoldable pub skip_met : ℕ → (a q : ℕ) → Bool
skip_met j a q = by_digit j
    false
    true
    (not (is_negative q))
    (is_negative q)
    (a == 0)
    (not (a == 0))
    (not (is_negative a))
    (is_negative a)

-- after a logical product that is put in A, 2 and 3 test whether A has an even, an odd number of ones
unfoldable pub product_skip_met : ℕ → (a q : ℕ) → Bool
product_skip_met j a q =
    if j == 2 then not (has_odd_ones a)
    else (if j == 3 then has_odd_ones a
    else skip_met j a q)

abbrev pub computed_skip_met : Computation → ℕ → (a q : ℕ) → Bool
computed_skip_met computation.Product j a q = product_skip_met j a q
computed_skip_met c j a q = skip_met j a q
