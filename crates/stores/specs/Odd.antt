-- The number that holds a half has the half in bits 14 to 0, and an odd number of ones.
use Rattle.std.specs.Prelude.{◌≡◌, ℕ, ◌+◌, ◌%◌, ◌^◌, ◌<◌, Bool, count_ones, nat_eq}
use Rattle.std.proofs.Common.{ap, ap₂, ◌∙◌, arith}
use Rattle.std.proofs.lemmas.Nat.{ones_cat}
use Rattle.std.specs.Int.Count.{ones-ones}
use Rattle.std.proofs.lemmas.Bool.{cond_both, eq-eqb, eqb-true, eqb-false}
use Rattle.words.specs.Words.{half_bits}
use Rattle.store.specs.Cells.{HalfCell, good_half}
use Rattle.stores.specs.Parity.{half_of, half_number}

pub ones_marked : (x : ℕ) → x < 2 ^ 15 → count_ones (2 ^ 15 + x) ≡ 1 + count_ones x
ones_marked x small = ones_cat 15 1 x small ∙ ap (λ n. n + count_ones x) (ones-ones 1)

good_with : (x v : ℕ) → half_bits x ≡ half_bits v → count_ones x % 2 ≡ 1 → half_of x ≡ good_half v
good_with x v bits odd =
    let make : ℕ → Bool → HalfCell = λ n b. record { value = n; good = b } in ap₂ make bits (eq-eqb (count_ones x % 2) 1 odd)

pub half_number_good : (v : ℕ) → half_of (half_number v) ≡ good_half v
half_number_good v =
    let bits = half_bits v in
    let odd = nat_eq (count_ones bits % 2) 1 in
    cond_both odd bits (2 ^ 15 + bits) (λ x. half_of x ≡ good_half v)
    (λ e. good_with bits v (omega arith) (eqb-true (count_ones bits % 2) 1 e))
    (λ e. good_with (2 ^ 15 + bits) v (omega arith) (omega (arith, ones_marked bits (omega arith), eqb-false (count_ones bits % 2) 1 e)))
