-- Registers still fit with one of them changed.
use Rattle.std.proofs.Common.{ℕ, zero, suc, ◌-◌, ◌^◌, ◌<◌, ◌==◌, List, [], ◌∷◌, ◌∙◌, arith}
use Rattle.std.proofs.lemmas.List.{length-set}
use Rattle.std.specs.List.{AllByRecursion}
use Rattle.std.specs.Prelude.{slice_index, slice_set}
use Rattle.records.specs.Registers.{Registers, Fits, index, with_index, with_p}
use Rattle.processor.proofs.Chosen.{of_two}

-- an element of a list, and the list with another one
all_at : (P : ℕ → Type 0) (xs : List ℕ) (i : ℕ) → P 0 → AllByRecursion P xs → P (slice_index xs i)
all_at P [] i none all = none
all_at P (x ∷ xs) zero none all = all.0
all_at P (x ∷ xs) (suc i) none all = all_at P xs i none all.1

all_after : (P : ℕ → Type 0) (xs : List ℕ) (i y : ℕ) → P y → AllByRecursion P xs → AllByRecursion P (slice_set xs i y)
all_after P [] i y new all = tt
all_after P (x ∷ xs) zero y new all = (new, all.1)
all_after P (x ∷ xs) (suc i) y new all = (all.0, all_after P xs i y new all.1)

module _ (r : Registers) (fits : Fits r) where
  pub with_aq : (a q : ℕ) → a < 2 ^ 30 → q < 2 ^ 30 → Fits (record r { a = a; q = q })
  with_aq a q small_a small_q = (small_a, small_q, fits.2, fits.3, fits.4)

  pub with_a : (a : ℕ) → a < 2 ^ 30 → Fits (record r { a = a })
  with_a a small = with_aq a r.q small fits.1

  pub with_q : (q : ℕ) → q < 2 ^ 30 → Fits (record r { q = q })
  with_q q small = with_aq r.a q fits.0 small

  pub with_b : (j x : ℕ) → x < 2 ^ 15 → Fits (with_index r j x)
  with_b j x small = of_two Fits (j == 0) r _ fits (fits.0, fits.1, length-set r.b (j - 1) x ∙ fits.2, all_after _ r.b (j - 1) x small fits.3, fits.4)

  pub with_other_p : (p : ℕ) → p < 2 ^ 17 → Fits (with_p r p)
  with_other_p p small = (fits.0, fits.1, fits.2, fits.3, small)

  -- B1 to B7 have 15 bits, and so has B0
  pub b_small : (j : ℕ) → index r j < 2 ^ 15
  b_small j = all_at (λ x. x < 2 ^ 15) (0 ∷ r.b) j (omega arith) (omega arith, fits.3)
