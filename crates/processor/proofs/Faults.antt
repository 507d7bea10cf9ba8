-- Below the number of words no fault tells that the store has no cell.
use Rattle.std.proofs.Common.{ℕ, ◌≡◌, ◌<◌, List, length, subst, Result, Ok, Err}
use Rattle.std.specs.Prelude.{IfErr}
use Rattle.std.proofs.lemmas.Bool.{cond_below}
use Rattle.store.specs.Cells.{Cell, cell_at, other_half, part}
use Rattle.store.specs.declared.fault.Fault.{Fault}
use Rattle.store.specs.declared.fault.Fault.TheVariants.{NoCell}
use Rattle.store.specs.declared.half.Half.{Half}
use Rattle.store.specs.declared.half.Half.TheVariants.{Upper, Lower}
use Rattle.store.specs.Functions.{fetched, if_good, put_whole_answer, put_half_answer, within, word_of}
use Rattle.processor.proofs.Chosen.{of_two}

-- a fault, if there is one, does not tell that the store has no cell
abbrev pub FaultOfCell : {X : Type 0} → Result X Fault → Type 0
FaultOfCell r = IfErr r (λ fault. fault ≡ NoCell → ⊥)

if_good_of_cell : {X : Type 0} → (c : Cell) (h : Half) (r : Result X Fault) → FaultOfCell r → FaultOfCell (if_good c h r)
if_good_of_cell {X} c h r there = of_two (λ (x : Result X Fault). FaultOfCell x) (part c h).good r _ there (λ same. cc)

module _ (words : List Cell) (a : ℕ) (below : a < length words) where
  within_of_cell : {X : Type 0} → (r : Result X Fault) → FaultOfCell r → FaultOfCell (within words a r)
  within_of_cell {X} r there = subst (λ (x : Result X Fault). FaultOfCell x) (cond_below a (length words) r (Err NoCell) below) there

  pub fetched_of_cell : FaultOfCell (fetched words a)
  fetched_of_cell =
      let c = cell_at words a in
      within_of_cell (word_of c) (if_good_of_cell c Upper _ (if_good_of_cell c Lower _ tt))

  pub put_whole_of_cell : FaultOfCell (put_whole_answer words a)
  put_whole_of_cell = within_of_cell (Ok tt) tt

  pub put_half_of_cell : (h : Half) → FaultOfCell (put_half_answer words a h)
  put_half_of_cell h = within_of_cell _ (if_good_of_cell (cell_at words a) (other_half h) (Ok tt) tt)
