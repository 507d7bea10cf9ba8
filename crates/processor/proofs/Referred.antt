-- Where a machine has as many words as its length, no report of a reference tells that the store has no cell.
use Rattle.std.proofs.Common.{ℕ, ◌≡◌, ◌<◌, ◌≤◌, nat_lt, List, [], ◌∷◌, length, arith, Some, None, Result, Ok, Err}
use Rattle.std.specs.Prelude.{IfErr}
use Rattle.std.proofs.lemmas.Bool.{cond_both, ltb-true}
use Rattle.store.specs.declared.fault.Fault.{Fault}
use Rattle.store.specs.declared.fault.Fault.TheVariants.{NoCell}
use Rattle.store.specs.Functions.{fetched, put_whole_answer, put_half_answer}
use Rattle.processor.specs.declared.report.Reference.{Reference}
use Rattle.processor.specs.declared.report.ReferenceKind.{ReferenceKind}
use Rattle.processor.specs.declared.report.ReferenceKind.TheVariants.{Fetch, Read, Write}
use Rattle.processor.specs.declared.report.Report.{Report}
use Rattle.processor.specs.declared.effect.Put.{Put}
use Rattle.processor.specs.declared.effect.Put.TheVariants as put
use Rattle.processor.specs.Effects.{put_tried, puts_tried}
use Rattle.processor.specs.Fields.{Fields}
use Rattle.processor.specs.Machine.{Machine}
use Rattle.processor.specs.Operands.{effective, lower_read, upper_read, extension, operand}
use Rattle.processor.specs.References.{fetch, parity_tried, read, refer}
use Rattle.processor.specs.Reports.{OfCell}
use Rattle.processor.proofs.Chosen.{of_eight}
use Rattle.processor.proofs.Failed.{then_err}
use Rattle.processor.proofs.Faults.{FaultOfCell, fetched_of_cell, put_whole_of_cell, put_half_of_cell}

-- the report that a result is, if it is one, does not tell that the store has no cell
abbrev pub ReportOfCell : {X : Type 0} → Result X Report → Type 0
ReportOfCell r = IfErr r OfCell

-- one that tells no fault does not
pub no_fault : None ≡ Some NoCell → ⊥
no_fault same = cc

parity_of_cell : {X : Type 0} → (reference : Reference) (r : Result X Fault) → FaultOfCell r → ReportOfCell (parity_tried reference r)
parity_of_cell reference (Ok x) there = tt
parity_of_cell reference (Err fault) there = λ same. there cc

-- a machine has the words of its length
abbrev pub Whole : Machine → Type 0
Whole m = m.length ≤ length m.words

module _ (m : Machine) (all : Whole m) where
  refer_of_cell : {X : Type 0} → (kind : ReferenceKind) (r : ℕ) (answer : Result X Fault) → (r < length m.words → FaultOfCell answer) → ReportOfCell (refer m.length kind r answer)
  refer_of_cell {X} kind r answer there =
      cond_both (nat_lt r m.length) _ _ (λ (x : Result X Report). ReportOfCell x)
      (λ below. parity_of_cell _ answer (there (omega (arith, all, ltb-true r m.length below))))
      (λ past. no_fault)

  pub fetch_of_cell : (r : ℕ) → ReportOfCell (fetch m r)
  fetch_of_cell r = refer_of_cell Fetch r (fetched m.words r) (fetched_of_cell m.words r)

  pub read_of_cell : (r : ℕ) → ReportOfCell (read m r)
  read_of_cell r = refer_of_cell Read r (fetched m.words r) (fetched_of_cell m.words r)

  -- what is put
  put_of_cell : (p : Put) → ReportOfCell (put_tried m.length m.words p)
  put_of_cell (put.Whole r w) = refer_of_cell Write r.0 (put_whole_answer m.words r.0) (put_whole_of_cell m.words r.0)
  put_of_cell (put.Half r h x) = refer_of_cell Write r.0 (put_half_answer m.words r.0 h) (λ below. put_half_of_cell m.words r.0 below h)

  pub puts_of_cell : (ps : List Put) → ReportOfCell (puts_tried m.length m.words ps)
  puts_of_cell [] = tt
  puts_of_cell (p ∷ ps) = then_err OfCell (put_tried m.length m.words p) _ (put_of_cell p) (λ done _. puts_of_cell ps)

  -- the operand
  lower_of_cell : (r : ℕ) → ReportOfCell (lower_read m r)
  lower_of_cell r = then_err OfCell (read m r) _ (read_of_cell r) (λ w _. tt)

  upper_of_cell : (r : ℕ) → ReportOfCell (upper_read m r)
  upper_of_cell r = then_err OfCell (read m r) _ (read_of_cell r) (λ w _. tt)

  extension_of_cell : (h : Result ℕ Report) → ReportOfCell h → ReportOfCell (extension h)
  extension_of_cell h there = then_err OfCell h _ there (λ x _. tt)

  pub operand_of_cell : (i : Fields) → ReportOfCell (operand m i)
  operand_of_cell i =
      let y = effective m.registers i in
      of_eight (λ (x : Result ℕ Report). ReportOfCell x) i.k _ _ _ _ _ _ _ _
      tt (lower_of_cell y) (upper_of_cell y) (read_of_cell y) tt (extension_of_cell (lower_read m y) (lower_of_cell y)) (extension_of_cell (upper_read m y) (upper_of_cell y)) tt
