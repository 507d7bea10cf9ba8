-- A machine that has as many words as its length goes on to have them, and no report of its run tells that the store has no cell.
use Rattle.std.proofs.Common.{ℕ, zero, suc, ◌≤◌, ◌==◌, ◌%◌, length, arith, Option, Some, None, Result, Ok, Err}
use Rattle.std.specs.Prelude.{IfErr, nat_lt}
use Rattle.std.specs.Int.{bit_at}
use Rattle.processor.specs.declared.operation.Operation.{Operation}
use Rattle.processor.specs.declared.operation.Operation.TheVariants as op
use Rattle.processor.specs.declared.report.Report.{Report}
use Rattle.processor.specs.Effects.{Effect, puts_tried}
use Rattle.processor.specs.Fields.{Fields, fields_of}
use Rattle.processor.specs.Jumps.{target}
use Rattle.processor.specs.Machine.{Machine}
use Rattle.processor.specs.Operands.{effective, operand}
use Rattle.processor.specs.References.{fetch, read}
use Rattle.processor.specs.Repertoire.{operation_of}
use Rattle.processor.specs.Reports.{OfCell}
use Rattle.processor.specs.Run.{EndingOfCell, Outcome, run, run_on}
use Rattle.processor.specs.Shifts.{count_of}
use Rattle.processor.specs.Step.{Stepped, completed, interrupted, answer_of, effect_of, effect_if, instruction_effect, step, stepped, tried}
use Rattle.processor.specs.Transfers.{enter_b}
use Rattle.processor.proofs.Chosen.{of_two}
use Rattle.processor.proofs.Failed.{then_err}
use Rattle.processor.proofs.Kept.{puts_kept}
use Rattle.processor.proofs.Referred.{Whole, ReportOfCell, no_fault, fetch_of_cell, read_of_cell, puts_of_cell, operand_of_cell}

-- no instruction's report tells it
module _ (m : Machine) (all : Whole m) where
  count_of_cell : (y : ℕ) → ReportOfCell (count_of m.registers y)
  count_of_cell y = of_two (λ (x : Result ℕ Report). ReportOfCell x) (nat_lt (y % 64) 60) _ _ tt no_fault

  target_of_cell : (i : Fields) → ReportOfCell (target m i)
  target_of_cell i = then_err OfCell (operand m i) _ (operand_of_cell m all i) (λ y _. tt)

  abbrev EffectOfCell : Result Effect Report → Type 0
  EffectOfCell r = ReportOfCell r

  enters_b : (i : Fields) → ReportOfCell (enter_b m i)
  enters_b i = of_two EffectOfCell (i.j == 0) _ _ tt (then_err OfCell (operand m i) _ (operand_of_cell m all i) (λ y _. tt))

  operation_of_cell : (operation : Operation) (i : Fields) → ReportOfCell (effect_of operation m i)
  operation_of_cell (op.ShiftRight which) i = search (then_err, operand_of_cell, count_of_cell, all)
  operation_of_cell (op.ShiftLeft which) i = search (then_err, operand_of_cell, count_of_cell, all)
  operation_of_cell (op.ShiftRightLogical which) i = search (then_err, count_of_cell)
  operation_of_cell op.ScaleFactor i = tt
  operation_of_cell op.EnterQ i = search (then_err, operand_of_cell, all)
  operation_of_cell op.EnterA i = search (then_err, operand_of_cell, all)
  operation_of_cell op.EnterB i = enters_b i
  operation_of_cell op.EnterAq i = search (then_err, read_of_cell, all)
  operation_of_cell op.StoreQ i = tt
  operation_of_cell op.StoreA i = tt
  operation_of_cell op.StoreB i = tt
  operation_of_cell op.StoreAq i = tt
  operation_of_cell op.StoreProduct i = tt
  operation_of_cell op.PackLower i = search (then_err, read_of_cell, all) depth 7
  operation_of_cell (op.Compute c) i = search (then_err, operand_of_cell, all)
  operation_of_cell (op.Replace c) i = search (then_err, operand_of_cell, all)
  operation_of_cell op.CompareMasked i = search (then_err, operand_of_cell, all)
  operation_of_cell op.CompareAqEqual i = search (then_err, read_of_cell, all)
  operation_of_cell op.CompareAqLess i = search (then_err, read_of_cell, all)
  operation_of_cell op.MaskedEqual i = search (then_err, read_of_cell, all)
  operation_of_cell op.MaskedLess i = search (then_err, read_of_cell, all)
  operation_of_cell op.Jump i = search (then_err, target_of_cell)
  operation_of_cell op.ReturnJump i = search (then_err, target_of_cell)
  operation_of_cell op.SkipOnB i = search (then_err, target_of_cell)
  operation_of_cell op.JumpOnB i = search (then_err, target_of_cell)
  operation_of_cell op.ExecutiveReturn i = no_fault
  operation_of_cell op.TestAndSet i = then_err OfCell (read m (effective m.registers i)) _ (read_of_cell m all (effective m.registers i)) (λ w _. of_two EffectOfCell (bit_at w 14 == 1) _ _ no_fault tt)

  if_operation_of_cell : (operation : Option Operation) (i : Fields) → ReportOfCell (effect_if operation m i)
  if_operation_of_cell (Some operation) i = operation_of_cell operation i
  if_operation_of_cell None i = no_fault

  instruction_of_cell : (i : Fields) → ReportOfCell (instruction_effect m i)
  unfolding instruction_effect
  instruction_of_cell i = if_operation_of_cell (operation_of i) i

  tried_of_cell : ReportOfCell (tried m)
  unfolding tried
  tried_of_cell =
      then_err OfCell (fetch m m.registers.p) _ (fetch_of_cell m all m.registers.p) (λ w _.
      then_err OfCell (instruction_effect m (fields_of w)) _ (instruction_of_cell (fields_of w)) (λ e _.
      then_err OfCell (puts_tried m.length m.words e.puts) _ (puts_of_cell m all e.puts) (λ done _. tt)))

-- nor does a step's; and where it is completed, the machine after it has its words
abbrev StepOfCell : Stepped → Type 0
StepOfCell (completed after) = Whole after
StepOfCell (interrupted report after) = OfCell report

stepped_of_cell : (m : Machine) (r : Result Effect Report) → Whole m → ReportOfCell r → StepOfCell (stepped m r)
stepped_of_cell m (Ok e) all there = omega (arith, all, puts_kept m.words e.puts)
stepped_of_cell m (Err report) all there = there

step_of_cell : (m : Machine) → Whole m → StepOfCell (step m)
unfolding step
step_of_cell m all = stepped_of_cell m (tried m) all (tried_of_cell m all)

-- so a report that a step answers does not tell it
answer_of_cell : (s : Stepped) → StepOfCell s → IfErr (answer_of s) OfCell
answer_of_cell (completed after) all = tt
answer_of_cell (interrupted report after) there = there

pub step_answer_of_cell : (m : Machine) → Whole m → IfErr (answer_of (step m)) OfCell
step_answer_of_cell m all = answer_of_cell (step m) (step_of_cell m all)

-- nor does the report of a run that was interrupted
run_on_of_cell : (s : Stepped) (rest : Machine → Outcome) → ((n : Machine) → Whole n → EndingOfCell (rest n).told.ending) → StepOfCell s → EndingOfCell (run_on s rest).told.ending
run_on_of_cell (completed after) rest later all = later after all
run_on_of_cell (interrupted report after) rest later there = there

pub run_of_cell : (budget : ℕ) (m : Machine) → m.length ≤ length m.words → EndingOfCell (run budget m).told.ending
unfolding run
run_of_cell zero m all = tt
run_of_cell (suc budget) m all = run_on_of_cell (step m) (run budget) (run_of_cell budget) (step_of_cell m all)
