-- One step: the instruction at P, done whole or not at all.
use Rattle.std.specs.Prelude.{Option, Some, None, Result, Ok, Err}
use Rattle.records.specs.Registers.{with_p}
use Rattle.processor.specs.declared.operation.Operation.{Operation}
use Rattle.processor.specs.declared.operation.Operation.TheVariants as op
use Rattle.processor.specs.declared.report.Report.{Report}
use Rattle.processor.specs.declared.report.Report.TheVariants.{IllegalInstruction}
use Rattle.processor.specs.Comparisons as comparisons
use Rattle.processor.specs.Computations.{compute, replace}
use Rattle.processor.specs.Effects.{Effect, next_p, puts_tried, puts_done}
use Rattle.processor.specs.Executive as executive
use Rattle.processor.specs.Fields.{Fields, fields_of}
use Rattle.processor.specs.Jumps as jumps
use Rattle.processor.specs.Machine.{Machine}
use Rattle.processor.specs.References.{fetch}
use Rattle.processor.specs.Repertoire.{operation_of}
use Rattle.processor.specs.Reports.{relative, p_after}
use Rattle.processor.specs.Shifts as shifts
use Rattle.processor.specs.Then.{◌>>=◌}
use Rattle.processor.specs.Transfers as transfers

-- what each operation comes to
abbrev pub effect_of : Operation → Machine → Fields → Result Effect Report
effect_of (op.ShiftRight which) m i = shifts.shift_right which m i
effect_of (op.ShiftLeft which) m i = shifts.shift_left which m i
effect_of (op.ShiftRightLogical which) m i = shifts.shift_right_logical which m.registers i
effect_of op.ScaleFactor m i = Ok (shifts.scale m.registers)
effect_of op.EnterQ m i = transfers.enter_q m i
effect_of op.EnterA m i = transfers.enter_a m i
effect_of op.EnterB m i = transfers.enter_b m i
effect_of op.EnterAq m i = transfers.enter_aq m i
effect_of op.StoreQ m i = Ok (transfers.store_q m.registers i)
effect_of op.StoreA m i = Ok (transfers.store_a m.registers i)
effect_of op.StoreB m i = Ok (transfers.store_b m.registers i)
effect_of op.StoreAq m i = Ok (transfers.store_aq m.registers i)
effect_of op.StoreProduct m i = Ok (transfers.store_product m.registers i)
effect_of op.PackLower m i = transfers.pack_lower m i
effect_of (op.Compute c) m i = compute c m i
effect_of (op.Replace c) m i = replace c m i
effect_of op.CompareMasked m i = comparisons.compare_masked m i
effect_of op.CompareAqEqual m i = comparisons.compare_aq_equal m i
effect_of op.CompareAqLess m i = comparisons.compare_aq_less m i
effect_of op.MaskedEqual m i = comparisons.masked_equal m i
effect_of op.MaskedLess m i = comparisons.masked_less m i
effect_of op.Jump m i = jumps.jump m i
effect_of op.ReturnJump m i = jumps.return_jump m i
effect_of op.SkipOnB m i = jumps.skip_on_b m i
effect_of op.JumpOnB m i = jumps.jump_on_b m i
effect_of op.ExecutiveReturn m i = Err (executive.executive_return m.registers i)
effect_of op.TestAndSet m i = executive.test_and_set m i

-- a code that is no instruction is illegal, and so is one with a k that it does not allow
abbrev pub effect_if : Option Operation → Machine → Fields → Result Effect Report
effect_if (Some operation) m i = effect_of operation m i
effect_if None m i = Err (IllegalInstruction (relative m.registers.p))

unfoldable pub instruction_effect : Machine → Fields → Result Effect Report
instruction_effect m i = effect_if (operation_of i) m i

-- in order: the fetch at P; illegal codes; what the instruction reads and tests; the tries of what it puts. The first that fails interrupts
unfoldable pub tried : Machine → Result Effect Report
tried m = do
  w ← fetch m m.registers.p
  effect ← instruction_effect m (fields_of w)
  done ← puts_tried m.length m.words effect.puts
  Ok effect

-- a step is completed, or interrupted
pub data Stepped : Type 0 where
  completed : Machine → Stepped
  interrupted : Report → Machine → Stepped

-- the machine after it; an interrupt leaves all but P
abbrev pub stepped : Machine → Result Effect Report → Stepped
stepped m (Ok effect) = completed (record {
  length = m.length;
  registers = with_p effect.registers (next_p effect.next m.registers.p);
  words = puts_done m.words effect.puts;
})
stepped m (Err report) = interrupted report (record m { registers = with_p m.registers (p_after report m.registers.p) })

-- what it answers: the report, if it was interrupted
abbrev pub answer_of : Stepped → Result (Unit {0}) Report
answer_of (completed m) = Ok tt
answer_of (interrupted report m) = Err report

abbrev pub machine_after : Stepped → Machine
machine_after (completed m) = m
machine_after (interrupted report m) = m

unfoldable pub step : Machine → Stepped
step m = stepped m (tried m)
