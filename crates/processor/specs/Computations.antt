-- Sums and logic: what becomes of A by A, Q and Y, and the replace forms, which also store that where Y was read.
use Rattle.std.specs.Prelude.{ℕ, Result, Ok}
use Rattle.words.specs.Logic.{product, selective_set, selective_complement, selective_clear, selective_substitute}
use Rattle.words.specs.Sums.{sum, difference}
use Rattle.records.specs.Registers.{Registers}
use Rattle.processor.specs.declared.operation.Computation.{Computation}
use Rattle.processor.specs.declared.operation.Computation.TheVariants as computation
use Rattle.processor.specs.declared.report.Report.{Report}
use Rattle.processor.specs.Effects.{Effect, leaving, skip_if, stored}
use Rattle.processor.specs.Fields.{Fields}
use Rattle.processor.specs.Machine.{Machine}
use Rattle.processor.specs.Operands.{effective, operand}
use Rattle.processor.specs.Skips.{computed_skip_met}
use Rattle.processor.specs.Then.{◌>>=◌}

-- the new A, of the old A, Q and Y
unfoldable pub computed : Computation → (a q y : ℕ) → ℕ
computed computation.Sum a q y = sum a y
computed computation.Difference a q y = difference a y
computed computation.Increment a q y = sum y 1
computed computation.Decrement a q y = difference y 1
computed computation.Product a q y = product y q
computed computation.SumWithProduct a q y = sum a (product y q)
computed computation.DifferenceWithProduct a q y = difference a (product y q)
computed computation.SelectiveSet a q y = selective_set a y
computed computation.SelectiveComplement a q y = selective_complement a y
computed computation.SelectiveClear a q y = selective_clear a y
computed computation.SelectiveSubstitute a q y = selective_substitute a q y

abbrev pub with_computed : Computation → Registers → ℕ → Registers
with_computed c r y = record r { a = computed c r.a r.q y }

-- 20, 21, 40 to 42, 50 to 53: computes A by Y and skips by j
abbrev pub compute : Computation → Machine → Fields → Result Effect Report
compute c m i = do
  y ← operand m i
  let r = with_computed c m.registers y in Ok (leaving r (skip_if (computed_skip_met c i.j r.a r.q)))

-- 24, 25, 36, 37, 44 to 46, 54 to 57: the same, and the new A is stored by k where Y was read
abbrev pub replace : Computation → Machine → Fields → Result Effect Report
replace c m i = do
  y ← operand m i
  let r = with_computed c m.registers y in Ok (record { registers = r; puts = stored i.k (effective m.registers i) r.a r.a; next = skip_if (computed_skip_met c i.j r.a r.q) })
