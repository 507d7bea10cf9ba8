-- Executive return, and test and set.
use Rattle.std.specs.Prelude.{◌==◌, if◌then◌else◌, [], ◌∷◌, Result, Ok, Err}
use Rattle.std.specs.Int.{bit_at}
use Rattle.store.specs.declared.half.Half.TheVariants.{Lower}
use Rattle.records.specs.Registers.{Registers}
use Rattle.processor.specs.declared.report.Report.{Report}
use Rattle.processor.specs.declared.report.Report.TheVariants.{ExecutiveReturn, TestAndSet}
use Rattle.processor.specs.declared.effect.Next.TheVariants.{Onward}
use Rattle.processor.specs.Effects.{Effect, half}
use Rattle.processor.specs.Fields.{Fields}
use Rattle.processor.specs.Machine.{Machine}
use Rattle.processor.specs.Operands.{effective}
use Rattle.processor.specs.References.{read}
use Rattle.processor.specs.Reports.{relative}
use Rattle.processor.specs.Then.{◌>>=◌}

-- 77/54: interrupts, and tells ȳ
abbrev pub executive_return : Registers → Fields → Report
executive_return r i = ExecutiveReturn (relative (effective r i))

-- 77/52: if bit 14 of the word at ȳ is set, interrupts and tells ȳ; otherwise the lower half of the word becomes all ones
abbrev pub test_and_set : Machine → Fields → Result Effect Report
test_and_set m i = let at = effective m.registers i in do
  w ← read m at
  if bit_at w 14 == 1 then Err (TestAndSet (relative at)) else Ok (record { registers = m.registers; puts = half at Lower 0o77777 ∷ []; next = Onward })
