-- Shifts of A, of Q, or of both as one number of 60 bits.
use Rattle.std.specs.Prelude.{ℕ, ◌%◌, if◌then◌else◌, nat_lt, Result, Ok, Err}
use Rattle.words.specs.Double.{over, upper_word, lower_word}
use Rattle.words.specs.Scale.{scale_factor}
use Rattle.words.specs.Shifts.{shifted_right, shifted_right_with_sign, turned_left}
use Rattle.records.specs.Registers.{Registers}
use Rattle.processor.specs.declared.shifts.Shift.{Shift}
use Rattle.processor.specs.declared.shifts.Shift.TheVariants.{RightWithSign, RightWithZeros, LeftAround}
use Rattle.processor.specs.declared.operation.Shifted.{Shifted}
use Rattle.processor.specs.declared.operation.Shifted.TheVariants.{A, Q, Aq}
use Rattle.processor.specs.declared.report.Report.{Report}
use Rattle.processor.specs.declared.report.Report.TheVariants.{IllegalInstruction}
use Rattle.processor.specs.declared.effect.Next.TheVariants.{Onward}
use Rattle.processor.specs.Effects.{Effect, skip_if, leaving}
use Rattle.processor.specs.Fields.{Fields}
use Rattle.processor.specs.Machine.{Machine}
use Rattle.processor.specs.Operands.{effective, operand}
use Rattle.processor.specs.Reports.{relative}
use Rattle.processor.specs.Skips.{skip_met}
use Rattle.processor.specs.Then.{◌>>=◌}

-- a count has six bits, the lowest of a number, and one of 60 or more is illegal
abbrev pub count_of : Registers → ℕ → Result ℕ Report
count_of r y = if nat_lt (y % 64) 60 then Ok (y % 64) else Err (IllegalInstruction (relative r.p))

-- the three shifts: to the right, filled with the sign or with zeros; and to the left, around
abbrev pub shift_of : Shift → (bits number count : ℕ) → ℕ
shift_of RightWithSign = shifted_right_with_sign
shift_of RightWithZeros = shifted_right
shift_of LeftAround = turned_left

-- the registers with a shift by a count done to those that it moves
abbrev pub shifted : Shift → Shifted → Registers → ℕ → Registers
shifted shift A r count = record r { a = shift_of shift 30 r.a count }
shifted shift Q r count = record r { q = shift_of shift 30 r.q count }
shifted shift Aq r count = let aq = shift_of shift 60 (over r.a r.q) count in record r { a = upper_word aq; q = lower_word aq }

-- 01 to 03 and 05 to 07: by the operand, and a skip by j
abbrev pub shift_by_operand : Shift → Shifted → Machine → Fields → Result Effect Report
shift_by_operand shift which m i = do
  y ← operand m i
  count ← count_of m.registers y
  let r = shifted shift which m.registers count in Ok (leaving r (skip_if (skip_met i.j r.a r.q)))

-- 01, 02, 03: to the right, filled with the sign
abbrev pub shift_right : Shifted → Machine → Fields → Result Effect Report
shift_right = shift_by_operand RightWithSign

-- 05, 06, 07: to the left, around
abbrev pub shift_left : Shifted → Machine → Fields → Result Effect Report
shift_left = shift_by_operand LeftAround

-- 77/51, 77/55, 77/56: to the right by ȳ, filled with zeros
abbrev pub shift_right_logical : Shifted → Registers → Fields → Result Effect Report
shift_right_logical which r i = do
  count ← count_of r (effective r i)
  Ok (leaving (shifted RightWithZeros which r count) Onward)

-- 77/30: A turned by its scale factor, and that in Q
abbrev pub scale : Registers → Effect
scale r = leaving (record r { a = turned_left 30 r.a (scale_factor r.a); q = scale_factor r.a }) Onward
