-- The effective address ȳ and the operand Y of an instruction.
use Rattle.std.specs.Prelude.{ℕ, ◌+◌, ◌%◌, ◌^◌, Result, Ok}
use Rattle.words.specs.Words.{upper_half, lower_half}
use Rattle.words.specs.Extension.{extended}
use Rattle.records.specs.Registers.{Registers, index}
use Rattle.processor.specs.declared.report.Report.{Report}
use Rattle.processor.specs.Digits.{by_digit}
use Rattle.processor.specs.Fields.{Fields}
use Rattle.processor.specs.Machine.{Machine}
use Rattle.processor.specs.References.{read}
use Rattle.processor.specs.Then.{◌>>=◌}

-- ȳ: y and Bb, modulo 32,768
abbrev pub effective : Registers → Fields → ℕ
effective r i = (i.y + index r i.b) % 2 ^ 15

-- the address n words further on, modulo 32,768
abbrev pub further : Registers → Fields → ℕ → ℕ
further r i n = (effective r i + n) % 2 ^ 15

-- the halves of the word at ȳ; its whole cell is read
abbrev pub lower_read : Machine → ℕ → Result ℕ Report
lower_read m r = do
  w ← read m r
  Ok (lower_half w)

abbrev pub upper_read : Machine → ℕ → Result ℕ Report
upper_read m r = do
  w ← read m r
  Ok (upper_half w)

abbrev pub extension : Result ℕ Report → Result ℕ Report
extension half = do
  x ← half
  Ok (extended 15 x)

-- what k makes of the word at ȳ, where it reads one: k of 1, 2, 3, 5 and 6
abbrev pub picked : ℕ → ℕ → ℕ
picked k w = by_digit k w (lower_half w) (upper_half w) w w (extended 15 (lower_half w)) (extended 15 (upper_half w)) w

-- Y by k: ȳ itself; the lower half, the upper half of the word at ȳ; that word; the first three again with bit 14 copied upwards; A
abbrev pub operand : Machine → Fields → Result ℕ Report
operand m i = let at = effective m.registers i in by_digit i.k
    (Ok at)
    (lower_read m at)
    (upper_read m at)
    (read m at)
    (Ok (extended 15 at))
    (extension (lower_read m at))
    (extension (upper_read m at))
    (Ok m.registers.a)
