-- Jumps, and the instructions that count in Bj. A target is the lowest 15 bits of Y, and Y is read whether or not a jump follows.
use Rattle.std.specs.Prelude.{ℕ, ◌+◌, ◌-◌, ◌%◌, ◌^◌, ◌==◌, if◌then◌else◌, [], ◌∷◌, Result, Ok}
use Rattle.store.specs.declared.half.Half.TheVariants.{Lower}
use Rattle.records.specs.Registers.{Registers, index, with_index}
use Rattle.processor.specs.declared.report.Report.{Report}
use Rattle.processor.specs.declared.effect.Next.TheVariants.{Onward, Skipping, Jumping}
use Rattle.processor.specs.Effects.{Effect, half, leaving}
use Rattle.processor.specs.Fields.{Fields}
use Rattle.processor.specs.Machine.{Machine}
use Rattle.processor.specs.Operands.{operand}
use Rattle.processor.specs.Skips.{skip_met}
use Rattle.processor.specs.Then.{◌>>=◌}

-- the lowest 15 bits of Y
abbrev pub target : Machine → Fields → Result ℕ Report
target m i = do
  y ← operand m i
  Ok (y % 2 ^ 15)

-- 60: jumps if j's test holds
abbrev pub jump : Machine → Fields → Result Effect Report
jump m i = do
  t ← target m i
  Ok (leaving m.registers (if skip_met i.j m.registers.a m.registers.q then Jumping t else Onward))

-- puts P + 1 in the lower half of the word at the target and goes on after that word, both modulo 32,768
abbrev pub returning : Registers → ℕ → Effect
returning r t = record { registers = r; puts = half t Lower ((r.p + 1) % 2 ^ 15) ∷ []; next = Jumping ((t + 1) % 2 ^ 15) }

-- 64: that, if j's test holds
abbrev pub return_jump : Machine → Fields → Result Effect Report
return_jump m i = do
  t ← target m i
  Ok (if skip_met i.j m.registers.a m.registers.q then returning m.registers t else leaving m.registers Onward)

-- 71: Bj counts up, modulo 32,768, until it is the lowest 15 bits of Y; then it starts again from 0, and the program skips
abbrev pub skip_on_b : Machine → Fields → Result Effect Report
skip_on_b m i = do
  t ← target m i
  let b = index m.registers i.j in
      Ok (if b == t then leaving (with_index m.registers i.j 0) Skipping else leaving (with_index m.registers i.j ((b + 1) % 2 ^ 15)) Onward)

-- 72: Bj counts down, and the program jumps, until it is 0
abbrev pub jump_on_b : Machine → Fields → Result Effect Report
jump_on_b m i = do
  t ← target m i
  let b = index m.registers i.j in
      Ok (if b == 0 then leaving m.registers Onward else leaving (with_index m.registers i.j (b - 1)) (Jumping t))
