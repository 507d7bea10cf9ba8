-- Transfers between registers and words.
use Rattle.std.specs.Prelude.{ℕ, ◌%◌, ◌^◌, ◌==◌, if◌then◌else◌, List, [], ◌∷◌, Result, Ok}
use Rattle.words.specs.Characters.{packed}
use Rattle.words.specs.Extension.{extended}
use Rattle.words.specs.Logic.{product}
use Rattle.words.specs.Sums.{complement}
use Rattle.records.specs.Registers.{Registers, index, with_index}
use Rattle.processor.specs.declared.report.Report.{Report}
use Rattle.processor.specs.Digits.{by_digit}
use Rattle.processor.specs.declared.effect.Next.TheVariants.{Onward}
use Rattle.processor.specs.declared.effect.Put.{Put}
use Rattle.processor.specs.Effects.{Effect, whole, skip_if, leaving, stored}
use Rattle.processor.specs.Fields.{Fields}
use Rattle.processor.specs.Machine.{Machine}
use Rattle.processor.specs.Operands.{effective, further, operand}
use Rattle.processor.specs.References.{read}
use Rattle.processor.specs.Skips.{skip_met}
use Rattle.processor.specs.Then.{◌>>=◌}

-- the registers and the puts of an instruction that skips by j
abbrev pub with_skip : Fields → Registers → List Put → Effect
with_skip i r puts = record { registers = r; puts = puts; next = skip_if (skip_met i.j r.a r.q) }

-- 10: Y to Q
abbrev pub enter_q : Machine → Fields → Result Effect Report
enter_q m i = do
  y ← operand m i
  Ok (with_skip i (record m.registers { q = y }) [])

-- 11: Y to A
abbrev pub enter_a : Machine → Fields → Result Effect Report
enter_a m i = do
  y ← operand m i
  Ok (with_skip i (record m.registers { a = y }) [])

-- the lowest 15 bits of Y to Bj
abbrev pub enter_named_b : Machine → Fields → Result Effect Report
enter_named_b m i = do
  y ← operand m i
  Ok (leaving (with_index m.registers i.j (y % 2 ^ 15)) Onward)

-- 12: that; but with j = 0 it does nothing and refers to nothing
abbrev pub enter_b : Machine → Fields → Result Effect Report
enter_b m i = if i.j == 0 then Ok (leaving m.registers Onward) else enter_named_b m i

-- what k of 0 and 4 make of the registers: r0 and r4; any other k leaves them
abbrev pub registers_by : ℕ → (r r0 r4 : Registers) → Registers
registers_by k r r0 r4 = by_digit k r0 r r r r4 r r r

-- 14: Q, or its complement; k = 0 complements Q in place, and 4 puts Q in A
abbrev pub store_q : Registers → Fields → Effect
store_q r i = let c = complement 30 r.q in with_skip i (registers_by i.k r (record r { q = c }) (record r { a = r.q })) (stored i.k (effective r i) r.q c)

-- 15: A, or its complement; k = 0 puts A in Q, and 4 complements A in place
abbrev pub store_a : Registers → Fields → Effect
store_a r i = let c = complement 30 r.a in with_skip i (registers_by i.k r (record r { q = r.a }) (record r { a = c })) (stored i.k (effective r i) r.a c)

-- 16: Bj with zeros above, or its complement with bit 14 copied upwards; k = 0 puts Bj in Q, and 4 in A. It never skips
abbrev pub store_b : Registers → Fields → Effect
store_b r i =
    let b = index r i.j in
    let registers = registers_by i.k r (record r { q = b }) (record r { a = b }) in
    record { registers = registers; puts = stored i.k (effective r i) b (extended 15 (complement 15 b)); next = Onward }

-- 47: the logical product of A and Q, or its complement; k = 0 puts it in Q, and 4 in A
abbrev pub store_product : Registers → Fields → Effect
store_product r i = let p = product r.a r.q in with_skip i (registers_by i.k r (record r { q = p }) (record r { a = p })) (stored i.k (effective r i) p (complement 30 p))

-- 77/21: two words to A and Q
abbrev pub enter_aq : Machine → Fields → Result Effect Report
enter_aq m i = do
  first ← read m (effective m.registers i)
  second ← read m (further m.registers i 1)
  Ok (leaving (record m.registers { a = first; q = second }) Onward)

-- 77/25: A and Q to two words
abbrev pub store_aq : Registers → Fields → Effect
store_aq r i = record { registers = r; puts = whole (effective r i) r.a ∷ whole (further r i 1) r.q ∷ []; next = Onward }

-- 77/31: the lowest characters of five words side by side to A
abbrev pub pack_lower : Machine → Fields → Result Effect Report
pack_lower m i = do
  w0 ← read m (effective m.registers i)
  w1 ← read m (further m.registers i 1)
  w2 ← read m (further m.registers i 2)
  w3 ← read m (further m.registers i 3)
  w4 ← read m (further m.registers i 4)
  Ok (leaving (record m.registers { a = packed (w0 ∷ w1 ∷ w2 ∷ w3 ∷ w4 ∷ []) }) Onward)
