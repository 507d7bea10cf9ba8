-- Comparisons: they leave all registers and words, and skip or not.
use Rattle.std.specs.Prelude.{ℕ, Bool, ◌==◌, Result, Ok}
use Rattle.words.specs.Double.{over}
use Rattle.words.specs.Logic.{product, equal_under, less_under}
use Rattle.words.specs.Order.{less}
use Rattle.words.specs.Sums.{difference}
use Rattle.processor.specs.declared.report.Report.{Report}
use Rattle.processor.specs.Effects.{Effect, leaving, skip_if}
use Rattle.processor.specs.Fields.{Fields}
use Rattle.processor.specs.Machine.{Machine}
use Rattle.processor.specs.Operands.{effective, further, operand}
use Rattle.processor.specs.References.{read}
use Rattle.processor.specs.Skips.{skip_met}
use Rattle.processor.specs.Then.{◌>>=◌}

-- 43: a skip by j, with A less the logical product of Y and Q in place of A
abbrev pub compare_masked : Machine → Fields → Result Effect Report
compare_masked m i = do
  y ← operand m i
  let r = m.registers in Ok (leaving r (skip_if (skip_met i.j (difference r.a (product y r.q)) r.q)))

-- the words at ȳ and after it as one number, the first over the second
abbrev pub double_read : Machine → Fields → Result ℕ Report
double_read m i = do
  first ← read m (effective m.registers i)
  second ← read m (further m.registers i 1)
  Ok (over first second)

-- a skip by a test on A over Q and that number
abbrev pub compare_aq : (ℕ → ℕ → Bool) → Machine → Fields → Result Effect Report
compare_aq test m i = do
  other ← double_read m i
  Ok (leaving m.registers (skip_if (test (over m.registers.a m.registers.q) other)))

-- 77/23: all 60 bits are equal
abbrev pub compare_aq_equal : Machine → Fields → Result Effect Report
compare_aq_equal = compare_aq (λ u v. u == v)

-- 77/27: AQ is less, by the signed values, of which −0 is just below +0
abbrev pub compare_aq_less : Machine → Fields → Result Effect Report
compare_aq_less = compare_aq less

-- a skip by a test on A and the word at ȳ, where Q has ones
abbrev pub compare_under_q : (ℕ → ℕ → ℕ → Bool) → Machine → Fields → Result Effect Report
compare_under_q test m i = do
  w ← read m (effective m.registers i)
  Ok (leaving m.registers (skip_if (test m.registers.q m.registers.a w)))

-- 77/53: they are equal there
abbrev pub masked_equal : Machine → Fields → Result Effect Report
masked_equal = compare_under_q equal_under

-- 77/57: A is less there
abbrev pub masked_less : Machine → Fields → Result Effect Report
masked_less = compare_under_q less_under
