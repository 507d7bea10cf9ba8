-- Registers that fit still fit after each instruction.
use Rattle.std.proofs.Common.{ℕ, ◌+◌, ◌-◌, ◌%◌, ◌^◌, ◌<◌, Bool, ◌==◌, [], ◌∷◌, arith, Option, Some, None, Result}
use Rattle.std.specs.Prelude.{IfOk, ⊤}
use Rattle.std.specs.Int.{bit_at}
use Rattle.words.specs.Logic.{product, equal_under, less_under}
use Rattle.words.specs.Order.{less}
use Rattle.words.specs.Scale.{scale_factor}
use Rattle.words.specs.Sums.{complement}
use Rattle.words.proofs.Widths.{packed_fit, shifted_right_fits, sign_shifted_fits, turned_fits, scale_factor_fits, product_fits, selective_set_fits, selective_complement_fits, selective_clear_fits, selective_substitute_fits, difference_fits, sum_fits}
use Rattle.records.specs.Registers.{Registers, Fits, index}
use Rattle.processor.specs.declared.operation.Computation.{Computation}
use Rattle.processor.specs.declared.operation.Computation.TheVariants as computation
use Rattle.processor.specs.declared.operation.Operation.{Operation}
use Rattle.processor.specs.declared.operation.Operation.TheVariants as op
use Rattle.processor.specs.declared.shifts.Shift.{Shift}
use Rattle.processor.specs.declared.shifts.Shift.TheVariants.{RightWithSign, RightWithZeros, LeftAround}
use Rattle.processor.specs.declared.operation.Shifted.{Shifted}
use Rattle.processor.specs.declared.operation.Shifted.TheVariants.{A, Q, Aq}
use Rattle.processor.specs.declared.report.Report.{Report}
use Rattle.processor.specs.Comparisons.{double_read, compare_masked, compare_aq, compare_under_q}
use Rattle.processor.specs.Computations.{computed, with_computed, compute, replace}
use Rattle.processor.specs.declared.effect.Next.{Next}
use Rattle.processor.specs.declared.effect.Next.TheVariants.{Onward, Skipping, Jumping}
use Rattle.processor.specs.Effects.{Effect, skip_if}
use Rattle.processor.specs.Executive.{test_and_set}
use Rattle.processor.specs.Fields.{Fields}
use Rattle.processor.specs.Jumps.{target, jump, return_jump, skip_on_b, jump_on_b}
use Rattle.processor.specs.Machine.{Machine}
use Rattle.processor.specs.Operands.{effective, further, operand}
use Rattle.processor.specs.References.{read}
use Rattle.processor.specs.Repertoire.{operation_of}
use Rattle.processor.specs.Shifts.{count_of, shift_of, shifted, shift_by_operand, shift_right_logical, scale}
use Rattle.processor.specs.Skips.{skip_met}
use Rattle.processor.specs.Step.{effect_of, effect_if, instruction_effect}
use Rattle.processor.specs.Then.{◌>>=◌}
use Rattle.processor.specs.Transfers.{enter_q, enter_a, enter_b, enter_aq, registers_by, store_q, store_a, store_b, store_product, pack_lower}
use Rattle.processor.proofs.Chosen.{of_two, of_eight, then_all, then_any}
use Rattle.processor.proofs.Found.{Small, read_small, operand_small}
use Rattle.processor.proofs.Registered.{with_aq, with_a, with_q, with_b, b_small}

-- the registers of an effect fit, and a jump goes to one of the lowest 32,768 words
abbrev pub Near : Next → Type 0
Near Onward = ⊤
Near Skipping = ⊤
Near (Jumping t) = t < 2 ^ 15

abbrev pub EffectFits : Effect → Type 0
EffectFits e = Fits e.registers × Near e.next

abbrev pub ResultFits : Result Effect Report → Type 0
ResultFits r = IfOk r EffectFits

skip_near : (test : Bool) → Near (skip_if test)
skip_near test = of_two Near test Skipping Onward tt tt

-- the new A
computed_small : (c : Computation) (a q y : ℕ) → a < 2 ^ 30 → y < 2 ^ 30 → computed c a q y < 2 ^ 30
unfolding computed
computed_small computation.Sum a q y p r = sum_fits a y p
computed_small computation.Difference a q y p r = difference_fits a y p
computed_small computation.Increment a q y p r = sum_fits y 1 r
computed_small computation.Decrement a q y p r = difference_fits y 1 r
computed_small computation.Product a q y p r = product_fits y q
computed_small computation.SumWithProduct a q y p r = sum_fits a (product y q) p
computed_small computation.DifferenceWithProduct a q y p r = difference_fits a (product y q) p
computed_small computation.SelectiveSet a q y p r = selective_set_fits a y
computed_small computation.SelectiveComplement a q y p r = selective_complement_fits a y
computed_small computation.SelectiveClear a q y p r = selective_clear_fits a y
computed_small computation.SelectiveSubstitute a q y p r = selective_substitute_fits a q y

-- what a shift of n bits gives has n bits
abbrev Shifts : (ℕ → ℕ → ℕ → ℕ) → Type 0
Shifts shift = (n x c : ℕ) → shift n x c < 2 ^ n

shift_fits : (shift : Shift) → Shifts (shift_of shift)
shift_fits RightWithSign = sign_shifted_fits
shift_fits RightWithZeros = shifted_right_fits
shift_fits LeftAround = turned_fits

shifted_fits : (shift : Shift) (which : Shifted) (r : Registers) (count : ℕ) → Fits r → Fits (shifted shift which r count)
shifted_fits shift A r count fits = with_a r fits (shift_of shift 30 r.a count) (shift_fits shift 30 r.a count)
shifted_fits shift Q r count fits = with_q r fits (shift_of shift 30 r.q count) (shift_fits shift 30 r.q count)
shifted_fits shift Aq r count fits = with_aq r fits _ _ (omega arith) (omega arith)

module _ (m : Machine) (i : Fields) (fits : Fits m.registers) where
  -- what is done with an operand, and with the target of a jump
  of_operand : (f : ℕ → Result Effect Report) → ((y : ℕ) → y < 2 ^ 30 → ResultFits (f y)) → ResultFits (operand m i >>= f)
  of_operand f all = then_all Small EffectFits (operand m i) f (operand_small m i fits) all

  of_target : (f : ℕ → Result Effect Report) → ((t : ℕ) → t < 2 ^ 15 → ResultFits (f t)) → ResultFits (target m i >>= f)
  of_target f all = then_all (λ t. t < 2 ^ 15) EffectFits (target m i) f (then_any (λ t. t < 2 ^ 15) (operand m i) _ (λ y. omega arith)) all

  -- shifts
  by_operand : (shift : Shift) (which : Shifted) → ResultFits (shift_by_operand shift which m i)
  by_operand shift which = of_operand _ (λ y _. then_any EffectFits (count_of m.registers y) _ (λ count. (shifted_fits shift which m.registers count fits, skip_near _)))

  logical : (which : Shifted) → ResultFits (shift_right_logical which m.registers i)
  logical which = then_any EffectFits (count_of m.registers (effective m.registers i)) _ (λ count. (shifted_fits RightWithZeros which m.registers count fits, tt))

  scaled : EffectFits (scale m.registers)
  scaled =
      let a = m.registers.a in
      let k = scale_factor a in
      (with_aq m.registers fits _ _ (turned_fits 30 a k) (scale_factor_fits a), tt)

  -- transfers
  enters_q : ResultFits (enter_q m i)
  enters_q = of_operand _ (λ y small. (with_q m.registers fits y small, skip_near _))

  enters_a : ResultFits (enter_a m i)
  enters_a = of_operand _ (λ y small. (with_a m.registers fits y small, skip_near _))

  enters_b : ResultFits (enter_b m i)
  enters_b = of_two ResultFits (i.j == 0) _ _ (fits, tt) (of_operand _ (λ y _. (with_b m.registers fits i.j (y % 2 ^ 15) (omega arith), tt)))

  enters_aq : ResultFits (enter_aq m i)
  enters_aq =
      then_all Small EffectFits (read m (effective m.registers i)) _ (read_small m (effective m.registers i)) (λ first p.
      then_all Small EffectFits (read m (further m.registers i 1)) _ (read_small m (further m.registers i 1)) (λ second q.
      (with_aq m.registers fits first second p q, tt)))

  -- the registers that k chooses
  by_k : (r0 r4 : Registers) → Fits r0 → Fits r4 → Fits (registers_by i.k m.registers r0 r4)
  by_k r0 r4 p q = of_eight Fits i.k _ _ _ _ _ _ _ _ p fits fits fits q fits fits fits

  stores_q : EffectFits (store_q m.registers i)
  stores_q = (by_k _ _ (with_q m.registers fits (complement 30 m.registers.q) (omega arith)) (with_a m.registers fits m.registers.q fits.1), skip_near _)

  stores_a : EffectFits (store_a m.registers i)
  stores_a = (by_k _ _ (with_q m.registers fits m.registers.a fits.0) (with_a m.registers fits (complement 30 m.registers.a) (omega arith)), skip_near _)

  stores_b : EffectFits (store_b m.registers i)
  stores_b =
      let b = index m.registers i.j in
      let small : b < 2 ^ 30 = omega (arith, b_small m.registers fits i.j) in
      (by_k _ _ (with_q m.registers fits b small) (with_a m.registers fits b small), tt)

  stores_product : EffectFits (store_product m.registers i)
  stores_product =
      let p = product m.registers.a m.registers.q in
      let small : p < 2 ^ 30 = product_fits m.registers.a m.registers.q in
      (by_k _ _ (with_q m.registers fits p small) (with_a m.registers fits p small), skip_near _)

  packs : ResultFits (pack_lower m i)
  packs =
      then_any EffectFits (read m (effective m.registers i)) _ (λ w0.
      then_any EffectFits (read m (further m.registers i 1)) _ (λ w1.
      then_any EffectFits (read m (further m.registers i 2)) _ (λ w2.
      then_any EffectFits (read m (further m.registers i 3)) _ (λ w3.
      then_any EffectFits (read m (further m.registers i 4)) _ (λ w4.
      (with_a m.registers fits _ (packed_fit (w0 ∷ w1 ∷ w2 ∷ w3 ∷ w4 ∷ [])), tt))))))

  -- sums and logic
  computed_fits : (c : Computation) (y : ℕ) → y < 2 ^ 30 → Fits (with_computed c m.registers y)
  computed_fits c y small = with_a m.registers fits _ (computed_small c m.registers.a m.registers.q y fits.0 small)

  computes : (c : Computation) → ResultFits (compute c m i)
  computes c = of_operand _ (λ y small. (computed_fits c y small, skip_near _))

  replaces : (c : Computation) → ResultFits (replace c m i)
  replaces c = of_operand _ (λ y small. (computed_fits c y small, skip_near _))

  -- comparisons
  compares_masked : ResultFits (compare_masked m i)
  compares_masked = of_operand _ (λ y _. (fits, skip_near _))

  compares_aq : (test : ℕ → ℕ → Bool) → ResultFits (compare_aq test m i)
  compares_aq test = then_any EffectFits (double_read m i) _ (λ other. (fits, skip_near _))

  compares_under_q : (test : ℕ → ℕ → ℕ → Bool) → ResultFits (compare_under_q test m i)
  compares_under_q test = then_any EffectFits (read m (effective m.registers i)) _ (λ w. (fits, skip_near _))

  -- jumps
  jumps : ResultFits (jump m i)
  jumps = of_target _ (λ t near. (fits, of_two Near (skip_met i.j m.registers.a m.registers.q) (Jumping t) Onward near tt))

  jumps_to_return : ResultFits (return_jump m i)
  jumps_to_return = of_target _ (λ t _. of_two EffectFits (skip_met i.j m.registers.a m.registers.q) _ _ (fits, omega arith) (fits, tt))

  skips_on_b : ResultFits (skip_on_b m i)
  skips_on_b = of_target _ (λ t _.
      let b = index m.registers i.j in
      of_two EffectFits (b == t) _ _ (with_b m.registers fits i.j 0 (omega arith), tt) (with_b m.registers fits i.j ((b + 1) % 2 ^ 15) (omega arith), tt))

  jumps_on_b : ResultFits (jump_on_b m i)
  jumps_on_b = of_target _ (λ t near.
      let b = index m.registers i.j in
      of_two EffectFits (b == 0) _ _ (fits, tt) (with_b m.registers fits i.j (b - 1) (omega (arith, b_small m.registers fits i.j)), near))

  tests_and_sets : ResultFits (test_and_set m i)
  tests_and_sets = then_any EffectFits (read m (effective m.registers i)) _ (λ w. of_two ResultFits (bit_at w 14 == 1) _ _ tt (fits, tt))

-- every operation
operation_fits : (operation : Operation) (m : Machine) (i : Fields) → Fits m.registers → ResultFits (effect_of operation m i)
operation_fits (op.ShiftRight which) m i fits = by_operand m i fits RightWithSign which
operation_fits (op.ShiftLeft which) m i fits = by_operand m i fits LeftAround which
operation_fits (op.ShiftRightLogical which) m i fits = logical m i fits which
operation_fits op.ScaleFactor m i fits = scaled m i fits
operation_fits op.EnterQ m i fits = enters_q m i fits
operation_fits op.EnterA m i fits = enters_a m i fits
operation_fits op.EnterB m i fits = enters_b m i fits
operation_fits op.EnterAq m i fits = enters_aq m i fits
operation_fits op.StoreQ m i fits = stores_q m i fits
operation_fits op.StoreA m i fits = stores_a m i fits
operation_fits op.StoreB m i fits = stores_b m i fits
operation_fits op.StoreAq m i fits = (fits, tt)
operation_fits op.StoreProduct m i fits = stores_product m i fits
operation_fits op.PackLower m i fits = packs m i fits
operation_fits (op.Compute c) m i fits = computes m i fits c
operation_fits (op.Replace c) m i fits = replaces m i fits c
operation_fits op.CompareMasked m i fits = compares_masked m i fits
operation_fits op.CompareAqEqual m i fits = compares_aq m i fits ◌==◌
operation_fits op.CompareAqLess m i fits = compares_aq m i fits less
operation_fits op.MaskedEqual m i fits = compares_under_q m i fits equal_under
operation_fits op.MaskedLess m i fits = compares_under_q m i fits less_under
operation_fits op.Jump m i fits = jumps m i fits
operation_fits op.ReturnJump m i fits = jumps_to_return m i fits
operation_fits op.SkipOnB m i fits = skips_on_b m i fits
operation_fits op.JumpOnB m i fits = jumps_on_b m i fits
operation_fits op.ExecutiveReturn m i fits = tt
operation_fits op.TestAndSet m i fits = tests_and_sets m i fits

if_operation_fits : (operation : Option Operation) (m : Machine) (i : Fields) → Fits m.registers → ResultFits (effect_if operation m i)
if_operation_fits (Some operation) m i fits = operation_fits operation m i fits
if_operation_fits None m i fits = tt

pub instruction_fits : (m : Machine) (i : Fields) → Fits m.registers → ResultFits (instruction_effect m i)
unfolding instruction_effect
instruction_fits m i fits = if_operation_fits (operation_of i) m i fits
