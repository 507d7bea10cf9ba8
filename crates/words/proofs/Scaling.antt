-- The scale factor: how turns add up, and that 28 turns are enough.
use Rattle.std.proofs.Common.{ℕ, zero, suc, ◌≡◌, ◌+◌, ◌-◌, ◌%◌, ◌^◌, ◌<◌, ◌≤◌, ◌⊎◌, Bool, true, false, ◌==◌, if◌then◌else◌, arith, refl, ap, sym, subst, ◌∙◌, ⊎_elim, inl, inr, zero-add}
use Rattle.std.proofs.lemmas.Bool.{cases_lt, cases_Bool, eqb-true, or_cases, false≢true, false_from_ne_true}
use Rattle.std.proofs.lemmas.Nat.Bits.{bit_at-lt, bit_at-zero, bit_at_ones, same_from_bits_below}
use Rattle.std.specs.Int.{bit_at}
use Rattle.words.specs.Bits.{of_bits}
use Rattle.words.specs.Scale.{is_zero, top_bits_agree, turns_within, scale_factor}
use Rattle.words.specs.Shifts.{turned_left}
use Rattle.words.specs.Sums.{minus_zero}
use Rattle.words.proofs.BitByBit.{of_bits_fit}
use Rattle.words.proofs.Shifted.{bit_of_turned, turned_by_none, turned_again}

one_and_more : (a k : ℕ) → turned_left 30 (turned_left 30 a 1) k ≡ turned_left 30 a (suc k)
one_and_more a k = turned_again 30 a 1 k (omega arith) ∙ (let count : 1 + k ≡ suc k = omega arith in ap (turned_left 30 a) count)

-- how many turns a word needs that never gets there, and the cases of the definition
all_zeros : (most : ℕ) → turns_within most 0 ≡ most
unfolding turns_within of_bits turned_left
all_zeros zero = refl
all_zeros (suc most) = ap suc (all_zeros most)

all_ones : (most : ℕ) → turns_within most minus_zero ≡ most
unfolding turns_within of_bits turned_left
all_ones zero = refl
all_ones (suc most) = ap suc (all_ones most)

one_turn : (most a : ℕ) → top_bits_agree a ≡ true → turns_within (suc most) a ≡ suc (turns_within most (turned_left 30 a 1))
unfolding turns_within
one_turn most a agree = rw agree refl

no_turn : (most a : ℕ) → top_bits_agree a ≡ false → turns_within (suc most) a ≡ 0
unfolding turns_within
no_turn most a differ = rw differ refl

no_turns : (a : ℕ) → turns_within 0 a ≡ 0
unfolding turns_within
no_turns a = refl

-- its highest bits, k and one, are the same
abbrev Agree : ℕ → ℕ → Type 0
Agree k a = (i : ℕ) → i < 30 → 29 ≤ i + k → bit_at a i ≡ bit_at a 29

-- a turn takes each bit one up
moved_up : (a i : ℕ) → i < 29 → bit_at (turned_left 30 a 1) (suc i) ≡ bit_at a i
moved_up a i low = bit_of_turned 30 a 1 (suc i) (omega arith) ∙ (let place : (suc i + (30 - 1 % 30)) % 30 ≡ i = omega arith in ap (bit_at a) place)

agree_before : (k a : ℕ) → top_bits_agree a ≡ true → Agree k (turned_left 30 a 1) → Agree (suc k) a
agree_before k a agree after i within top = ⊎_elim
    (λ lower. sym (moved_up a i lower) ∙ after (suc i) (omega arith) (omega arith) ∙ moved_up a 28 (omega arith) ∙ sym (eqb-true (bit_at a 29) (bit_at a 28) agree))
    (λ highest. let place : i ≡ 29 = omega arith in ap (bit_at a) place)
    (cases_lt i 29)

-- either one turn more changes nothing, or that many bits and two are the same
enough : (most a : ℕ) → most < 28 → (turns_within (suc most) a ≡ turns_within most a) ⊎ Agree (suc most) a
enough zero a few = ⊎_elim
    (λ agree. inr (agree_before 0 a agree (λ i within top. let place : i ≡ 29 = omega arith in ap (bit_at (turned_left 30 a 1)) place)))
    (λ differ. inl (no_turn 0 a differ ∙ sym (no_turns a)))
    (cases_Bool (top_bits_agree a))
enough (suc most) a few = ⊎_elim
    (λ agree. ⊎_elim
    (λ same. inl (one_turn (suc most) a agree ∙ ap suc same ∙ sym (one_turn most a agree)))
    (λ after. inr (agree_before (suc most) a agree after))
    (enough most (turned_left 30 a 1) (omega arith)))
    (λ differ. inl (no_turn (suc most) a differ ∙ sym (no_turn most a differ)))
    (cases_Bool (top_bits_agree a))

-- a word whose bits are all the same is +0 or −0
all_same : (a : ℕ) → a < 2 ^ 30 → Agree 29 a → (a ≡ 0) ⊎ (a ≡ minus_zero)
all_same a small same =
    let each : (i : ℕ) → i < 30 → bit_at a i ≡ bit_at a 29 = λ i within. same i within (omega arith) in
    ⊎_elim
    (λ zeros. inl (same_from_bits_below 30 a 0 small (omega arith) (λ i within. omega (arith, each i within, zeros, bit_at-zero i))))
    (λ ones. inr (same_from_bits_below 30 a minus_zero small (omega arith) (λ i within. omega (arith, each i within, ones, bit_at-lt a 29, bit_at_ones 30 i within))))
    (cases_lt (bit_at a 29) 1)

-- +0 and −0: what holds of both holds of a word whose bits are all the same
of_zeros : (P : ℕ → Type 0) → P 0 → P minus_zero → (a : ℕ) → is_zero a ≡ true → P a
of_zeros P plus minus a same = ⊎_elim
    (λ is_plus. subst P (sym (eqb-true a 0 is_plus)) plus)
    (λ is_minus. subst P (sym (eqb-true a minus_zero is_minus)) minus)
    (or_cases (a == 0) (a == minus_zero) same)

zero_scaled : (a : ℕ) → is_zero a ≡ true → scale_factor a ≡ 28
unfolding scale_factor
zero_scaled a same = of_zeros (λ x. scale_factor x ≡ 28) (all_zeros 28) (all_ones 28) a same

zero_turned : (a : ℕ) → is_zero a ≡ true → turned_left 30 a 28 ≡ a
unfolding of_bits turned_left
zero_turned a same = of_zeros (λ x. turned_left 30 x 28 ≡ x) refl refl a same

by_tests : (p q : Bool) (x y z w : ℕ) → (p ≡ true → x ≡ y) → (p ≡ false → q ≡ true → x ≡ z) → (p ≡ false → q ≡ false → x ≡ w) → x ≡ (if p then y else (if q then z else w))
by_tests true q x y z w first second third = first refl
by_tests false true x y z w first second third = second refl refl
by_tests false false x y z w first second third = third refl refl

-- of a word with both zeros and ones, a turn does not make all bits the same
mixed_after : (a : ℕ) → a < 2 ^ 30 → is_zero a ≡ false → top_bits_agree a ≡ true → Agree 28 (turned_left 30 a 1) → ⊥
mixed_after a small mixed agree after = ⊎_elim
    (λ plus. false≢true (sym mixed ∙ ap is_zero plus))
    (λ minus. false≢true (sym mixed ∙ ap is_zero minus))
    (all_same a small (agree_before 28 a agree after))

one_turn_more : (a : ℕ) → a < 2 ^ 30 → is_zero a ≡ false → top_bits_agree a ≡ true → scale_factor a ≡ suc (scale_factor (turned_left 30 a 1))
unfolding scale_factor
one_turn_more a small mixed agree = ⊎_elim
    (λ same. one_turn 27 a agree ∙ ap suc (sym same))
    (λ after. absurd (mixed_after a small mixed agree after))
    (enough 27 (turned_left 30 a 1) (omega arith))

turned_fits : (a : ℕ) → turned_left 30 a 1 < 2 ^ 30
unfolding turned_left
turned_fits a = of_bits_fit 30 (λ i. bit_at a ((i + (30 - 1 % 30)) % 30)) (λ i. bit_at-lt a ((i + (30 - 1 % 30)) % 30))

-- a turn makes no +0 and no −0 of other words
still_mixed : (a : ℕ) → a < 2 ^ 30 → is_zero a ≡ false → top_bits_agree a ≡ true → is_zero (turned_left 30 a 1) ≡ false
still_mixed a small mixed agree = false_from_ne_true (is_zero (turned_left 30 a 1)) (λ same.
    mixed_after a small mixed agree
    (of_zeros (Agree 28) (λ i within top. bit_at-zero i) (λ i within top. bit_at_ones 30 i within) (turned_left 30 a 1) same))

-- after the turns the highest two bits differ
differ_after : (k a : ℕ) → a < 2 ^ 30 → is_zero a ≡ false → scale_factor a ≡ k → top_bits_agree (turned_left 30 a k) ≡ false
unfolding scale_factor
differ_after zero a small mixed turns = ⊎_elim
    (λ agree. absurd (omega (arith, turns, one_turn 27 a agree)))
    (λ differ. ap top_bits_agree (turned_by_none 30 a (omega arith) small) ∙ differ)
    (cases_Bool (top_bits_agree a))
differ_after (suc k) a small mixed turns = ⊎_elim
    (λ agree.
    let next = turned_left 30 a 1 in
    let fewer : scale_factor next ≡ k = omega (arith, turns, one_turn_more a small mixed agree) in
    ap top_bits_agree (sym (one_and_more a k)) ∙ differ_after k next (turned_fits a) (still_mixed a small mixed agree) fewer)
    (λ differ. absurd (omega (arith, turns, no_turn 27 a differ)))
    (cases_Bool (top_bits_agree a))

-- and before them they agree
agree_within : (most a : ℕ) → a < 2 ^ 30 → (k : ℕ) → k < turns_within most a → top_bits_agree (turned_left 30 a k) ≡ true
agree_within zero a small k left = absurd (omega (arith, no_turns a))
agree_within (suc most) a small zero left = ⊎_elim
    (λ agree. ap top_bits_agree (turned_by_none 30 a (omega arith) small) ∙ agree)
    (λ differ. absurd (omega (arith, left, no_turn most a differ)))
    (cases_Bool (top_bits_agree a))
agree_within (suc most) a small (suc k) left = ⊎_elim
    (λ agree. ap top_bits_agree (sym (one_and_more a k)) ∙ agree_within most (turned_left 30 a 1) (turned_fits a) k (omega (arith, left, one_turn most a agree)))
    (λ differ. absurd (omega (arith, left, no_turn most a differ)))
    (cases_Bool (top_bits_agree a))

pub differ_then : (a w k : ℕ) → a < 2 ^ 30 → is_zero a ≡ false → k ≡ scale_factor a → w ≡ turned_left 30 a k → top_bits_agree w ≡ false
differ_then a w k small mixed turns turned = ap top_bits_agree turned ∙ differ_after k a small mixed (sym turns)

pub agree_before_that : (a j : ℕ) → a < 2 ^ 30 → j ≡ scale_factor a → (k : ℕ) → k < j → top_bits_agree (turned_left 30 a k) ≡ true
unfolding scale_factor
agree_before_that a j small turns k before = agree_within 28 a small k (omega arith)

within : (most a : ℕ) → turns_within most a ≤ most
within zero a = omega (arith, no_turns a)
within (suc most) a = ⊎_elim
    (λ agree. omega (arith, one_turn most a agree, within most (turned_left 30 a 1)))
    (λ differ. omega (arith, no_turn most a differ))
    (cases_Bool (top_bits_agree a))

pub at_most_28 : (a k : ℕ) → k ≡ scale_factor a → k ≤ 28
unfolding scale_factor
at_most_28 a k turns = omega (arith, turns, within 28 a)

pub zero_left : (a w k : ℕ) → is_zero a ≡ true → k ≡ scale_factor a → w ≡ turned_left 30 a k → (w ≡ a) × (k ≡ 28)
zero_left a w k same turns turned =
    let all : k ≡ 28 = turns ∙ zero_scaled a same in
    (turned ∙ ap (turned_left 30 a) all ∙ zero_turned a same, all)

pub not_turned : (a : ℕ) → 0 + turns_within (28 - 0) a ≡ scale_factor a
unfolding scale_factor
not_turned a = zero-add (turns_within 28 a)

-- after c turns, which made the word a: its highest bits agree, and it is turned once more; they differ, and c is the count; or c is 28
module _ (c a total : ℕ) (so_far : c + turns_within (28 - c) a ≡ total) where
  pub turned_on : c < 28 → top_bits_agree a ≡ true → c + 1 + turns_within (28 - (c + 1)) (turned_left 30 a 1) ≡ total
  turned_on left agree =
      let next : 28 - c ≡ suc (28 - (c + 1)) = omega arith in
      omega (arith, so_far, ap (λ most. turns_within most a) next, one_turn (28 - (c + 1)) a agree)

  pub turned_enough : c < 28 → top_bits_agree a ≡ false → c ≡ total
  turned_enough left differ =
      let next : 28 - c ≡ suc (28 - (c + 1)) = omega arith in
      omega (arith, so_far, ap (λ most. turns_within most a) next, no_turn (28 - (c + 1)) a differ)

  pub turned_all : 28 ≤ c → c ≤ 28 → 28 ≡ total
  turned_all over within =
      let none : 28 - c ≡ 0 = omega arith in
      omega (arith, so_far, ap (λ most. turns_within most a) none, no_turns a)

-- the rule that makes the scale factor what it is
pub rule : (a : ℕ) → a < 2 ^ 30 → scale_factor a ≡ (if is_zero a then 28 else (if top_bits_agree a then suc (scale_factor (turned_left 30 a 1)) else 0))
unfolding scale_factor
rule a small = by_tests (is_zero a) (top_bits_agree a) (scale_factor a) 28 (suc (scale_factor (turned_left 30 a 1))) 0
    (λ same. zero_scaled a same)
    (λ mixed agree. one_turn_more a small mixed agree)
    (λ mixed differ. no_turn 27 a differ)
