-- Shifts by quotients, and turns, are what their definitions say of each bit.
use Rattle.std.proofs.Common.{ℕ, zero, suc, refl, ◌≡◌, ◌≢◌, ◌+◌, ◌-◌, ◌*◌, ◌/◌, ◌%◌, ◌^◌, ◌<◌, ◌≤◌, nat_lt, if◌then◌else◌, arith, lt-ltb, le-ltb, min, max, ap, sym, ◌∙◌, pow-suc, ⊎_elim}
use Rattle.std.proofs.lemmas.Bool.{cases_lt}
use Rattle.std.proofs.lemmas.Nat.{pow_pos, mod_below, shr_le, le-div}
use Rattle.std.proofs.Math.Nat.{mod-eq_of_lt, add-mod_left, add-mod_right, mod-add-mod, add-mod-mod, zero-div, div-eq_of_lt, pow-le-pow_right}
use Rattle.std.proofs.lemmas.Nat.Bits.{bit_at_cat_low, bit_at_cat_high, bit_at_above, bit_at-zero, bit_at-lt, bit_at_or}
use Rattle.std.specs.Int.{bit_at}
use Rattle.std.specs.Int.RustNames.{bit_or}
use Rattle.std.specs.Prelude.{pos, neg_ℤ, int_div}
use Rattle.words.specs.Bits.{of_bits}
use Rattle.words.specs.Double.{over, upper_word, lower_word}
use Rattle.words.specs.Sums.{complement, integer_of}
use Rattle.words.specs.Shifts.{shifted_right, shifted_right_with_sign, turned_left}
use Rattle.words.proofs.BitByBit.{quotient_bit, remainder_bit, made_of_bits, bit_of_bits, same_bits, turned_over_twice, top_bit_zero}

module _ (n x c : ℕ) (small : x < 2 ^ n) where
  -- a quotient is a shift to the right
  right_bit : (i : ℕ) → bit_at (x / 2 ^ c) i ≡ (if nat_lt (i + c) n then bit_at x (i + c) else 0)
  right_bit i = ⊎_elim
      (λ inside. rw (lt-ltb (i + c) n inside) (quotient_bit x c i))
      (λ past. rw (le-ltb (i + c) n past) (quotient_bit x c i ∙ bit_at_above x n (i + c) small past))
      (cases_lt (i + c) n)

pub shifted_right_is : (n x c : ℕ) → x < 2 ^ n → x / 2 ^ c ≡ shifted_right n x c
unfolding shifted_right
shifted_right_is n x c small = made_of_bits n (x / 2 ^ c) _ (omega (arith, shr_le x c)) (λ i _. right_bit n x c small i)

twice : (n : ℕ) → 0 < n → 2 ^ n ≡ 2 ^ (n - 1) * 2
twice n some = let next : n ≡ suc (n - 1) = omega arith in ap (λ k. 2 ^ k) next ∙ pow-suc 2 (n - 1)

-- so is a shift with the sign coming in, where that is 0
positive_bit : (n x c i : ℕ) → 2 * x < 2 ^ n → i < n → bit_at (x / 2 ^ c) i ≡ bit_at x (min (i + c) (n - 1))
positive_bit n x c i positive within = ⊎_elim
    (λ inside. quotient_bit x c i ∙ ap (bit_at x) (omega arith))
    (λ past. quotient_bit x c i ∙ top_bit_zero n x (i + c) positive (omega arith) ∙ sym (top_bit_zero n x (min (i + c) (n - 1)) positive (omega arith)))
    (cases_lt (i + c) n)

pub shifted_positive : (n x c : ℕ) → 0 < n → x / 2 ^ (n - 1) ≡ 0 → x < 2 ^ n → x / 2 ^ c ≡ shifted_right_with_sign n x c
unfolding shifted_right_with_sign
shifted_positive n x c some zero_bit small =
    let low : x < 2 ^ (n - 1) = ⊎_elim (λ below. below) (λ above. absurd (omega (arith, zero_bit, le-div 1 x (2 ^ (n - 1)) (pow_pos (n - 1)) (omega arith)))) (cases_lt x (2 ^ (n - 1))) in
    let positive : 2 * x < 2 ^ n = omega (arith, twice n some) in
    made_of_bits n (x / 2 ^ c) _ (omega (arith, shr_le x c)) (λ i within. positive_bit n x c i positive within)

-- and where it is 1, with every bit turned over before and after
pub shifted_negative : (n x c : ℕ) → 0 < n → x / 2 ^ (n - 1) ≢ 0 → x < 2 ^ n → 2 ^ n - 1 - (2 ^ n - 1 - x) / 2 ^ c ≡ shifted_right_with_sign n x c
unfolding shifted_right_with_sign
shifted_negative n x c some one_bit small =
    let negative : 2 ^ (n - 1) ≤ x = ⊎_elim (λ low. absurd (one_bit (div-eq_of_lt low))) (λ high. high) (cases_lt x (2 ^ (n - 1))) in
    let y = 2 ^ n - 1 - x in
    let positive : 2 * y < 2 ^ n = omega (arith, twice n some) in
    made_of_bits n (2 ^ n - 1 - y / 2 ^ c) _ (omega (arith, pow_pos n)) (λ i within.
    turned_over_twice n (y / 2 ^ c) n x i (min (i + c) (n - 1)) (omega (arith, shr_le y c)) within small (omega arith) (positive_bit n y c i positive within))

-- a turn by u, where u and d make n: what leaves at the top of 64 bits is not looked at
turned_bit : (n x u d i : ℕ) → u + d ≡ n → u < n → n ≤ 64 → x < 2 ^ n → i < n → max (bit_at (x * 2 ^ u % 2 ^ 64) i) (bit_at (x / 2 ^ d) i) ≡ bit_at x ((i + (n - u)) % n)
turned_bit n x u d i split inside fits small within =
    let up : bit_at (x * 2 ^ u % 2 ^ 64) i ≡ bit_at (x * 2 ^ u + 0) i = remainder_bit (x * 2 ^ u) 64 i (omega arith) ∙ ap (λ y. bit_at y i) (omega arith) in
    ⊎_elim
    (λ under.
    let place : i + d ≡ (i + (n - u)) % n = ap (λ k. i + k) (omega arith) ∙ sym (mod-eq_of_lt (omega arith)) in
    let none : bit_at (x * 2 ^ u % 2 ^ 64) i ≡ 0 = up ∙ bit_at_cat_low x u 0 i under ∙ bit_at-zero i in
    omega (arith, none, quotient_bit x d i, ap (bit_at x) place))
    (λ over.
    let place : i - u ≡ (i + (n - u)) % n = sym (mod-eq_of_lt (omega arith)) ∙ sym (add-mod_left n (i - u)) ∙ ap (λ k. k % n) (omega arith) in
    let none : bit_at (x / 2 ^ d) i ≡ 0 = quotient_bit x d i ∙ bit_at_above x n (i + d) small (omega arith) in
    omega (arith, none, up, bit_at_cat_high x u 0 i (pow_pos u) over, ap (bit_at x) place))
    (cases_lt i u)

pub turned_is : (n x c : ℕ) → 0 < n → n ≤ 60 → x < 2 ^ n → bit_or (x * 2 ^ (c % n) % 2 ^ 64) (x / 2 ^ (n - c % n)) % 2 ^ n ≡ turned_left n x c
unfolding turned_left
turned_is n x c some fits small =
    let u = c % n in
    let inside : u < n = mod_below c n some in
    let both = bit_or (x * 2 ^ u % 2 ^ 64) (x / 2 ^ (n - u)) in
    made_of_bits n (both % 2 ^ n) _ (mod_below both (2 ^ n) (pow_pos n)) (λ i within.
    remainder_bit both n i within ∙ bit_at_or (x * 2 ^ u % 2 ^ 64) (x / 2 ^ (n - u)) i
    ∙ turned_bit n x u (n - u) i (omega arith) inside (omega arith) small within)

-- a number of 60 bits at the most has none left after a shift by 63, nor after one by more
below_all : (n k x : ℕ) → n ≤ k → x < 2 ^ n → x < 2 ^ k
below_all n k x wide small = omega (arith, pow-le-pow_right {n = 2} (omega arith) wide)

pub quotient_capped : (n x c : ℕ) → n ≤ 60 → x < 2 ^ n → x / 2 ^ min c 63 ≡ x / 2 ^ c
quotient_capped n x c wide small = ⊎_elim
    (λ few. let all : min c 63 ≡ c = omega arith in ap (λ k. x / 2 ^ k) all)
    (λ many. let most : min c 63 ≡ 63 = omega arith in ap (λ k. x / 2 ^ k) most ∙ div-eq_of_lt (below_all n 63 x (omega arith) small) ∙ sym (div-eq_of_lt (below_all n c x (omega arith) small)))
    (cases_lt c 63)

-- whole turns change nothing
pub turned_remainder : (n x c : ℕ) → 0 < n → turned_left n x (c % n) ≡ turned_left n x c
unfolding turned_left
turned_remainder n x c some = ap (λ u. of_bits n (λ i. bit_at x ((i + (n - u)) % n))) (mod-eq_of_lt (mod_below c n some))

pub turned_by_none : (n x : ℕ) → 0 < n → x < 2 ^ n → turned_left n x 0 ≡ x
unfolding turned_left
turned_by_none n x some small = sym (made_of_bits n x (λ i. bit_at x ((i + (n - 0 % n)) % n)) small (λ i within.
    let whole : n - 0 % n ≡ n = omega (arith, mod-eq_of_lt {n = 0} some) in
    let place : (i + (n - 0 % n)) % n ≡ i = ap (λ u. (i + u) % n) whole ∙ add-mod_right i n ∙ mod-eq_of_lt within in
    ap (bit_at x) (sym place)))

-- turns add up
place_again : (n i c d : ℕ) → 0 < n → ((i + (n - d % n)) % n + (n - c % n)) % n ≡ (i + (n - (c + d) % n)) % n
place_again n i c d some =
    let u = c % n in
    let v = d % n in
    let low_u : u < n = mod_below c n some in
    let low_v : v < n = mod_below d n some in
    let total : (c + d) % n ≡ (u + v) % n = sym (mod-add-mod c n d) ∙ sym (add-mod-mod u d n) in
    mod-add-mod (i + (n - v)) n (n - u) ∙ ⊎_elim
    (λ few.
    let sum : (c + d) % n ≡ u + v = total ∙ mod-eq_of_lt few in
    let once : i + (n - v) + (n - u) ≡ n + (i + (n - (c + d) % n)) = omega (arith, sum) in
    ap (λ k. k % n) once ∙ add-mod_left n (i + (n - (c + d) % n)))
    (λ many.
    let over : u + v ≡ n + (u + v - n) = omega arith in
    let sum : (c + d) % n ≡ u + v - n = total ∙ ap (λ k. k % n) over ∙ add-mod_left n (u + v - n) ∙ mod-eq_of_lt (omega arith) in
    let once : i + (n - v) + (n - u) ≡ i + (n - (c + d) % n) = omega (arith, sum) in
    ap (λ k. k % n) once)
    (cases_lt (u + v) n)

pub bit_of_turned : (n x c i : ℕ) → i < n → bit_at (turned_left n x c) i ≡ bit_at x ((i + (n - c % n)) % n)
unfolding turned_left
bit_of_turned n x c i within = bit_of_bits n (λ j. bit_at x ((j + (n - c % n)) % n)) i (λ j. bit_at-lt x ((j + (n - c % n)) % n)) within

pub turned_again : (n x c d : ℕ) → 0 < n → turned_left n (turned_left n x c) d ≡ turned_left n x (c + d)
unfolding turned_left
turned_again n x c d some = same_bits n
    (λ i. bit_at (turned_left n x c) ((i + (n - d % n)) % n))
    (λ i. bit_at x ((i + (n - (c + d) % n)) % n))
    (λ i. bit_at-lt (turned_left n x c) ((i + (n - d % n)) % n))
    (λ i within. bit_of_turned n x c ((i + (n - d % n)) % n) (mod_below (i + (n - d % n)) n some) ∙ ap (bit_at x) (place_again n i c d some))

-- the same of what a turn gave
pub no_turn : (n x c r : ℕ) → 0 < n → x < 2 ^ n → r ≡ turned_left n x c → c ≡ 0 → r ≡ x
no_turn n x c r some small turned none = turned ∙ ap (turned_left n x) none ∙ turned_by_none n x some small

pub one_more_turn : (n x c d r : ℕ) → 0 < n → r ≡ turned_left n x c → turned_left n r d ≡ turned_left n x (c + d)
one_more_turn n x c d r some turned = ap (λ y. turned_left n y d) turned ∙ turned_again n x c d some

-- a turn of 60 bits by 30
pub turned_half : (x c : ℕ) → x < 2 ^ 60 → c ≡ 30 → turned_left 60 x c ≡ over (lower_word x) (upper_word x)
unfolding turned_left
turned_half x c small half =
    let lower = lower_word x in
    let upper = upper_word x in
    ap (turned_left 60 x) half ∙ sym (made_of_bits 60 (lower * 2 ^ 30 + upper) (λ i. bit_at x ((i + (60 - 30 % 60)) % 60)) (omega arith) (λ i within. ⊎_elim
    (λ low. bit_at_cat_low lower 30 upper i low ∙ remainder_bit (x / 2 ^ 30) 30 i low ∙ quotient_bit x 30 i ∙ ap (bit_at x) (omega arith))
    (λ high. bit_at_cat_high lower 30 upper i (omega arith) high ∙ remainder_bit x 30 (i - 30) (omega arith) ∙ ap (bit_at x) (omega arith))
    (cases_lt i 30)))

-- a shift with the sign coming in divides the integer, toward 0
negated_quotient : (y d : ℕ) → neg_ℤ (pos (y / d)) ≡ int_div (neg_ℤ (pos y)) (pos d)
negated_quotient zero d = ap (λ q. neg_ℤ (pos q)) (zero-div d) ∙ ap pos (sym (zero-div d))
negated_quotient (suc k) d = refl

module _ (n : ℕ) where
  not_negative : (x : ℕ) → x < 2 ^ (n - 1) → integer_of n x ≡ pos x
  not_negative x low = rw (lt-ltb x (2 ^ (n - 1)) low) refl

  negative : (x : ℕ) → 2 ^ (n - 1) ≤ x → integer_of n x ≡ neg_ℤ (pos (complement n x))
  negative x high = rw (le-ltb x (2 ^ (n - 1)) high) refl

pub shifted_integer : (n x c r : ℕ) → 0 < n → x < 2 ^ n → r ≡ shifted_right_with_sign n x c → integer_of n r ≡ int_div (integer_of n x) (pos (2 ^ c))
shifted_integer n x c r some small shifted = ap (integer_of n) shifted ∙ ⊎_elim
    (λ low.
    ap (integer_of n) (sym (shifted_positive n x c some (div-eq_of_lt low) small)) ∙ not_negative n (x / 2 ^ c) (omega (arith, shr_le x c))
    ∙ ap (λ z. int_div z (pos (2 ^ c))) (sym (not_negative n x low)))
    (λ high.
    let y = complement n x in
    let one_bit : x / 2 ^ (n - 1) ≢ 0 = λ none. omega (arith, none, le-div 1 x (2 ^ (n - 1)) (pow_pos (n - 1)) (omega arith)) in
    let back : complement n (2 ^ n - 1 - y / 2 ^ c) ≡ y / 2 ^ c = omega (arith, shr_le y c) in
    ap (integer_of n) (sym (shifted_negative n x c some one_bit small)) ∙ negative n (2 ^ n - 1 - y / 2 ^ c) (omega (arith, shr_le y c, twice n some))
    ∙ ap (λ m. neg_ℤ (pos m)) back ∙ negated_quotient y (2 ^ c) ∙ ap (λ z. int_div z (pos (2 ^ c))) (sym (negative n x high)))
    (cases_lt x (2 ^ (n - 1)))
