-- With the sign bits turned over, numbers of 60 bits lie in the order of their values.
use Rattle.std.proofs.Common.{ℕ, suc, sym, true, not, inl, inr, ◌⊎◌, ◌≢◌, ◌≡◌, ◌+◌, ◌-◌, ◌^◌, ◌<◌, nat_lt, arith, ap, ◌∙◌, ⊎_elim, lt-ltb, le-ltb, ne_eqb, zero-add}
use Rattle.std.proofs.lemmas.Bool.{cases_lt}
use Rattle.std.proofs.lemmas.Int.{ints}
use Rattle.std.proofs.lemmas.Nat.{xor_block, xor_comm}
use Rattle.std.specs.Int.RustNames.{bit_xor}
use Rattle.std.specs.Prelude.{pos, negsuc}
use Rattle.words.specs.Order.{Value, integer, negative_zero, value, is_below, less}

-- a sign bit of 0 and one of 1, turned over
positive_turned : (x : ℕ) → x < 2 ^ 59 → bit_xor x (2 ^ 59) ≡ 2 ^ 59 + x
positive_turned x positive =
    ap (λ y. bit_xor y (2 ^ 59)) (omega arith) ∙ xor_block 59 0 1 x 0 positive (omega arith) ∙ ap (λ y. 2 ^ 59 + y) (xor_comm x 0)

negative_turned : (x : ℕ) → x < 2 ^ 59 → bit_xor (2 ^ 59 + x) (2 ^ 59) ≡ x
negative_turned x small =
    ap (λ y. bit_xor y (2 ^ 59)) (omega arith) ∙ xor_block 59 1 1 x 0 small (omega arith) ∙ ap (λ y. 0 + y) (xor_comm x 0) ∙ zero-add x

-- the three kinds of values, and what the number is with its sign bit turned over
by_value : (P : ℕ → Value → Type 0) → ((a : ℕ) → P (2 ^ 59 + a) (integer (pos a))) → P (2 ^ 59 - 1) negative_zero → ((k : ℕ) → k < 2 ^ 59 - 1 → P (2 ^ 59 - 2 - k) (integer (negsuc k))) →
    (x : ℕ) → x < 2 ^ 60 → P (bit_xor x (2 ^ 59)) (value 60 x)
by_value P whole none negated x small = ⊎_elim
    (λ positive. rw (positive_turned x positive, ne_eqb x (2 ^ 60 - 1) (λ e. omega arith), lt-ltb x (2 ^ 59) positive) (whole x))
    (λ negative. ⊎_elim
    (λ integral.
    let k = 2 ^ 60 - 2 - x in
    let below = 2 ^ 59 - 2 - k in
    let same : x ≡ 2 ^ 59 + below = omega arith in
    let turned : bit_xor x (2 ^ 59) ≡ below = ap (λ y. bit_xor y (2 ^ 59)) same ∙ negative_turned below (omega arith) in
    let size : 2 ^ 60 - 1 - x ≡ suc k = omega arith in
    rw (turned, ne_eqb x (2 ^ 60 - 1) (λ e. omega arith), le-ltb x (2 ^ 59) negative, size) (negated k (omega arith)))
    (λ ones. let same : x ≡ 2 ^ 60 - 1 = omega arith in rw same none)
    (cases_lt x (2 ^ 60 - 1)))
    (cases_lt x (2 ^ 59))

pub less_is : (x y : ℕ) → x < 2 ^ 60 → y < 2 ^ 60 → nat_lt (bit_xor x (2 ^ 59)) (bit_xor y (2 ^ 59)) ≡ less x y
unfolding less
less_is x y p q = by_value (λ s v. nat_lt s (bit_xor y (2 ^ 59)) ≡ is_below v (value 60 y))
    (λ a. by_value (λ t w. nat_lt (2 ^ 59 + a) t ≡ is_below (integer (pos a)) w) (λ b. grind (arith, ints)) (grind (arith, ints)) (λ l low. grind (arith, ints)) y q)
    (by_value (λ t w. nat_lt (2 ^ 59 - 1) t ≡ is_below negative_zero w) (λ b. grind (arith, ints)) (grind (arith, ints)) (λ l low. grind (arith, ints)) y q)
    (λ k low. by_value (λ t w. nat_lt (2 ^ 59 - 2 - k) t ≡ is_below (integer (negsuc k)) w) (λ b. grind (arith, ints)) (grind (arith, ints)) (λ l under. grind (arith, ints)) y q)
    x p

-- a number that is not below another is above it or is it
turned_back : (x : ℕ) → x < 2 ^ 60 → (bit_xor x (2 ^ 59) ≡ 2 ^ 59 + x) ⊎ (x ≡ 2 ^ 59 + bit_xor x (2 ^ 59))
turned_back x small = ⊎_elim
    (λ positive. inl (positive_turned x positive))
    (λ negative.
    let split : x ≡ 2 ^ 59 + (x - 2 ^ 59) = omega arith in
    inr (split ∙ ap (λ y. 2 ^ 59 + y) (sym (ap (λ y. bit_xor y (2 ^ 59)) split ∙ negative_turned (x - 2 ^ 59) (omega arith)))))
    (cases_lt x (2 ^ 59))

flipped : (s t : ℕ) → s ≢ t → nat_lt s t ≡ not (nat_lt t s)
flipped s t apart = grind (arith, apart)

pub either_way : (x y : ℕ) → x < 2 ^ 60 → y < 2 ^ 60 → x ≢ y → less x y ≡ not (less y x)
either_way x y p q apart =
    let still_apart : bit_xor x (2 ^ 59) ≢ bit_xor y (2 ^ 59) = λ same. apart (⊎_elim
    (λ a. ⊎_elim (λ b. omega (arith, a, b, same)) (λ b. omega (arith, a, b, same)) (turned_back y q))
    (λ a. ⊎_elim (λ b. omega (arith, a, b, same)) (λ b. omega (arith, a, b, same)) (turned_back y q))
    (turned_back x p)) in
    sym (less_is x y p q) ∙ flipped (bit_xor x (2 ^ 59)) (bit_xor y (2 ^ 59)) still_apart ∙ ap not (less_is y x q p)

pub between : (x y z : ℕ) → x < 2 ^ 60 → y < 2 ^ 60 → z < 2 ^ 60 → less x y ≡ true → less y z ≡ true → less x z ≡ true
between x y z p q r first second =
    sym (less_is x z p r) ∙ in_turn (bit_xor x (2 ^ 59)) (bit_xor y (2 ^ 59)) (bit_xor z (2 ^ 59)) (less_is x y p q ∙ first) (less_is y z q r ∙ second)
  where
    in_turn : (s t u : ℕ) → nat_lt s t ≡ true → nat_lt t u ≡ true → nat_lt s u ≡ true
    in_turn s t u first second = grind arith
