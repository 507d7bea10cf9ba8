-- Which base a word is read in.
use Rattle.std.proofs.Common.{◌≡◌, ℕ, ◌-◌, ◌^◌, ◌<◌, true, cond, eqb, List, [], ◌∷◌, length, get_or, take, drop, Ok, decimal, refl, ap, ◌∙◌, arith}
use Rattle.std.specs.Str.Parse.{AllDigits, IsNumeral, digits_value}
use Rattle.std.proofs.lemmas.Fmt.{decimal_is_IsNumeral}
use Rattle.std.proofs.lemmas.List.{take_rest}
use Rattle.std.proofs.lemmas.Str.Parse.{digit_at}
use Rattle.std.proofs.lemmas.Bool.{and_from, lt-ltb, ne_eqb}
use Rattle.std.proofs.lemmas.Bool.Decides.{nat_tests}
use Rattle.std.specs.Char.{is_digit}
use Rattle.std.specs.List.{list_all}
use Rattle.script.specs.Number.{in_base, number_of}

-- after a 0 the second byte chooses; the rest is as `&w[2..]` has it
pub by_letter : (w : List ℕ) → get_or w 0 0 ≡ 48 → number_of w ≡ cond (eqb (get_or w 1 0) 111) (in_base 8 (take (length w - 2) (drop 2 w))) (cond (eqb (get_or w 1 0) 120) (in_base 16 (take (length w - 2) (drop 2 w))) (in_base 10 w))
unfolding number_of
by_letter [] p = refl
by_letter (a ∷ []) p = rw p
by_letter (a ∷ b ∷ cs) p = rw (p, take_rest (a ∷ b ∷ cs) 2) (grind (arith, nat_tests))

pub decimal_short : (w : List ℕ) → length w < 2 → number_of w ≡ in_base 10 w
unfolding number_of
decimal_short [] h = refl
decimal_short (a ∷ []) h = grind (arith, nat_tests)
decimal_short (a ∷ b ∷ cs) h = absurd (omega arith)

pub decimal_first : (w : List ℕ) → (get_or w 0 0 ≡ 48 → ⊥) → number_of w ≡ in_base 10 w
unfolding number_of
decimal_first [] h = refl
decimal_first (a ∷ w) h = rw (ne_eqb a 48 h)

digits_decimal : (w : List ℕ) → AllDigits 10 w → number_of w ≡ in_base 10 w
unfolding number_of
digits_decimal [] h = refl
digits_decimal (a ∷ []) h = decimal_short (a ∷ []) (omega arith)
digits_decimal (a ∷ b ∷ cs) h = let digit = digit_at (a ∷ b ∷ cs) 1 h (omega arith) in grind (arith, nat_tests)

all_digits_from : (b : ℕ) (ds : List ℕ) → AllDigits b ds → list_all (λ c. is_digit c b) ds ≡ true
all_digits_from b [] h = refl
all_digits_from b (c ∷ cs) h = and_from _ _ (lt-ltb _ _ h.0) (all_digits_from b cs h.1)

numeral_read : (b : ℕ) (ds : List ℕ) → IsNumeral b ds → digits_value b ds < 2 ^ 32 → in_base b ds ≡ Ok (digits_value b ds)
numeral_read b ds h small = rw (lt-ltb 0 (length ds) h.0, all_digits_from b ds h.1, lt-ltb (digits_value b ds) (2 ^ 32) small)

pub reads_back : (w : List ℕ) (n : ℕ) → n < 2 ^ 32 → w ≡ decimal n → number_of w ≡ Ok n
reads_back w n h e =
    let back = decimal_is_IsNumeral n (omega arith) in
    ap number_of e ∙ digits_decimal _ back.0.1 ∙ numeral_read 10 _ back.0 (omega arith) ∙ ap Ok back.1
