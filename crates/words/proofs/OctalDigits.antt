-- What `{:05o}` writes of a half is its five octal digits.
use Rattle.std.proofs.Common.{ℕ, zero, suc, ◌≡◌, ◌+◌, ◌-◌, ◌/◌, ◌%◌, ◌^◌, ◌<◌, ◌≤◌, false, List, [], ◌∷◌, ◌++◌, length, replicate, arith, refl, ap, ◌∙◌, eq-eqb, ne_eqb, lt-ltb, ⊎_elim, pow-suc, append-nil}
use Rattle.std.proofs.lemmas.Bool.{cases_lt}
use Rattle.std.proofs.lemmas.Fmt.{decimal_digit}
use Rattle.std.specs.Fmt.{digits, digits_onto, char_count, padded_integral, format_spec}
use Rattle.words.specs.Octal.{octal_digit, octal_half}

-- n with its lowest octal digit before acc
abbrev onto : ℕ → List ℕ → List ℕ
onto n acc = (48 + n % 8) ∷ acc

-- the lowest k octal digits of n, zeros and all, before acc
abbrev all_digits : ℕ → ℕ → List ℕ → List ℕ
all_digits zero n acc = acc
all_digits (suc k) n acc = all_digits k (n / 8) (onto n acc)

-- the text with zeros before it, up to k more than acc has
abbrev filled : ℕ → List ℕ → List ℕ → List ℕ
filled k acc text = replicate (k + length acc - length text) 48 ++ text

highest_digit : (k n : ℕ) (acc : List ℕ) → n < 8 → digits_onto (suc k) 8 false n acc ≡ onto n acc
highest_digit k n acc small = rw (eq-eqb (n / 8) 0 (omega arith), lt-ltb (n % 8) 10 (omega arith))

lower_digit : (k n : ℕ) (acc : List ℕ) → 8 ≤ n → digits_onto (suc k) 8 false n acc ≡ digits_onto k 8 false (n / 8) (onto n acc)
lower_digit k n acc large = rw (ne_eqb (n / 8) 0 (λ e. omega arith), lt-ltb (n % 8) 10 (omega arith))

one_zero : (k : ℕ) (acc : List ℕ) → 48 ∷ (replicate k 48 ++ acc) ≡ replicate k 48 ++ (48 ∷ acc)
one_zero zero acc = refl
one_zero (suc k) acc = ap (λ l. 48 ∷ l) (one_zero k acc)

all_zeros : (k : ℕ) (acc : List ℕ) → replicate k 48 ++ acc ≡ all_digits k 0 acc
all_zeros zero acc = refl
all_zeros (suc k) acc = one_zero k acc ∙ all_zeros k (48 ∷ acc)

filled_digits : (k fuel n : ℕ) (acc : List ℕ) → k < fuel → n < 8 ^ suc k → filled (suc k) acc (digits_onto fuel 8 false n acc) ≡ all_digits (suc k) n acc
filled_digits k zero n acc room small = absurd (omega arith)
filled_digits zero (suc fuel) n acc room small =
    let none : 1 + length acc - length (onto n acc) ≡ 0 = omega arith in
    rw (highest_digit fuel n acc (omega arith), none)
filled_digits (suc k) (suc fuel) n acc room small =
    let higher = filled_digits k fuel (n / 8) (onto n acc) (omega arith) (omega (arith, pow-suc 8 (suc k))) in
    let same : suc (suc k) + length acc ≡ suc k + length (onto n acc) = omega arith in
    let rest : suc k + length (onto n acc) - length (onto n acc) ≡ suc k = omega arith in
    ⊎_elim
    (λ one. let none : n / 8 ≡ 0 = omega arith in rw (highest_digit fuel n acc one, same, rest, none) (all_zeros (suc k) (onto n acc)))
    (λ more. rw (lower_digit fuel n acc more, same) higher)
    (cases_lt n 8)

filled_integral : (text : List ℕ) → padded_integral (format_spec 32 0 4 5 (2 ^ 64 - 1)) false [] text ≡ filled 5 [] text
unfolding padded_integral char_count
filled_integral text =
    let same : 5 - length text - 0 - 0 ≡ 5 - length text = omega arith in
    rw (append-nil text, same)

one_digit : (n : ℕ) → octal_digit n ≡ onto n []
one_digit n = decimal_digit (n % 8) (omega arith)

five_digits : (n : ℕ) → all_digits 5 n [] ≡ octal_half n
five_digits n =
    let second : n / 8 / 8 ≡ n / 8 ^ 2 = omega arith in
    let third : n / 8 ^ 2 / 8 ≡ n / 8 ^ 3 = omega arith in
    let fourth : n / 8 ^ 3 / 8 ≡ n / 8 ^ 4 = omega arith in
    rw (second, third, fourth, one_digit (n / 8 ^ 4), one_digit (n / 8 ^ 3), one_digit (n / 8 ^ 2), one_digit (n / 8), one_digit n)

pub padded_octal : (n : ℕ) → n < 2 ^ 15 → padded_integral (format_spec 32 0 4 5 (2 ^ 64 - 1)) false [] (digits 8 false n) ≡ octal_half n
unfolding digits
padded_octal n small = filled_integral (digits 8 false n) ∙ filled_digits 4 64 n [] (omega arith) (omega arith) ∙ five_digits n
