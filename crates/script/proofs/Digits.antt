-- The reading of digits, one at a time.
use Rattle.std.proofs.Common.{◌≡◌, ℕ, ◌+◌, ◌*◌, ◌^◌, ◌<◌, ◌≤◌, min, Bool, cond, ltb, List, [], ◌∷◌, length, get_or, drop, Ok, Err, Result, sym, ap, ◌∙◌, ⊎_elim, le-mul_of_pos_right, arith}
use Rattle.std.specs.Str.Parse.{digits_value_after}
use Rattle.std.specs.Char.{digit_value, is_digit}
use Rattle.std.specs.List.{list_all}
use Rattle.std.proofs.lemmas.List.{drop_more, at_drop_all}
use Rattle.std.proofs.lemmas.Bool.{cases_lt, le-ltb, lt-ltb}
use Rattle.script.specs.declared.reason.Reason.{Reason}
use Rattle.script.specs.declared.reason.Reason.TheVariants.{NotANumber, TooLarge}

-- each byte is a digit of the base
abbrev pub all_digits : ℕ → List ℕ → Bool
all_digits b ds = list_all (λ c. is_digit c b) ds

-- the number that is read on, after the number n so far
abbrev pub after : ℕ → ℕ → List ℕ → Result ℕ Reason
after b n ds = cond (all_digits b ds) (cond (ltb (digits_value_after b n ds) (2 ^ 32)) (Ok (digits_value_after b n ds)) (Err TooLarge)) (Err NotANumber)

value_after_ge : (b n : ℕ) (ds : List ℕ) → 0 < b → n ≤ digits_value_after b n ds
value_after_ge b n [] pos = omega arith
value_after_ge b n (c ∷ cs) pos = omega (arith, value_after_ge b (n * b + digit_value c) cs pos, le-mul_of_pos_right n pos)

past : (b n : ℕ) (ds : List ℕ) → 0 < b → 2 ^ 32 ≤ n → after b n ds ≡ cond (all_digits b ds) (Err TooLarge) (Err NotANumber)
past b n ds pos h = rw (le-ltb (digits_value_after b n ds) (2 ^ 32) (omega (arith, value_after_ge b n ds pos)))

-- a number past the bound may stay at the bound
capped : (b n m : ℕ) (ds : List ℕ) → 0 < b → m ≡ min n (2 ^ 32) → after b m ds ≡ after b n ds
capped b n m ds pos e =
    ⊎_elim
    (λ h. let same : m ≡ n = omega arith in ap (λ k. after b k ds) same)
    (λ h. past b m ds pos (omega arith) ∙ sym (past b n ds pos h))
    (cases_lt n (2 ^ 32))

-- the digit at i is read
pub digit_read : (b n m i : ℕ) (ds : List ℕ) → i < length ds → digit_value (get_or ds i 0) < b → m ≡ min (n * b + digit_value (get_or ds i 0)) (2 ^ 32) → after b m (drop (i + 1) ds) ≡ after b n (drop i ds)
digit_read b n m i ds lt h e =
    let d = digit_value (get_or ds i 0) in
    capped b (n * b + d) m (drop (i + 1) ds) (omega arith) e ∙ rw (drop_more ds i 0 lt, lt-ltb d b h)

-- the byte at i is no digit
pub no_digit : (b n i : ℕ) (ds : List ℕ) → i < length ds → (digit_value (get_or ds i 0) < b → ⊥) → Err NotANumber ≡ after b n (drop i ds)
no_digit b n i ds lt h = rw (drop_more ds i 0 lt, le-ltb (digit_value (get_or ds i 0)) b (omega arith))

-- every byte is read
pub all_read : (b n i : ℕ) (ds : List ℕ) → length ds ≤ i → after b n (drop i ds) ≡ cond (ltb n (2 ^ 32)) (Ok n) (Err TooLarge)
all_read b n i ds h = at_drop_all (after b n) ds i h
