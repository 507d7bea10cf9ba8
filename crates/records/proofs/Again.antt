-- What was read is written again.
use Rattle.std.proofs.Common.{◌≡◌, ℕ, ◌+◌, ◌-◌, ◌<◌, ◌≤◌, Bool, true, false, if◌then◌else◌, not, nat_lt, ◌==◌, Option, Some, None, List, [], ◌∷◌, ◌++◌, length, take, drop, get_or, Result, Ok, Err, IfOk, refl, ap, sym, ◌∙◌, arith, inl, inr}
use Rattle.std.proofs.lemmas.Bool.{cases_lt, eqb-true, ltb-false}
use Rattle.std.proofs.lemmas.List.{take-append-drop, take-take, drop-take, drop-drop, drop_more, length-take, length-drop, get_or-take, get_or-drop, get_or_past}
use Rattle.std.proofs.lemmas.Nat.{be_bytes_2, be_bytes_4}
use Rattle.std.specs.Int.{w16, w32, to_be_bytes}
use Rattle.records.specs.Registers.{Registers}
use Rattle.records.specs.Record.{record_of, record_read, registers_in, fields_read, too_wide, two_at, four_at}
use Rattle.records.specs.declared.fault.RecordFault.{RecordFault}
use Rattle.records.specs.declared.fault.RecordFault.TheVariants.{TooShort, WrongLength, WrongVersion}

-- each is below 256
abbrev pub Small : List ℕ → Type 0
Small bytes = (i : ℕ) → get_or bytes i 0 < 256

small_part : (bytes : List ℕ) (at n : ℕ) → Small bytes → Small (take n (drop at bytes))
small_part bytes at n small i =
    elim (cases_lt i n) [
      | inl lt ↦ rw (get_or-take n (drop at bytes) i 0 lt, get_or-drop at bytes i 0) (small (at + i))
      | inr le ↦ rw (get_or_past (take n (drop at bytes)) i 0 (omega (arith, length-take n (drop at bytes)))) (omega arith)
    ]

-- a part of the bytes, and those after it
more : (bytes part rest : List ℕ) (at n m : ℕ) → part ≡ take n (drop at bytes) → rest ≡ take m (drop (at + n) bytes) → part ++ rest ≡ take (n + m) (drop at bytes)
more bytes part rest at n m is after =
    let tail : List ℕ = drop at bytes in
    let first : take n (take (n + m) tail) ≡ take n tail = take-take n (n + m) tail (omega arith) in
    let second : drop n (take (n + m) tail) ≡ take m (drop (at + n) bytes) = drop-take n m tail ∙ ap (take m) (drop-drop n at bytes) in
    ap (λ (l : List ℕ). l ++ rest) (is ∙ sym first) ∙ ap (λ (l : List ℕ). take n (take (n + m) tail) ++ l) (after ∙ sym second) ∙ take-append-drop n (take (n + m) tail)

module _ (bytes : List ℕ) (long : 29 ≤ length bytes) (small : Small bytes) where
  two_is : (at : ℕ) → at + 2 ≤ 29 → to_be_bytes w16 (two_at bytes at) ≡ take 2 (drop at bytes)
  two_is at within =
      let part : List ℕ = take (at + 2 - at) (drop at bytes) in
      let count : at + 2 - at ≡ 2 = omega arith in
      let size : length part ≡ 2 = omega (arith, length-take (at + 2 - at) (drop at bytes), length-drop at bytes) in
      be_bytes_2 part (two_at bytes at) size (small_part bytes at (at + 2 - at) small) refl ∙ ap (λ (n : ℕ). take n (drop at bytes)) count

  four_is : (at : ℕ) → at + 4 ≤ 29 → to_be_bytes w32 (four_at bytes at) ≡ take 4 (drop at bytes)
  four_is at within =
      let part : List ℕ = take (at + 4 - at) (drop at bytes) in
      let count : at + 4 - at ≡ 4 = omega arith in
      let size : length part ≡ 4 = omega (arith, length-take (at + 4 - at) (drop at bytes), length-drop at bytes) in
      be_bytes_4 part (four_at bytes at) size (small_part bytes at (at + 4 - at) small) refl ∙ ap (λ (n : ℕ). take n (drop at bytes)) count

  two : (at m : ℕ) (rest : List ℕ) → at + 2 ≤ 29 → rest ≡ take m (drop (at + 2) bytes) → to_be_bytes w16 (two_at bytes at) ++ rest ≡ take (2 + m) (drop at bytes)
  two at m rest within after = more bytes (to_be_bytes w16 (two_at bytes at)) rest at 2 m (two_is at within) after

  four : (at m : ℕ) (rest : List ℕ) → at + 4 ≤ 29 → rest ≡ take m (drop (at + 4) bytes) → to_be_bytes w32 (four_at bytes at) ++ rest ≡ take (4 + m) (drop at bytes)
  four at m rest within after = more bytes (to_be_bytes w32 (four_at bytes at)) rest at 4 m (four_is at within) after

  again : two_at bytes 0 ≡ 27 → get_or bytes 2 0 ≡ 1 → record_of (registers_in bytes) ≡ take 29 bytes
  unfolding record_of registers_in
  again length_is version_is =
      let length_field : to_be_bytes w16 27 ≡ take 2 (drop 0 bytes) = ap (to_be_bytes w16) (sym length_is) ∙ two_is 0 (omega arith) in
      let version_field : 1 ∷ [] ≡ take 1 (drop 2 bytes) = ap (λ (n : ℕ). n ∷ []) (sym version_is) ∙ sym (ap (take 1) (drop_more bytes 2 0 (omega arith))) in
      let p_field : to_be_bytes w32 (four_at bytes 25) ≡ take 4 (drop 25 bytes) = four_is 25 (omega arith) in
      let b5_on = two 19 8 _ (omega arith) (two 21 6 _ (omega arith) (two 23 4 _ (omega arith) p_field)) in
      let b1_on = two 11 16 _ (omega arith) (two 13 14 _ (omega arith) (two 15 12 _ (omega arith) (two 17 10 _ (omega arith) b5_on))) in
      let a_on = four 3 22 _ (omega arith) (four 7 18 _ (omega arith) b1_on) in
      more bytes (to_be_bytes w16 27) _ 0 2 27 length_field (more bytes (1 ∷ []) _ 2 1 26 version_field a_on)

-- what was read is known to be a record
past : (test : Bool) (fault : RecordFault) (next : Result Registers RecordFault) (r : Registers) → Ok r ≡ (if test then Err fault else next) → (test ≡ false) × (Ok r ≡ next)
past true fault next r is = absurd cc
past false fault next r is = (refl, is)

holds : (test : Bool) → not test ≡ false → test ≡ true
holds true is = refl
holds false is = absurd cc

taken : (bytes : List ℕ) (wide : Option ℕ) (r : Registers) → Ok r ≡ fields_read bytes wide → r ≡ registers_in bytes
taken bytes None r is = cc
taken bytes (Some at) r is = absurd cc

of_read : (bytes : List ℕ) (r : Registers) → Small bytes → Ok r ≡ record_read bytes → record_of r ≡ take 29 bytes
unfolding record_read
of_read bytes r small is =
    let long = past (nat_lt (length bytes) 29) TooShort _ r is in
    let length_told = past (not (two_at bytes 0 == 27)) WrongLength _ r long.1 in
    let version = past (not (get_or bytes 2 0 == 1)) WrongVersion _ r length_told.1 in
    ap record_of (taken bytes (too_wide bytes) r version.1)
    ∙ again bytes (ltb-false _ _ long.0) small (eqb-true _ _ (holds _ length_told.0)) (eqb-true _ _ (holds _ version.0))

pub written_again : (bytes : List ℕ) (read : Result Registers RecordFault) → Small bytes → read ≡ record_read bytes → IfOk read (λ r. record_of r ≡ take 29 bytes)
written_again bytes (Ok r) small is = of_read bytes r small is
written_again bytes (Err fault) small is = tt
