-- A record as it is read.
use Rattle.std.proofs.Common.{◌≡◌, ℕ, ◌^◌, ◌<◌, ltb, false, List, [], ◌∷◌, ◌++◌, length, Ok, refl, ap, ◌∙◌, arith}
use Rattle.std.proofs.lemmas.Bool.{le-ltb, lt-ltb}
use Rattle.std.proofs.lemmas.Nat.{from_be_bytes-to_be_bytes_2, from_be_bytes-to_be_bytes_4}
use Rattle.std.specs.Int.{w16, w32, to_be_bytes, from_be_bytes}
use Rattle.std.specs.List.{AllByRecursion}
use Rattle.records.specs.Registers.{Registers, Fits}
use Rattle.records.specs.Record.{record_of, record_read, registers_in, too_wide}

-- reading what was written, of seven numbers for B1 to B7
abbrev ReadsAgain : ℕ → ℕ → List ℕ → ℕ → Type 0
ReadsAgain a q b p = (rest : List ℕ) → record_read (record_of (record { a = a; q = q; b = b; p = p }) ++ rest) ≡ Ok (record { a = a; q = q; b = b; p = p })

of_seven : (a q p b1 b2 b3 b4 b5 b6 b7 : ℕ) → a < 2 ^ 30 → q < 2 ^ 30 → AllByRecursion (λ x. x < 2 ^ 15) (b1 ∷ b2 ∷ b3 ∷ b4 ∷ b5 ∷ b6 ∷ b7 ∷ []) → p < 2 ^ 17 → ReadsAgain a q (b1 ∷ b2 ∷ b3 ∷ b4 ∷ b5 ∷ b6 ∷ b7 ∷ []) p
unfolding record_of record_read registers_in too_wide
of_seven a q p b1 b2 b3 b4 b5 b6 b7 fa fq (f1, (f2, (f3, (f4, (f5, (f6, (f7, _))))))) fp rest =
    let bytes = record_of (record { a = a; q = q; b = b1 ∷ b2 ∷ b3 ∷ b4 ∷ b5 ∷ b6 ∷ b7 ∷ []; p = p }) ++ rest in
    let long : ltb (length bytes) 29 ≡ false = le-ltb (length bytes) 29 (omega arith) in
    let a-is : from_be_bytes w32 (to_be_bytes w32 a) ≡ a = from_be_bytes-to_be_bytes_4 a (omega arith) in
    let q-is : from_be_bytes w32 (to_be_bytes w32 q) ≡ q = from_be_bytes-to_be_bytes_4 q (omega arith) in
    let b1-is : from_be_bytes w16 (to_be_bytes w16 b1) ≡ b1 = from_be_bytes-to_be_bytes_2 b1 (omega arith) in
    let b2-is : from_be_bytes w16 (to_be_bytes w16 b2) ≡ b2 = from_be_bytes-to_be_bytes_2 b2 (omega arith) in
    let b3-is : from_be_bytes w16 (to_be_bytes w16 b3) ≡ b3 = from_be_bytes-to_be_bytes_2 b3 (omega arith) in
    let b4-is : from_be_bytes w16 (to_be_bytes w16 b4) ≡ b4 = from_be_bytes-to_be_bytes_2 b4 (omega arith) in
    let b5-is : from_be_bytes w16 (to_be_bytes w16 b5) ≡ b5 = from_be_bytes-to_be_bytes_2 b5 (omega arith) in
    let b6-is : from_be_bytes w16 (to_be_bytes w16 b6) ≡ b6 = from_be_bytes-to_be_bytes_2 b6 (omega arith) in
    let b7-is : from_be_bytes w16 (to_be_bytes w16 b7) ≡ b7 = from_be_bytes-to_be_bytes_2 b7 (omega arith) in
    let p-is : from_be_bytes w32 (to_be_bytes w32 p) ≡ p = from_be_bytes-to_be_bytes_4 p (omega arith) in
    rw (
      long,
      a-is,
      q-is,
      b1-is,
      b2-is,
      b3-is,
      b4-is,
      b5-is,
      b6-is,
      b7-is,
      p-is,
      lt-ltb a (2 ^ 30) fa,
      lt-ltb q (2 ^ 30) fq,
      lt-ltb b1 (2 ^ 15) f1,
      lt-ltb b2 (2 ^ 15) f2,
      lt-ltb b3 (2 ^ 15) f3,
      lt-ltb b4 (2 ^ 15) f4,
      lt-ltb b5 (2 ^ 15) f5,
      lt-ltb b6 (2 ^ 15) f6,
      lt-ltb b7 (2 ^ 15) f7,
      lt-ltb p (2 ^ 17) fp,
    )
    refl

of_list : (a q p : ℕ) (b : List ℕ) → length b ≡ 7 → a < 2 ^ 30 → q < 2 ^ 30 → AllByRecursion (λ x. x < 2 ^ 15) b → p < 2 ^ 17 → ReadsAgain a q b p
of_list a q p (b1 ∷ b2 ∷ b3 ∷ b4 ∷ b5 ∷ b6 ∷ b7 ∷ []) seven fa fq fb fp = of_seven a q p b1 b2 b3 b4 b5 b6 b7 fa fq fb fp
of_list a q p _ seven fa fq fb fp = absurd (omega arith)

pub reads_again : (r : Registers) (bytes rest : List ℕ) → Fits r → bytes ≡ record_of r → record_read (bytes ++ rest) ≡ Ok r
reads_again r bytes rest fits is = ap (λ (l : List ℕ). record_read (l ++ rest)) is ∙ of_list r.a r.q r.p r.b fits.2 fits.0 fits.1 fits.3 fits.4 rest
