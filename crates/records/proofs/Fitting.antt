-- The registers that are read of a record fit.
use Rattle.std.proofs.Common.{ℕ, ◌≡◌, ◌^◌, ◌<◌, Bool, true, false, nat_lt, if◌then◌else◌, List, [], ◌∷◌, Option, Some, None, Result, Err, refl, arith}
use Rattle.std.specs.List.{AllByRecursion}
use Rattle.std.specs.Prelude.{IfOk}
use Rattle.std.specs.Option.{option_or}
use Rattle.records.specs.Record.{record_read, registers_in, too_wide, fields_read, first_wide, b_fields, two_at, four_at}
use Rattle.records.specs.Registers.{Registers, Fits}
use Rattle.records.specs.declared.fault.RecordFault.{RecordFault}

-- where no number is too wide all fit
first_fits : (bits x at : ℕ) (rest : Option ℕ) → (if nat_lt x (2 ^ bits) then rest else Some at) ≡ None → (x < 2 ^ bits) × (rest ≡ None)
first_fits bits x at rest none = by_test (nat_lt x (2 ^ bits)) refl none
  where
    by_test : (b : Bool) → nat_lt x (2 ^ bits) ≡ b → (if b then rest else Some at) ≡ None → (x < 2 ^ bits) × (rest ≡ None)
    by_test true fits none = (grind (arith, fits), none)
    by_test false wide none = absurd cc

none_wide : (bits : ℕ) (number : ℕ → ℕ) (offsets : List ℕ) → first_wide bits number offsets ≡ None → AllByRecursion (λ at. number at < 2 ^ bits) offsets
none_wide bits number [] none = tt
none_wide bits number (at ∷ rest) none =
    let (fits, rest_none) = first_fits bits (number at) at (first_wide bits number rest) none in
    (fits, none_wide bits number rest rest_none)

neither : (x y : Option ℕ) → option_or x y ≡ None → (x ≡ None) × (y ≡ None)
neither None y none = (refl, none)
neither (Some at) y none = absurd cc

registers_fit : (bytes : List ℕ) → too_wide bytes ≡ None → Fits (registers_in bytes)
unfolding too_wide registers_in
registers_fit bytes none =
    let (aq, bp) = neither _ _ none in
    let (b, p) = neither _ _ bp in
    let fit_aq = none_wide 30 (four_at bytes) (3 ∷ 7 ∷ []) aq in
    let fit_p = none_wide 17 (four_at bytes) (25 ∷ []) p in
    (fit_aq.0, fit_aq.1.0, refl, none_wide 15 (two_at bytes) b_fields b, fit_p.0)

unless : (b : Bool) (e : RecordFault) (r : Result Registers RecordFault) → IfOk r Fits → IfOk (if b then Err e else r) Fits
unless true e r fits = tt
unless false e r fits = fits

fields_fit : (bytes : List ℕ) (wide : Option ℕ) → (wide ≡ None → Fits (registers_in bytes)) → IfOk (fields_read bytes wide) Fits
fields_fit bytes None fits = fits refl
fields_fit bytes (Some at) fits = tt

pub read_fits : (bytes : List ℕ) → IfOk (record_read bytes) Fits
unfolding record_read
read_fits bytes = search (unless, fields_fit, registers_fit)
