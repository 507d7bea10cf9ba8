-- What holds of the reason why a step finds nothing, if it finds nothing.
use Rattle.std.proofs.Common.{◌≡◌, Result, Ok, Err, refl}
use Rattle.std.specs.Prelude.{IfErr}
use Rattle.processor.specs.Then.{◌>>=◌}

-- it holds of one step after another if it holds of both, whatever the first one finds
pub then_err : {X Y E : Type 0} → (P : E → Type 0) (r : Result X E) (f : X → Result Y E) → IfErr r P → ((x : X) → r ≡ Ok x → IfErr (f x) P) → IfErr (r >>= f) P
then_err P (Ok x) f first later = later x refl
then_err P (Err e) f first later = first
