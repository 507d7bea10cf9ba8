-- What holds of a result if it is Ok.
use Rattle.std.proofs.Common.{◌≡◌, Bool, true, false, Result, Ok, Err, refl, subst}
use Rattle.std.specs.Prelude.{IfOk}
use Rattle.processor.specs.Then.{◌>>=◌}
use Rattle.engine.specs.declared.refusal.Refusal.{Refusal}
use Rattle.engine.specs.Refusals.{require}

abbrev pub OkIs : {X E : Type 0} → (X → Type 0) → Result X E → Type 0
OkIs P r = IfOk r P

-- it holds of a step after another if it holds whatever the first one gave
pub then_ok : {X Y E : Type 0} → (P : Y → Type 0) (r : Result X E) (f : X → Result Y E) → ((x : X) → r ≡ Ok x → OkIs P (f x)) → OkIs P (r >>= f)
then_ok P (Ok x) f holds = holds x refl
then_ok P (Err e) f holds = tt

-- and so of what it gave
pub ok_is : {X E : Type 0} → (P : X → Type 0) (r : Result X E) (x : X) → r ≡ Ok x → OkIs P r → P x
ok_is P r x gave holds = subst (OkIs P) gave holds

-- what follows a test that is required holds if the test was met
pub required_then : {Y : Type 0} → (P : Y → Type 0) (b : Bool) (e : Refusal) (r : Result Y Refusal) → (b ≡ true → OkIs P r) → OkIs P (require b e >>= (λ _. r))
required_then P true e r holds = holds refl
required_then P false e r holds = tt
