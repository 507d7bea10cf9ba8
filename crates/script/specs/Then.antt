-- One step after another, where each may find a reason to stop.
use Rattle.std.specs.Prelude.{Ok, Err, Result}
use Rattle.script.specs.declared.reason.Reason.{Reason}

infixl 10 ◌>>=◌
abbrev pub ◌>>=◌ : {X Y : Type 0} → Result X Reason → (X → Result Y Reason) → Result Y Reason
(Ok x) >>= f = f x
(Err e) >>= f = Err e
