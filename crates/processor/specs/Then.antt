-- What follows on a result: the first failure ends it.
use Rattle.std.specs.Prelude.{Ok, Err, Result}

infixl 10 ◌>>=◌
abbrev pub ◌>>=◌ : {X Y E : Type 0} → Result X E → (X → Result Y E) → Result Y E
(Ok x) >>= f = f x
(Err e) >>= f = Err e
