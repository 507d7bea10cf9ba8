-- What holds of each of several things holds of the one that is chosen, and of what comes of one step after another.
use Rattle.std.proofs.Common.{ℕ, Bool, true, false, ◌==◌, if◌then◌else◌, Result, Ok, Err}
use Rattle.std.specs.Prelude.{IfOk}
use Rattle.processor.specs.Digits.{by_digit}
use Rattle.processor.specs.Then.{◌>>=◌}

pub of_two : {X : Type 0} (P : X → Type 0) (test : Bool) (x y : X) → P x → P y → P (if test then x else y)
of_two P true x y p q = p
of_two P false x y p q = q

pub of_eight : {X : Type 0} (P : X → Type 0) (d : ℕ) (x0 x1 x2 x3 x4 x5 x6 x7 : X) → P x0 → P x1 → P x2 → P x3 → P x4 → P x5 → P x6 → P x7 → P (by_digit d x0 x1 x2 x3 x4 x5 x6 x7)
of_eight P d x0 x1 x2 x3 x4 x5 x6 x7 p0 p1 p2 p3 p4 p5 p6 p7 =
    of_two P (d == 0) x0 _ p0
    (of_two P (d == 1) x1 _ p1
    (of_two P (d == 2) x2 _ p2
    (of_two P (d == 3) x3 _ p3
    (of_two P (d == 4) x4 _ p4
    (of_two P (d == 5) x5 _ p5
    (of_two P (d == 6) x6 x7 p6 p7))))))

-- of what is found if the first step finds something that P holds of, and of what is found whatever that is
pub then_all : {X Y E : Type 0} (P : X → Type 0) (Q : Y → Type 0) (r : Result X E) (f : X → Result Y E) → IfOk r P → ((x : X) → P x → IfOk (f x) Q) → IfOk (r >>= f) Q
then_all P Q (Ok x) f p q = q x p
then_all P Q (Err e) f p q = tt

pub then_any : {X Y E : Type 0} (Q : Y → Type 0) (r : Result X E) (f : X → Result Y E) → ((x : X) → IfOk (f x) Q) → IfOk (r >>= f) Q
then_any Q (Ok x) f q = q x
then_any Q (Err e) f q = tt
