-- What a function gives that may run out of memory.
use Rattle.std.specs.Prelude.{◌≡◌, ℕ, ◌⊎◌, Bool, true, false, Ok, Err, Result}
use Rattle.script.specs.declared.failure.Failure.{Failure}
use Rattle.script.specs.declared.failure.Failure.TheVariants.{OutOfMemory, Wrong}
use Rattle.script.specs.declared.problem.Problem.{Problem}
use Rattle.script.specs.declared.reason.Reason.{Reason}

-- what was returned, seen by view, is what was due, unless memory ran out
abbrev pub Gives : {X Y E : Type 0} → (X → Y) → Result X (Failure E) → Result Y E → Type 0
Gives view (Ok x) due = Ok (view x) ≡ due
Gives view (Err (OutOfMemory e)) due = Unit {0}
Gives view (Err (Wrong e)) due = Err e ≡ due

abbrev pub ran_out : {X E : Type 0} → Result X (Failure E) → Bool
ran_out (Ok x) = false
ran_out (Err (OutOfMemory e)) = true
ran_out (Err (Wrong e)) = false

-- a change is made; where memory ran out, wholly or not at all
abbrev pub Leaves : {X E M : Type 0} → Result X (Failure E) → (old due new : M) → Type 0
Leaves (Ok x) old due new = new ≡ due
Leaves (Err (OutOfMemory e)) old due new = (new ≡ old) ⊎ (new ≡ due)
Leaves (Err (Wrong e)) old due new = new ≡ due

-- what is wrong with a line is told with its number
abbrev pub at_line : ℕ → Failure Reason → Failure Problem
at_line number (OutOfMemory e) = OutOfMemory e
at_line number (Wrong e) = Wrong (record { line = number; reason = e })
