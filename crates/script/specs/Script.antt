-- What a whole script comes to: the transcript of its lines, up to the first that has a problem.
use Rattle.std.specs.Prelude.{◌≡◌, ℕ, ◌+◌, List, [], ◌∷◌, ◌++◌, Some, None, Ok, Err, vec_items, Option, Result}
use Rattle.script.specs.declared.failure.Failure.{Failure}
use Rattle.script.specs.declared.failure.Failure.TheVariants.{OutOfMemory, Wrong}
use Rattle.script.specs.declared.player.Played.{Played}
use Rattle.script.specs.declared.problem.Problem.{Problem}
use Rattle.script.specs.Line.{lines_of}
use Rattle.script.specs.Play.{line_played, line_left}
use Rattle.script.specs.Session.{State, nothing}

pub record Outcome : Type 0 where
  pub transcript : List ℕ
  pub problem : Option Problem

abbrev pub told_by : Played → Outcome
told_by p = record { transcript = vec_items p.transcript; problem = p.problem }

-- what playing gives that wrote a transcript is the outcome that was due, unless memory ran out
abbrev pub Tells : List ℕ → Result (Unit {0}) (Failure Problem) → Outcome → Type 0
Tells t (Ok u) due = record { transcript = t; problem = None } ≡ due
Tells t (Err (OutOfMemory e)) due = Unit {0}
Tells t (Err (Wrong p)) due = record { transcript = t; problem = Some p } ≡ due

-- a transcript with one line more, if there is one
abbrev pub grown : List ℕ → Option (List ℕ) → List ℕ
grown t None = t
grown t (Some text) = (t ++ text) ++ 10 ∷ []

-- after what a line came to, the rest follows; a problem ends it
abbrev pub goes_on : List ℕ → Result (Option (List ℕ)) Problem → (List ℕ → Outcome) → Outcome
goes_on t (Ok text) rest = rest (grown t text)
goes_on t (Err p) rest = record { transcript = t; problem = Some p }

-- lines, of which the first has a number, after the transcript t
unfoldable pub lines_played : List ℕ → State → ℕ → List (List ℕ) → Outcome
lines_played t memory number [] = record { transcript = t; problem = None }
lines_played t memory number (line ∷ lines) = goes_on t (line_played memory number line) (λ u. lines_played u (line_left memory line) (number + 1) lines)

-- a script is played from nothing, and its lines count from 1
abbrev pub script_played : List ℕ → Outcome
script_played script = lines_played [] nothing 1 (lines_of script)

-- what follows a script on a new line leaves its transcript as it is, and goes on after it
abbrev pub TranscriptStays : List ℕ → Type 0
TranscriptStays script = (more : List ℕ) → (rest : List ℕ) × ((script_played (script ++ 10 ∷ more)).transcript ≡ (script_played script).transcript ++ rest)
