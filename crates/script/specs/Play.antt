-- What comes of a line of a script: nothing, if it has no words; a line of the transcript; or what is wrong with it.
use Rattle.std.specs.Prelude.{◌≡◌, ℕ, List, length, if◌then◌else◌, Some, None, Ok, Err, Option, Result, ◌==◌}
use Rattle.script.specs.declared.problem.Problem.{Problem}
use Rattle.script.specs.declared.reason.Reason.{Reason}
use Rattle.script.specs.declared.statement.Statement.{Statement}
use Rattle.script.specs.Line.{words_of}
use Rattle.script.specs.Session.{State, answered, left}
use Rattle.script.specs.Statement.{statement_of}
use Rattle.script.specs.Then.{◌>>=◌}
use Rattle.script.specs.Transcript.{spaced, line_text}

-- the transcript's line for the statement that words make, or why there is none
unfoldable pub said_by : State → List (List ℕ) → Result (List ℕ) Reason
said_by memory words = do
  s ← statement_of words
  a ← answered memory s
  Ok (line_text words a)

-- and the memory after it
abbrev pub left_after : State → Result (Statement (List ℕ)) Reason → State
left_after memory (Ok s) = left memory s
left_after memory (Err e) = memory

unfoldable pub left_by : State → List (List ℕ) → State
left_by memory words = left_after memory (statement_of words)

-- what is wrong is told with the line's number
abbrev pub numbered : ℕ → Result (List ℕ) Reason → Result (Option (List ℕ)) Problem
numbered number (Ok text) = Ok (Some text)
numbered number (Err e) = Err (record { line = number; reason = e })

-- a line without words says nothing and does nothing
unfoldable pub line_played : State → ℕ → List ℕ → Result (Option (List ℕ)) Problem
line_played memory number line = if length (words_of line) == 0 then Ok None else numbered number (said_by memory (words_of line))

unfoldable pub line_left : State → List ℕ → State
line_left memory line = if length (words_of line) == 0 then memory else left_by memory (words_of line)

-- the words of a line, as they stand left of the arrow in the transcript, are a line of the same words
abbrev pub ReadsAgain : List ℕ → Type 0
ReadsAgain line = words_of (spaced (words_of line)) ≡ words_of line
