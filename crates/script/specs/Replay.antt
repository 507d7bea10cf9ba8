-- What a script answers to its calls: what the definition answers to the same calls on a new installation over the row of the script's memories.
use Rattle.std.specs.Prelude.{◌≡◌, ℕ, List, [], ◌∷◌, ◌++◌, length, if◌then◌else◌, None, Ok, Err, Result, map, ◌==◌}
use Rattle.engine.specs.Exchanges.{answers_in, exchanges}
use Rattle.engine.specs.Installation.{made}
use Rattle.engine.specs.declared.answer.Answer.{Answer}
use Rattle.engine.specs.declared.call.Call.{Call}
use Rattle.memories.specs.Any.{Memories, row_of}
use Rattle.script.specs.declared.answer.Answer.TheVariants as answer
use Rattle.script.specs.declared.reason.Reason.{Reason}
use Rattle.script.specs.declared.statement.Statement.{Statement}
use Rattle.script.specs.declared.statement.Statement.TheVariants as st
use Rattle.script.specs.Line.{words_of, lines_of}
use Rattle.script.specs.Play.{line_left}
use Rattle.script.specs.Script.{lines_played, script_played}
use Rattle.script.specs.Session.{State, nothing, with_memories}
use Rattle.script.specs.Statement.{statement_of}
use Rattle.script.specs.Transcript.{line_text}

-- a line that makes a call: its words, and the call
pub record Asking : Type 0 where
  pub words : List (List ℕ)
  pub call : Call (List ℕ)

-- a line's call before those that come later; after an install every other statement is bad, and nothing comes after it
abbrev pub asking_first : List (List ℕ) → Result (Statement (List ℕ)) Reason → List Asking → List Asking
asking_first words (Ok (st.Call c)) later = record { words = words; call = c } ∷ later
asking_first words (Ok (st.Memory l)) later = []
asking_first words (Ok (st.Raw side i v)) later = []
asking_first words (Ok (st.Operation o)) later = []
asking_first words (Ok st.Install) later = []
asking_first words (Err e) later = []

-- of the lines after an install those that make calls, up to the end or to the first bad line; a line without words makes none and is not bad
unfoldable pub askings : List (List ℕ) → List Asking
askings [] = []
askings (line ∷ lines) = if length (words_of line) == 0 then askings lines else asking_first (words_of line) (statement_of (words_of line)) (askings lines)

abbrev pub calls_of : List Asking → List (Call (List ℕ))
calls_of asked = map (λ a. a.call) asked

-- their lines in the transcript, one for each answer
unfoldable pub answered_lines : List Asking → List (Answer (List ℕ)) → List ℕ
answered_lines [] answers = []
answered_lines (a ∷ later) [] = []
answered_lines (a ∷ later) (r ∷ answers) = line_text a.words (answer.Call r) ++ 10 ∷ answered_lines later answers

-- what lines leave
unfoldable pub lines_left : State → List (List ℕ) → State
lines_left state [] = state
lines_left state (line ∷ lines) = lines_left (line_left state line) lines

-- lines from a script's beginning of which none is bad and which leave memories, and then a line that installs
pub record Installs (before : List (List ℕ)) (ms : Memories) (line : List ℕ) : Type 0 where
  pub good : (lines_played [] nothing 1 before).problem ≡ None
  pub leaves : lines_left nothing before ≡ with_memories ms
  pub install : statement_of (words_of line) ≡ Ok st.Install

-- after the lines up to its install a script's transcript has the lines of its calls, with the answers of their replay
abbrev pub AnswersAreReplay : List ℕ → Type 0
AnswersAreReplay script = (before : List (List ℕ)) (ms : Memories) (line : List ℕ) (after : List (List ℕ))
    → lines_of script ≡ before ++ line ∷ after
    → Installs before ms line
    → (script_played script).transcript
    ≡ (lines_played [] nothing 1 (before ++ line ∷ [])).transcript ++ answered_lines (askings after) (answers_in (exchanges (made (row_of ms)) (calls_of (askings after))))
