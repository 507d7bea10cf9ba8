-- The lines after an install answer as the replay of their calls does.
use Rattle.std.proofs.Common.{◌≡◌, ℕ, ◌+◌, true, false, cond, List, [], ◌∷◌, ◌++◌, length, Some, None, Ok, Err, Option, Result, sym, ap, ◌∙◌, subst, append_assoc, append-nil, arith}
use Rattle.std.specs.Prelude.{◌==◌}
use Rattle.std.proofs.lemmas.Bool.{ne_eqb}
use Rattle.engine.specs.Exchanges.{answers_in, exchanges}
use Rattle.engine.specs.Installation.{Installation, made}
use Rattle.engine.specs.Performing.{performed}
use Rattle.memories.specs.Any.{Memories, row_of}
use Rattle.script.specs.declared.answer.Answer.TheVariants as answer
use Rattle.script.specs.declared.problem.Problem.{Problem}
use Rattle.script.specs.declared.reason.Reason.{Reason}
use Rattle.script.specs.declared.statement.Statement.{Statement}
use Rattle.script.specs.declared.statement.Statement.TheVariants as st
use Rattle.script.specs.Line.{words_of}
use Rattle.script.specs.Play.{line_played, line_left, said_by, left_by, left_after, numbered}
use Rattle.script.specs.Replay.{Asking, asking_first, askings, calls_of, answered_lines, lines_left, AnswersAreReplay}
use Rattle.script.specs.Script.{Outcome, grown, goes_on, lines_played}
use Rattle.script.specs.Session.{State, nothing, with_memories, installed, answered}
use Rattle.script.specs.Statement.{statement_of}
use Rattle.script.specs.Then.{◌>>=◌}
use Rattle.script.specs.Transcript.{line_text}

-- the transcript's lines for calls on an installation
abbrev replayed : Installation → List Asking → List ℕ
replayed i asked = answered_lines asked (answers_in (exchanges i (calls_of asked)))

nothing_more : (t : List ℕ) (i : Installation) → t ≡ t ++ replayed i []
unfolding answered_lines exchanges
nothing_more t i = sym (append-nil t)

one_more : (t : List ℕ) (i : Installation) (a : Asking) (later : List Asking)
    → (grown t (Some (line_text a.words (answer.Call (performed i a.call).answer)))) ++ replayed (performed i a.call).installation later ≡ t ++ replayed i (a ∷ later)
unfolding answered_lines exchanges
one_more t i a later =
    let text : List ℕ = line_text a.words (answer.Call (performed i a.call).answer) in
    let more : List ℕ = replayed (performed i a.call).installation later in
    append_assoc (t ++ text) (10 ∷ []) more ∙ append_assoc t text (10 ∷ more)

-- what a line with words comes to on an installation, by its statement
module _ (i : Installation) (number : ℕ) (lines : List (List ℕ)) (t : List ℕ) (words : List (List ℕ)) where
  abbrev plays_by : Result (Statement (List ℕ)) Reason → List ℕ
  plays_by r = (goes_on t (numbered number (r >>= (λ s. answered (installed i) s >>= (λ a. Ok (line_text words a))))) (λ u. lines_played u (left_after (installed i) r) (number + 1) lines)).transcript

  by_statement : (r : Result (Statement (List ℕ)) Reason)
      → ((u : List ℕ) (j : Installation) → (lines_played u (installed j) (number + 1) lines).transcript ≡ u ++ replayed j (askings lines))
      → plays_by r ≡ t ++ replayed i (asking_first words r (askings lines))
  by_statement (Ok (st.Call c)) rest = rest _ (performed i c).installation ∙ one_more t i (record { words = words; call = c }) (askings lines)
  by_statement (Ok (st.Memory l)) rest = nothing_more t i
  by_statement (Ok (st.Raw side j v)) rest = nothing_more t i
  by_statement (Ok (st.Operation o)) rest = nothing_more t i
  by_statement (Ok st.Install) rest = nothing_more t i
  by_statement (Err e) rest = nothing_more t i

on_installation : (t : List ℕ) (i : Installation) (number : ℕ) (lines : List (List ℕ)) → (lines_played t (installed i) number lines).transcript ≡ t ++ replayed i (askings lines)
unfolding lines_played askings line_played line_left said_by left_by
on_installation t i number [] = nothing_more t i
on_installation t i number (line ∷ lines) =
    let words : List (List ℕ) = words_of line in
    elim (length words == 0) as
    (λ empty. (goes_on t (cond empty (Ok None) (numbered number (said_by (installed i) words))) (λ u. lines_played u (cond empty (installed i) (left_by (installed i) words)) (number + 1) lines)).transcript ≡ t ++ replayed i (cond empty (askings lines) (asking_first words (statement_of words) (askings lines)))) [
      | true ↦ on_installation t i (number + 1) lines
      | false ↦ by_statement i number lines t words (statement_of words) (λ u j. on_installation u j (number + 1) lines)
    ]

-- a line that installs has words
some_words : (words : List (List ℕ)) → statement_of words ≡ Ok st.Install → (length words == 0) ≡ false
unfolding statement_of
some_words [] install = absurd cc
some_words (w ∷ words) install = ne_eqb _ 0 (λ e. omega arith)

-- what a line that installs comes to
install_plays : (t : List ℕ) (ms : Memories) (number : ℕ) (line : List ℕ) (lines : List (List ℕ)) → statement_of (words_of line) ≡ Ok st.Install
    → lines_played t (with_memories ms) number (line ∷ lines) ≡ lines_played (grown t (Some (line_text (words_of line) answer.Done))) (installed (made (row_of ms))) (number + 1) lines
unfolding lines_played line_played line_left said_by left_by
install_plays t ms number line lines install = rw (some_words (words_of line) install, install)

-- lines that are not bad are passed over
passed : (t : List ℕ) (r : Result (Option (List ℕ)) Problem) (before long short : List ℕ → Outcome) (more : List ℕ)
    → ((u : List ℕ) → (before u).problem ≡ None → (long u).transcript ≡ (short u).transcript ++ more)
    → (goes_on t r before).problem ≡ None → (goes_on t r long).transcript ≡ (goes_on t r short).transcript ++ more
passed t (Ok text) before long short more rest good = rest (grown t text) good
passed t (Err p) before long short more rest good = absurd cc

up_to_install : (t : List ℕ) (state : State) (number : ℕ) (before : List (List ℕ)) (ms : Memories) (line : List ℕ) (after : List (List ℕ))
    → (lines_played t state number before).problem ≡ None
    → lines_left state before ≡ with_memories ms
    → statement_of (words_of line) ≡ Ok st.Install
    → (lines_played t state number (before ++ line ∷ after)).transcript ≡ (lines_played t state number (before ++ line ∷ [])).transcript ++ replayed (made (row_of ms)) (askings after)
unfolding lines_played lines_left
up_to_install t state number [] ms line after good leaves install =
    let text : List ℕ = grown t (Some (line_text (words_of line) answer.Done)) in
    let here : (lines_played t (with_memories ms) number (line ∷ after)).transcript ≡ (lines_played t (with_memories ms) number (line ∷ [])).transcript ++ replayed (made (row_of ms)) (askings after)
    = ap (λ o. o.transcript) (install_plays t ms number line after install)
    ∙ on_installation text (made (row_of ms)) (number + 1) after
    ∙ ap (λ o. o.transcript ++ replayed (made (row_of ms)) (askings after)) (sym (install_plays t ms number line [] install)) in
    subst (λ s. (lines_played t s number (line ∷ after)).transcript ≡ (lines_played t s number (line ∷ [])).transcript ++ replayed (made (row_of ms)) (askings after)) (sym leaves) here
up_to_install t state number (l ∷ before) ms line after good leaves install =
    passed t (line_played state number l) _ _ _ _
    (λ u rest. up_to_install u (line_left state l) (number + 1) before ms line after rest leaves install) good

pub answers_are_replay : (script : List ℕ) → AnswersAreReplay script
answers_are_replay script before ms line after lines installs =
    ap (λ ls. (lines_played [] nothing 1 ls).transcript) lines
    ∙ up_to_install [] nothing 1 before ms line after installs.good installs.leaves installs.install
