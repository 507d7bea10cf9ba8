-- Parts that are played one after another, where those in ys are played: one that goes on, one with a problem, and none left.
use Rattle.std.proofs.Common.{◌≡◌, ℕ, ◌+◌, ◌<◌, List, [], ◌∷◌, ◌++◌, length, get_or, drop, Some, None, Ok, Err, Option, sym, ap, ◌∙◌, arith}
use Rattle.std.specs.List.{enumerate_from}
use Rattle.std.proofs.lemmas.List.{at_drop_more, at_drop_all, length_push}
use Rattle.std.proofs.lemmas.List.FromFn.{length-enumerate_from, get_or-enumerate_from}
use Rattle.script.specs.declared.problem.Problem.{Problem}
use Rattle.script.specs.Play.{line_played, line_left}
use Rattle.script.specs.Script.{grown, lines_played}
use Rattle.script.specs.Session.{State}

-- what is the turn of a part, numbered from 0, after k parts
abbrev pub IsTurn : ℕ → List (List ℕ) → ℕ → List ℕ → Type 0
IsTurn k ls i line = (k < length (enumerate_from 0 ls)) × ((i, line) ≡ get_or (enumerate_from 0 ls) k (i, line))

module _ (t : List ℕ) (memory : State) (ls : List (List ℕ)) {X : Type 0} (ys : List X) where
  module _ (i : ℕ) (line : List ℕ) (turn : IsTurn (length ys) ls i line) where
    within : length ys < length ls
    within = omega (arith, turn.0, length-enumerate_from 0 ls)

    abbrev numbered : ℕ → ℕ × List ℕ
    numbered n = (n, get_or ls (length ys) line)

    place : Path (ℕ × List ℕ) (i, line) (numbered (length ys))
    place = let zero : 0 + length ys ≡ length ys = omega arith in turn.1 ∙ get_or-enumerate_from 0 ls (length ys) (i, line) within ∙ ap numbered zero

    here : lines_played t memory (length ys + 1) (drop (length ys) ls) ≡ lines_played t memory (i + 1) (line ∷ drop (length ys + 1) ls)
    here =
        at_drop_more (lines_played t memory (length ys + 1)) ls (length ys) line within
        ∙ ap (λ (p : ℕ × List ℕ). lines_played t memory (p.0 + 1) (p.1 ∷ drop (length ys + 1) ls)) (sym place)

    pub played_bad : (p : Problem) → Err p ≡ line_played memory (i + 1) line → lines_played t memory (length ys + 1) (drop (length ys) ls) ≡ record { transcript = t; problem = Some p }
    unfolding lines_played
    played_bad p e = here ∙ rw (sym e)

    pub played_on : (y : X) (text : Option (List ℕ)) (u : List ℕ) (after : State) → Ok text ≡ line_played memory (i + 1) line → u ≡ grown t text → after ≡ line_left memory line → lines_played u after (length (ys ++ y ∷ []) + 1) (drop (length (ys ++ y ∷ [])) ls) ≡ lines_played t memory (length ys + 1) (drop (length ys) ls)
    unfolding lines_played
    played_on y text u after e grows leaves =
        let longer : length (ys ++ y ∷ []) ≡ i + 1 = length_push ys y ∙ ap (λ (p : ℕ × List ℕ). p.0 + 1) (sym place) in
        let index : i ≡ length ys = ap (λ (p : ℕ × List ℕ). p.0) place in
        rw (longer, grows, leaves) (sym (here ∙ rw (sym e) (ap (λ n. lines_played (grown t text) (line_left memory line) (i + 1 + 1) (drop (n + 1) ls)) (sym index))))

  pub played_all : length ys ≡ length (enumerate_from 0 ls) → lines_played t memory (length ys + 1) (drop (length ys) ls) ≡ record { transcript = t; problem = None }
  unfolding lines_played
  played_all h = at_drop_all (lines_played t memory (length ys + 1)) ls (length ys) (omega (arith, length-enumerate_from 0 ls))
