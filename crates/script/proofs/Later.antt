-- What comes later in a script leaves the transcript so far.
use Rattle.std.proofs.Common.{◌≡◌, ℕ, ◌+◌, true, false, cond, eqb, List, [], ◌∷◌, ◌++◌, Some, None, Ok, Err, Option, Result, sym, refl, ap, ◌∙◌, append_assoc, append-nil}
use Rattle.script.specs.declared.problem.Problem.{Problem}
use Rattle.script.specs.Line.{lines_after, lines_of}
use Rattle.script.specs.Play.{line_played, line_left}
use Rattle.script.specs.Script.{Outcome, grown, goes_on, lines_played, TranscriptStays}
use Rattle.script.specs.Session.{State, nothing}

abbrev Begins : {X : Type 0} → List X → List X → Type 0
Begins {X} xs ys = (rest : List X) × (xs ≡ ys ++ rest)

-- the lines of a script are the first of those of a longer one
lines_begin : (l script more : List ℕ) → Begins (lines_after l (script ++ 10 ∷ more)) (lines_after l script)
lines_begin [] [] more = ([] ∷ lines_of more, refl)
lines_begin (x ∷ l) [] more = (lines_of more, refl)
lines_begin l (c ∷ cs) more =
    elim (eqb c 10) as
    (λ b. Begins (cond b (l ∷ lines_after [] (cs ++ 10 ∷ more)) (lines_after (l ++ c ∷ []) (cs ++ 10 ∷ more))) (cond b (l ∷ lines_after [] cs) (lines_after (l ++ c ∷ []) cs))) [
      | true ↦ let p = lines_begin [] cs more in (p.0, ap (λ ls. l ∷ ls) p.1)
      | false ↦ lines_begin (l ++ c ∷ []) cs more
    ]

ends : (t : List ℕ) → Begins t t
ends t = ([], sym (append-nil t))

-- a transcript only grows
grows_after : (t : List ℕ) (r : Result (Option (List ℕ)) Problem) (rest : List ℕ → Outcome) → ((u : List ℕ) → Begins (rest u).transcript u) → Begins (goes_on t r rest).transcript t
grows_after t (Ok None) rest h = h t
grows_after t (Ok (Some text)) rest h =
    let p = h ((t ++ text) ++ 10 ∷ []) in
    (text ++ 10 ∷ p.0, p.1 ∙ append_assoc (t ++ text) (10 ∷ []) p.0 ∙ append_assoc t text (10 ∷ p.0))
grows_after t (Err e) rest h = ends t

grows : (t : List ℕ) (memory : State) (number : ℕ) (ls : List (List ℕ)) → Begins (lines_played t memory number ls).transcript t
unfolding lines_played
grows t memory number [] = ends t
grows t memory number (l ∷ ls) = grows_after t (line_played memory number l) _ (λ u. grows u (line_left memory l) (number + 1) ls)

-- more lines leave the transcript of those before them
stays_after : (t : List ℕ) (r : Result (Option (List ℕ)) Problem) (rest rest' : List ℕ → Outcome) → ((u : List ℕ) → Begins (rest u).transcript (rest' u).transcript) → Begins (goes_on t r rest).transcript (goes_on t r rest').transcript
stays_after t (Ok text) rest rest' h = h (grown t text)
stays_after t (Err e) rest rest' h = ends t

stays : (t : List ℕ) (memory : State) (number : ℕ) (ls more : List (List ℕ)) → Begins (lines_played t memory number (ls ++ more)).transcript (lines_played t memory number ls).transcript
unfolding lines_played
stays t memory number [] more = grows t memory number more
stays t memory number (l ∷ ls) more = stays_after t (line_played memory number l) _ _ (λ u. stays u (line_left memory l) (number + 1) ls more)

pub transcript_stays : (script : List ℕ) → TranscriptStays script
transcript_stays script more =
    let p = lines_begin [] script more in
    let q = stays [] nothing 1 (lines_of script) p.0 in
    (q.0, ap (λ ls. (lines_played [] nothing 1 ls).transcript) p.1 ∙ q.1)
