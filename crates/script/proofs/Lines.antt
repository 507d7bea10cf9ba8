-- The lines of a script are the parts between line feeds, but for an empty last one, which plays as nothing.
use Rattle.std.proofs.Common.{◌≡◌, ℕ, ◌+◌, ◌<◌, Bool, true, false, cond, List, [], ◌∷◌, ◌++◌, length, Ok, Err, Option, Result, Bor, sym, refl, ap, ◌∙◌, append-nil, arith}
use Rattle.std.specs.Prelude.{◌==◌}
use Rattle.std.specs.List.{enumerate_from, onto_first, slice_split}
use denote.Param.Members.{Mut}
use Rattle.std.specs.declared.iter.Enumerate.{Enumerate}
use Rattle.std.specs.declared.slice.Split.{Split}
use Rattle.std.specs.Fn.{CalledAt}
use Rattle.std.specs.Iterator.Adapters.{enumerate_source, enumerate_count, enumerate_steps}
use Rattle.std.specs.Slice.Iter.{split_rest, split_done, split_callee, split_steps}
use Rattle.std.proofs.lemmas.Iterator.{YieldsList}
use Rattle.std.proofs.lemmas.Iterator.Consumers.{YieldsList-at, YieldsList-from_enumerate}
use Rattle.std.proofs.lemmas.Iterator.Splits.{YieldsList-from_slice_split}
use Rattle.std.proofs.lemmas.List.Splits.{length-slice_split}
use Rattle.script.specs.declared.problem.Problem.{Problem}
use Rattle.script.specs.Line.{begun, lines_after}
use Rattle.script.specs.Play.{line_played, line_left}
use Rattle.script.specs.Script.{Outcome, goes_on, lines_played, script_played}
use Rattle.script.specs.Session.{State, nothing}
use Rattle.script.proofs.Parts.{onto, onto_none, onto_first_again}

abbrev pub is_line_feed : ℕ → Bool
is_line_feed c = c == 10

abbrev pub parts_of : List ℕ → List (List ℕ)
parts_of script = slice_split is_line_feed script

has_parts : (script : List ℕ) → 0 < length (parts_of script)
has_parts script = omega (arith, length-slice_split is_line_feed script)

-- without an empty last part
abbrev trimmed : List (List ℕ) → List (List ℕ)
trimmed [] = []
trimmed (part ∷ []) = begun part
trimmed (part ∷ next ∷ parts) = part ∷ trimmed (next ∷ parts)

trimmed_more : (part : List ℕ) (parts : List (List ℕ)) → 0 < length parts → part ∷ trimmed parts ≡ trimmed (part ∷ parts)
trimmed_more part [] some = absurd (omega arith)
trimmed_more part (next ∷ parts) some = refl

lines_split_after : (l script : List ℕ) → lines_after l script ≡ trimmed (onto l (parts_of script))
lines_split_after l [] = ap begun (sym (append-nil l))
lines_split_after l (c ∷ cs) =
    elim (c == 10) as
    (λ ends. cond ends (l ∷ lines_after [] cs) (lines_after (l ++ c ∷ []) cs) ≡ trimmed (onto l (cond ends ([] ∷ parts_of cs) (onto_first c (parts_of cs))))) [
      | true ↦
          ap (λ ls. l ∷ ls) (lines_split_after [] cs ∙ ap trimmed (onto_none (parts_of cs) (has_parts cs)))
          ∙ trimmed_more l (parts_of cs) (has_parts cs)
          ∙ ap (λ k. trimmed (k ∷ parts_of cs)) (sym (append-nil l))
      | false ↦ lines_split_after (l ++ c ∷ []) cs ∙ ap trimmed (sym (onto_first_again l c (parts_of cs)))
    ]

same_after : (t : List ℕ) (r : Result (Option (List ℕ)) Problem) (rest rest' : List ℕ → Outcome) → ((u : List ℕ) → rest u ≡ rest' u) → goes_on t r rest ≡ goes_on t r rest'
same_after t (Ok text) rest rest' same = same _
same_after t (Err p) rest rest' same = refl

trimmed_plays : (t : List ℕ) (memory : State) (number : ℕ) (parts : List (List ℕ)) → lines_played t memory number parts ≡ lines_played t memory number (trimmed parts)
unfolding lines_played line_played
trimmed_plays t memory number [] = refl
trimmed_plays t memory number ([] ∷ []) = refl
trimmed_plays t memory number ((c ∷ cs) ∷ []) = refl
trimmed_plays t memory number (part ∷ next ∷ parts) =
    same_after t (line_played memory number part) _ _ (λ u. trimmed_plays u (line_left memory part) (number + 1) (next ∷ parts))

-- the parts of a script play as its lines
pub parts_play : (script : List ℕ) → lines_played [] nothing 1 (parts_of script) ≡ script_played script
parts_play script =
    trimmed_plays [] nothing 1 (parts_of script)
    ∙ ap (lines_played [] nothing 1) (ap trimmed (sym (onto_none (parts_of script) (has_parts script))) ∙ sym (lines_split_after [] script))

-- a script that is split at its line feeds and counted gives its parts, numbered from 0
pub numbered_parts : {F : Type 0} (g : Mut F (Bor ℕ × Unit {0}) Bool) {f : F} {split : Split ℕ F} {items iterator : Enumerate (Split ℕ F)} (script : List ℕ)
    → iterator ≡ items → enumerate_source items ≡ split → enumerate_count items ≡ 0
    → split_rest split ≡ script → split_done split ≡ false → split_callee split ≡ f
    → ((x : ℕ) (b : Bool) (q : F) → CalledAt g f x b q → (q ≡ f) × (b ≡ is_line_feed x))
    → YieldsList (enumerate_steps (split_steps g)) (λ (p : ℕ × Bor (List ℕ)). (p.0, p.1.now)) iterator (enumerate_from 0 (parts_of script))
numbered_parts g script gives source count rest done callee computes =
    YieldsList-at gives (YieldsList-from_enumerate (YieldsList-at source (YieldsList-from_slice_split g is_line_feed script rest done callee computes)) count)
