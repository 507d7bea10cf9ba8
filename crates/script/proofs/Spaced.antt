-- The words of a line with a space after each: none, one more, and all; and that they make the line again.
use Rattle.std.proofs.Common.{◌≡◌, ℕ, ◌+◌, ◌<◌, ◌≤◌, List, [], ◌∷◌, ◌++◌, length, get_or, take, sym, refl, ap, ◌∙◌, append_assoc, append-nil, arith, Bor}
use Rattle.std.proofs.lemmas.List.{flat_map_more, take_all, take_more}
use Rattle.std.proofs.lemmas.Bool.{ne_eqb}
use Rattle.std.specs.List.{AllByRecursion}
use Rattle.script.specs.Line.{begun, words_after, words_of, texts, Plain, Word}
use Rattle.script.specs.Play.{ReadsAgain}
use Rattle.script.specs.Transcript.{spaced}
use Rattle.script.proofs.Texts.{length_texts, text_at}
use Rattle.script.proofs.Words.{all_words}

pub spaced_none : spaced [] ≡ []
unfolding spaced
spaced_none = refl

pub spaced_more : (xs : List ℕ) (ws : List (Bor (List ℕ))) (i : ℕ) (d : Bor (List ℕ)) → i < length ws → xs ≡ spaced (take i (texts ws)) → (xs ++ (get_or ws i d).now) ++ 32 ∷ [] ≡ spaced (take (i + 1) (texts ws))
unfolding spaced
spaced_more xs ws i d within e =
    let more = take_more (texts ws) i [] (omega (arith, length_texts ws)) in
    append_assoc xs (get_or ws i d).now (32 ∷ [])
    ∙ ap (λ w. xs ++ (w ++ 32 ∷ [])) (text_at ws i d within)
    ∙ ap (λ l. l ++ (get_or (texts ws) i [] ++ 32 ∷ [])) e
    ∙ flat_map_more (λ w. w ++ 32 ∷ []) [] (take i (texts ws)) (get_or (texts ws) i [])
    ∙ ap spaced (sym more)

pub spaced_all : (ws : List (Bor (List ℕ))) (i : ℕ) → length ws ≤ i → spaced (take i (texts ws)) ≡ spaced (texts ws)
spaced_all ws i h = ap spaced (take_all i (texts ws) (omega (arith, length_texts ws)))

-- a word and a space after it
word_read : (w v rest : List ℕ) → AllByRecursion Plain w → words_after v (w ++ 32 ∷ rest) ≡ begun (v ++ w) ++ words_of rest
word_read [] v rest h = ap (λ l. begun l ++ words_of rest) (sym (append-nil v))
word_read (c ∷ w) v rest h =
    rw (ne_eqb c 35 h.0.1, ne_eqb c 32 h.0.0)
    (word_read w (v ++ c ∷ []) rest h.1 ∙ ap (λ l. begun l ++ words_of rest) (append_assoc v (c ∷ []) w))

spaced_again : (ws : List (List ℕ)) → AllByRecursion Word ws → words_of (spaced ws) ≡ ws
unfolding spaced
spaced_again [] h = refl
spaced_again ([] ∷ ws) h = absurd (omega (arith, h.0.0))
spaced_again ((c ∷ w) ∷ ws) h =
    ap words_of (append_assoc (c ∷ w) (32 ∷ []) (spaced ws))
    ∙ word_read (c ∷ w) [] (spaced ws) h.0.1
    ∙ ap (λ l. (c ∷ w) ∷ l) (spaced_again ws h.1)

pub reads_again : (line : List ℕ) → ReadsAgain line
reads_again line = spaced_again (words_of line) (all_words [] line tt)
