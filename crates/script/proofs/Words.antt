-- The words of a line, one byte and one word at a time.
use Rattle.std.proofs.Common.{◌≡◌, ℕ, ◌+◌, ◌-◌, ◌<◌, ◌≤◌, eqb, ◌⊎◌, List, [], ◌∷◌, ◌++◌, length, get_or, take, drop, sym, refl, ap, ◌∙◌, ⊎_elim, append_assoc, append-nil, arith}
use Rattle.std.specs.List.{AllByRecursion}
use Rattle.std.proofs.ByRecursion.{All-append, All-push}
use Rattle.std.proofs.lemmas.List.{drop_all, drop_more, take_more, take_rest}
use Rattle.std.proofs.lemmas.Bool.{cond_both, eqb-false, ne_eqb}
use Rattle.script.specs.Line.{begun, words_after, words_of, Plain, Word}

-- the byte at i goes on with the word
pub goes_on : (i : ℕ) (line : List ℕ) → i < length line → (get_or line i 0 ≡ 32 → ⊥) → (get_or line i 0 ≡ 35 → ⊥) → words_after (take (i + 1) line) (drop (i + 1) line) ≡ words_after (take i line) (drop i line)
goes_on i line lt p q = rw (take_more line i 0 lt, drop_more line i 0 lt, ne_eqb (get_or line i 0) 32 p, ne_eqb (get_or line i 0) 35 q)

-- a space or a # at i ends it
pub stops : (i : ℕ) (line : List ℕ) → i < length line → (get_or line i 0 ≡ 32) ⊎ (get_or line i 0 ≡ 35) → words_after (take i line) (drop i line) ≡ begun (take i line) ++ words_of (drop i line)
stops i line lt h =
    rw (drop_more line i 0 lt)
    (⊎_elim (λ e. rw e) (λ e. rw e (sym (append-nil (begun (take i line))))) h)

-- and so does the end of the line
pub finishes : (i : ℕ) (line : List ℕ) → length line ≤ i → words_after (take i line) (drop i line) ≡ begun (take i line) ++ words_of (drop i line)
finishes i line h = rw (drop_all i line h) (sym (append-nil (begun (take i line))))

-- a space before a word; what follows it is as `&rest[1..]` has it
pub skips : (rest : List ℕ) → 0 < length rest → get_or rest 0 0 ≡ 32 → words_of (take (length rest - 1) (drop 1 rest)) ≡ words_of rest
skips [] h e = absurd (omega arith)
skips (c ∷ cs) h e = rw (e, take_rest (c ∷ cs) 1)

-- no word is left
pub none_left : (rest : List ℕ) → (length rest < 1) ⊎ (get_or rest 0 0 ≡ 35) → words_of rest ≡ []
none_left [] h = refl
none_left (c ∷ cs) h = ⊎_elim (λ short. absurd (omega arith)) (λ e. rw e) h

-- the next word is found
pub one_more : (ws : List (List ℕ)) (word rest after all : List ℕ) → ws ++ words_of rest ≡ words_of all → words_of rest ≡ begun word ++ words_of after → 0 < length word → (ws ++ word ∷ []) ++ words_of after ≡ words_of all
one_more ws [] rest after all h e some = absurd (omega arith)
one_more ws (c ∷ w) rest after all h e some = append_assoc ws ((c ∷ w) ∷ []) (words_of after) ∙ ap (λ l. ws ++ l) (sym e) ∙ h

begun_word : (w : List ℕ) → AllByRecursion Plain w → AllByRecursion Word (begun w)
begun_word [] h = tt
begun_word (c ∷ w) h = ((omega arith, h), tt)

pub all_words : (w line : List ℕ) → AllByRecursion Plain w → AllByRecursion Word (words_after w line)
all_words w [] h = begun_word w h
all_words w (c ∷ cs) h =
    cond_both (eqb c 35) _ _ (AllByRecursion Word) (λ _. begun_word w h)
    (λ p. cond_both (eqb c 32) _ _ (AllByRecursion Word)
    (λ _. All-append Word (begun w) (words_of cs) (begun_word w h) (all_words [] cs tt))
    (λ q. all_words (w ++ c ∷ []) cs (All-push Plain w c h (eqb-false c 32 q, eqb-false c 35 p))))
