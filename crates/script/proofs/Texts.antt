-- The laws of what slices hold: how many there are, each by its place, and one more.
use Rattle.std.proofs.Common.{◌≡◌, ℕ, ◌-◌, ◌<◌, List, [], ◌∷◌, ◌++◌, length, get_or, take, drop, sym, refl, arith, Bor}
use lib.ListN.{length-map}
use Rattle.std.proofs.lemmas.List.{get_or-map, map_push, take_rest}
use Rattle.script.specs.Line.{texts}
use Rattle.script.specs.Parts.{nth_word}

pub texts_none : texts [] ≡ []
unfolding texts
texts_none = refl

pub texts_short : (ws : List (Bor (List ℕ))) → length ws < 1 → texts ws ≡ []
unfolding texts
texts_short [] short = refl
texts_short (w ∷ ws) short = absurd (omega arith)

-- the first of them, with the rest as `&ws[1..]` has it
pub texts_first : (ws : List (Bor (List ℕ))) → 0 < length ws → texts ws ≡ (get_or ws 0 (record { ref_ptr = (0, 0); now = [] })).now ∷ texts (take (length ws - 1) (drop 1 ws))
unfolding texts
texts_first [] some = absurd (omega arith)
texts_first (w ∷ ws) some = rw (take_rest (w ∷ ws) 1)

pub texts_push : (ws : List (Bor (List ℕ))) (w : Bor (List ℕ)) → texts (ws ++ w ∷ []) ≡ texts ws ++ w.now ∷ []
unfolding texts
texts_push ws w = map_push (λ t. t.now) ws w

pub length_texts : (ws : List (Bor (List ℕ))) → length (texts ws) ≡ length ws
unfolding texts
length_texts ws = length-map ws (λ t. t.now)

pub text_at : (ws : List (Bor (List ℕ))) (i : ℕ) (d : Bor (List ℕ)) → i < length ws → (get_or ws i d).now ≡ nth_word (texts ws) i
unfolding texts
text_at ws i d within = sym (get_or-map (λ t. t.now) ws i d [] within)
