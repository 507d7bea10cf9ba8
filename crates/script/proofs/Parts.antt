-- The parts that a list of bytes is cut into, after the bytes of a part that has begun.
use Rattle.std.proofs.Common.{◌≡◌, ℕ, ◌<◌, List, [], ◌∷◌, ◌++◌, length, sym, refl, ap, append_assoc, arith}
use Rattle.std.specs.List.{onto_first}

-- bytes put before the first part
abbrev pub onto : List ℕ → List (List ℕ) → List (List ℕ)
onto w [] = w ∷ []
onto w (part ∷ parts) = (w ++ part) ∷ parts

pub onto_none : (parts : List (List ℕ)) → 0 < length parts → onto [] parts ≡ parts
onto_none [] some = absurd (omega arith)
onto_none (part ∷ parts) some = refl

pub onto_first_again : (w : List ℕ) (c : ℕ) (parts : List (List ℕ)) → onto w (onto_first c parts) ≡ onto (w ++ c ∷ []) parts
onto_first_again w c [] = refl
onto_first_again w c (part ∷ parts) = ap (λ l. l ∷ parts) (sym (append_assoc w (c ∷ []) part))
