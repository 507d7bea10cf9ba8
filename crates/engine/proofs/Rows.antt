-- A worker's words in the row: put there they are found there, and the words of other cells stay.
use Rattle.std.proofs.Common.{ℕ, ◌≡◌, ◌+◌, ◌-◌, ◌≤◌, List, ◌++◌, length, take, drop, ap, sym, ◌∙◌, arith, length-append, append_assoc}
use Rattle.std.proofs.lemmas.List.{length-take, length-drop, length-take-le, take_at, drop_at, drop-take, take-take}
use Rattle.std.proofs.lemmas.Slice.{drop-append-drop}
use Rattle.store.specs.Cells.{Cell}
use Rattle.processor.specs.Limits.{words_in, row_with}

-- words that lie in front of a place are those of the cells in front of it
in_front : (row : List Cell) (l k m : ℕ) → k + m ≤ l → take m (drop k (take l row)) ≡ take m (drop k row)
in_front row l k m below =
    let rest = l - k in
    ap (λ j. take m (drop k (take j row))) (omega (arith, below))
    ∙ ap (take m) (drop-take k rest row)
    ∙ take-take m rest (drop k row) (omega (arith, below))

module _ (row : List Cell) (l n : ℕ) (inside : l + n ≤ length row) where
  pub words_number : length (words_in row l n) ≡ n
  words_number = omega (arith, inside, length-take n (drop l row), length-drop l row)

  module _ (words : List Cell) (as_many : length words ≡ n) where
    pub row_number : length (row_with row l n words) ≡ length row
    row_number = omega (arith, inside, as_many, length-append (take l row ++ words) (drop (l + n) row), length-append (take l row) words, length-take l row, length-drop (l + n) row)

    pub words_there : words_in (row_with row l n words) l n ≡ words
    words_there =
        ap (λ xs. take n (drop l xs)) (append_assoc (take l row) words (drop (l + n) row))
        ∙ ap (take n) (drop_at (take l row) (words ++ drop (l + n) row) l (length-take-le l row (omega (arith, inside))))
        ∙ take_at words (drop (l + n) row) n as_many

    pub words_above : (k m : ℕ) → l + n ≤ k → words_in (row_with row l n words) k m ≡ words_in row k m
    words_above k m above = ap (take m) (drop-append-drop (l + n) row (take l row ++ words) k above (omega (arith, as_many, inside, length-append (take l row) words, length-take l row)))

    pub words_below : (k m : ℕ) → k + m ≤ l → words_in (row_with row l n words) k m ≡ words_in row k m
    words_below k m below =
        let kept : take l (row_with row l n words) ≡ take l row =
        ap (take l) (append_assoc (take l row) words (drop (l + n) row))
        ∙ take_at (take l row) (words ++ drop (l + n) row) l (length-take-le l row (omega (arith, inside))) in
        sym (in_front (row_with row l n words) l k m below) ∙ ap (λ xs. take m (drop k xs)) kept ∙ in_front row l k m below
