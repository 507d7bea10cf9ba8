-- A row in which only a worker's words become others.
use Rattle.std.proofs.Common.{ℕ, ◌≡◌, ◌+◌, ◌-◌, ◌<◌, ◌≤◌, List, ◌++◌, length, take, drop, ap, sym, ◌∙◌, arith, length-append, ⊎_elim}
use Rattle.std.proofs.lemmas.List.{get_or-drop, get_or-take}
use Rattle.store.specs.Cells.{Cell, cell_at}
use Rattle.processor.specs.Limits.{Limits, Becomes, KeepsOtherCells, between, row_with}
use Rattle.processor.proofs.Between.{becomes_row, row_again}

parts_number : (row : List Cell) (l : Limits) (words : List Cell) → length (row_with row l.lower l.length words) ≡ length (take l.lower row) + length words + length (drop (l.lower + l.length) row)
parts_number row l words = grind (arith, length-append (take l.lower row ++ words) (drop (l.lower + l.length) row), length-append (take l.lower row) words)

module _ (row : List Cell) (l : Limits) (words after : List Cell) (becomes : Becomes row l words after) where
  cell_below : (cell : ℕ) → cell < l.lower → cell_at after cell ≡ cell_at row cell
  cell_below cell below = sym (get_or-take l.lower after cell _ below) ∙ ap (λ cells. cell_at cells cell) becomes.below ∙ get_or-take l.lower row cell _ below

  cell_above : (cell : ℕ) → l.lower + l.length ≤ cell → cell_at after cell ≡ cell_at row cell
  cell_above cell above =
      let past = l.lower + l.length in
      let far : past + (cell - past) ≡ cell = omega (arith, above) in
      ap (cell_at after) (sym far)
      ∙ sym (get_or-drop past after (cell - past) _)
      ∙ ap (λ cells. cell_at cells (cell - past)) becomes.above
      ∙ get_or-drop past row (cell - past) _
      ∙ ap (cell_at row) far

  -- with as many words
  module _ (as_many : length words ≡ length (between row l)) where
    same_number : length after ≡ length row
    same_number =
        ap length (becomes_row row l words after becomes)
        ∙ parts_number row l words
        ∙ ap (λ n. length (take l.lower row) + n + length (drop (l.lower + l.length) row)) as_many
        ∙ sym (parts_number row l (between row l))
        ∙ ap length (row_again row l)

    pub others_kept : KeepsOtherCells row l after
    others_kept = (λ cell outside. ⊎_elim (cell_below cell) (cell_above cell) outside, same_number)
