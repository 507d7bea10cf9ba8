-- The words between a worker's limits, by the cells of the row.
use Rattle.std.proofs.Common.{ℕ, ◌≡◌, ◌+◌, ◌<◌, ◌≤◌, List, ◌++◌, length, take, drop, refl, ap, sym, ◌∙◌, arith, nat_lt, append_assoc}
use Rattle.std.proofs.Math.Seq.{take-set-lt}
use Rattle.std.proofs.lemmas.List.{drop-drop, drop-set-add, drop-set-lt, get_or-drop, get_or-take, length-drop, length-take, take-append-drop, take-set-le}
use Rattle.std.specs.Prelude.{slice_set}
use Rattle.store.specs.Cells.{Cell, cell_at, good_cell, with_half}
use Rattle.store.specs.declared.half.Half.{Half}
use Rattle.store.specs.Functions.{fetched, half_put, whole_put}
use Rattle.processor.specs.Limits.{Limits, Becomes, between, row_with}

module _ (row : List Cell) (l : Limits) (r : ℕ) (below : r < l.length) where
  pub cell_between : cell_at (between row l) r ≡ cell_at row (l.lower + r)
  cell_between = get_or-take l.length (drop l.lower row) r _ below ∙ get_or-drop l.lower row r _

  pub exists_between : nat_lt r (length (between row l)) ≡ nat_lt (l.lower + r) (length row)
  exists_between = grind (arith, below, length-take l.length (drop l.lower row), length-drop l.lower row)

  pub fetched_between : fetched (between row l) r ≡ fetched row (l.lower + r)
  fetched_between = rw (exists_between, cell_between) refl

  -- another cell in the row is another word between the limits
  set_between : (c : Cell) → Becomes row l (slice_set (between row l) r c) (slice_set row (l.lower + r) c)
  set_between c = record {
    there = ap (take l.length) (drop-set-add l.lower row r c) ∙ take-set-lt l.length (drop l.lower row) r c below;
    below = take-set-le l.lower row (l.lower + r) c (omega arith);
    above = drop-set-lt (l.lower + l.length) row (l.lower + r) c (omega (arith, below));
  }

  pub whole_between : (w : ℕ) → Becomes row l (whole_put (between row l) r w) (whole_put row (l.lower + r) w)
  whole_between w = set_between (good_cell w)

  pub half_between : (h : Half) (x : ℕ) → Becomes row l (half_put (between row l) r h x) (half_put row (l.lower + r) h x)
  half_between h x = rw cell_between (set_between (with_half (cell_at row (l.lower + r)) h x))

-- where they all lie in the row they are as many as the length
pub all_between : (row : List Cell) (l : Limits) → l.lower + l.length ≤ length row → l.length ≤ length (between row l)
all_between row l within = omega (arith, within, length-take l.length (drop l.lower row), length-drop l.lower row)

pub nothing_becomes : (row : List Cell) (l : Limits) → Becomes row l (between row l) row
nothing_becomes row l = record { there = refl; below = refl; above = refl }

-- a row is what is below the limits, the words between them, and what is above
pub row_again : (row : List Cell) (l : Limits) → row_with row l.lower l.length (between row l) ≡ row
row_again row l =
    append_assoc (take l.lower row) (between row l) (drop (l.lower + l.length) row)
    ∙ ap (λ xs. take l.lower row ++ (between row l ++ xs)) (sym (drop-drop l.length l.lower row))
    ∙ ap (λ xs. take l.lower row ++ xs) (take-append-drop l.length (drop l.lower row))
    ∙ take-append-drop l.lower row

pub becomes_row : (row : List Cell) (l : Limits) (words after : List Cell) → Becomes row l words after → after ≡ row_with row l.lower l.length words
becomes_row row l words after b = sym (row_again after l) ∙ rw (b.there, b.below, b.above) refl
