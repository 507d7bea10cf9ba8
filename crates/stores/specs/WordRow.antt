-- The laws of the word store's row: its length, its cells, and what a changed number changes.
use Rattle.std.specs.Prelude.{◌≡◌, ℕ, ◌*◌, ◌/◌, ◌<◌, ◌≤◌, min, List, map, length, take, Some, get_or, slice_get, slice_index, slice_index_or, slice_set, refl}
use Rattle.std.proofs.Common.{sym, ap, ◌∙◌, subst, arith}
use Rattle.std.proofs.lemmas.List.{map-set}
use Rattle.std.proofs.lemmas.Option.{get_or_from_slice_get, slice_get-get_or, slice_get_read}
use Rattle.store.specs.Cells.{cell_at, CellFits, good_cell, most_cells}
use Rattle.stores.specs.Word.{cell_of, cell_count, row_of, number_replaced}
use Rattle.stores.specs.Cut.{cut_changed}
use Rattle.stores.specs.Mapped.{length_mapped, mapped_at}

pub length_row : (xs : List ℕ) → length (row_of xs) ≡ cell_count xs
unfolding row_of
length_row xs = length_mapped cell_of most_cells xs

-- the same, told of one number to a cell
pub length_row_by_one : (xs : List ℕ) → length (row_of xs) ≡ min (length xs / 1) most_cells
length_row_by_one xs = omega (arith, length_row xs)

pub row_bounded : (xs : List ℕ) → length (row_of xs) ≤ most_cells
row_bounded xs = omega (arith, length_row xs)

-- what a cell of the row is
pub row_at : (xs : List ℕ) (a : ℕ) → a < length (row_of xs) → (x : ℕ) → slice_get xs a ≡ Some x → cell_at (row_of xs) a ≡ cell_of x
unfolding row_of
row_at xs a within x read = mapped_at cell_of most_cells xs a within x (get_or_from_slice_get xs a x x read) (good_cell 0)

pub row_fits : (xs : List ℕ) (a : ℕ) → a < length (row_of xs) → CellFits (cell_at (row_of xs) a)
row_fits xs a within =
    let x = get_or xs a 0 in
    let cell = row_at xs a within x (slice_get-get_or xs a 0 (omega (arith, length_row xs))) in
    subst CellFits (sym cell) (omega arith, omega arith)

-- what a number that was taken from a cell's place tells
pub row_taken : (xs : List ℕ) (a i x : ℕ) → a < length (row_of xs) → i ≡ a * 1 → slice_get xs i ≡ Some x → (cell_of x ≡ cell_at (row_of xs) a) × (x ≡ slice_index xs a)
row_taken xs a i x within place read =
    let here : slice_get xs a ≡ Some x = subst (λ k. slice_get xs k ≡ Some x) (omega arith) read in
    (sym (row_at xs a within x here), sym (get_or_from_slice_get xs a x 0 here))

-- the same of a read, where the count tells that there is such a cell
pub row_read : (xs : List ℕ) (a x : ℕ) → a < cell_count xs → x ≡ slice_index_or xs a x → (a < length (row_of xs)) × (cell_of x ≡ cell_at (row_of xs) a) × (x ≡ slice_index xs a)
row_read xs a x low read =
    let within : a < length (row_of xs) = omega (arith, length_row xs) in
    let taken = row_taken xs a a x within (omega arith) (slice_get_read xs (length xs) a x refl (omega arith) read) in
    (within, taken.0, taken.1)

-- any number of the memory, also one that no cell has
pub row_replaced : (xs : List ℕ) (i y : ℕ) → row_of (slice_set xs i y) ≡ number_replaced (row_of xs) i y
unfolding row_of
row_replaced xs i y = ap (map cell_of) (cut_changed most_cells xs (λ _. y) i 0) ∙ map-set cell_of (take most_cells xs) i y
