-- The laws of the parity store's row: its length, its halves, and what a changed number changes.
use Rattle.std.specs.Prelude.{◌≡◌, ℕ, ◌+◌, ◌*◌, ◌/◌, ◌%◌, ◌^◌, ◌<◌, ◌≤◌, min, List, length, take, set, Some, slice_get, slice_index, slice_index_or, slice_set, refl}
use Rattle.std.proofs.Common.{⊎_elim, sym, ap, subst, ◌∙◌, arith}
use Rattle.std.proofs.lemmas.Option.{get_or_from_slice_get, slice_get_read}
use Rattle.std.proofs.lemmas.List.{set_past, set-set, get_or-set_same}
use Rattle.std.proofs.lemmas.Bool.{cases_lt}
use Rattle.words.specs.Words.{upper_half, lower_half}
use Rattle.store.specs.declared.half.Half.{Half}
use Rattle.store.specs.declared.half.Half.TheVariants.{Upper, Lower}
use Rattle.store.specs.Cells.{HalfCell, Cell, CellFits, cell_at, part, good_half, with_half, good_cell, most_cells}
use Rattle.store.specs.Functions.{half_put, whole_put}
use Rattle.stores.specs.Parity.{half_of, paired, cell_count, row_of, half_number, index_of, half_written, whole_written, half_at, with_number, number_replaced}
use Rattle.stores.specs.Cut.{length_cut, cut_within, cut_at, cut_changed}
use Rattle.stores.specs.Odd.{half_number_good}
use Rattle.stores.specs.Paired.{length_paired, paired_set, paired_at}

pub length_row : (xs : List ℕ) → length (row_of xs) ≡ cell_count xs
unfolding row_of
length_row xs = length_cut most_cells (paired xs) ∙ ap (λ n. min n most_cells) (length_paired xs)

pub row_bounded : (xs : List ℕ) → length (row_of xs) ≤ most_cells
row_bounded xs = omega (arith, length_row xs)

-- the numbers of a cell stand in the memory
pub index_within : (xs : List ℕ) (a : ℕ) (h : Half) → a < cell_count xs → index_of a h < length xs
index_within xs a Upper low = omega arith
index_within xs a Lower low = omega arith

pub row_at : (xs : List ℕ) (a : ℕ) (h : Half) → a < length (row_of xs) → part (cell_at (row_of xs) a) h ≡ half_of (slice_index xs (index_of a h))
unfolding row_of
row_at xs a h within =
    ap (λ c. part c h) (cut_at most_cells (paired xs) a (good_cell 0) within)
    ∙ paired_at xs a h (cut_within most_cells (paired xs) a within)

-- what a number that was taken from a half's place tells
pub row_taken : (xs : List ℕ) (a : ℕ) (h : Half) (i x : ℕ) → a < length (row_of xs) → i ≡ index_of a h → slice_get xs i ≡ Some x → half_of x ≡ part (cell_at (row_of xs) a) h
row_taken xs a h i x within place read =
    ap half_of (sym (get_or_from_slice_get xs i x 0 read) ∙ ap (slice_index xs) place) ∙ sym (row_at xs a h within)

-- the same of a read, where the count tells that there is such a cell
pub row_read : (xs : List ℕ) (a : ℕ) (h : Half) (x : ℕ) → a < cell_count xs → x ≡ slice_index_or xs (index_of a h) x → (a < length (row_of xs)) × (half_of x ≡ part (cell_at (row_of xs) a) h)
row_read xs a h x low read =
    let within : a < length (row_of xs) = omega (arith, length_row xs) in
    (within, row_taken xs a h (index_of a h) x within refl (slice_get_read xs (length xs) (index_of a h) x refl (index_within xs a h low) read))

pub row_fits : (xs : List ℕ) (a : ℕ) → a < length (row_of xs) → CellFits (cell_at (row_of xs) a)
row_fits xs a within =
    let small : HalfCell → Type 0 = λ half. half.value < 2 ^ 15 in
    (subst small (sym (row_at xs a Upper within)) (omega arith), subst small (sym (row_at xs a Lower within)) (omega arith))

-- any number of the memory, also one that no cell has
pub row_replaced : (xs : List ℕ) (i y : ℕ) → row_of (slice_set xs i y) ≡ number_replaced (row_of xs) i y
unfolding row_of
row_replaced xs i y =
    ap (take most_cells) (paired_set xs i y)
    ∙ cut_changed most_cells (paired xs) (λ c. with_number c (half_at i) y) (i / 2) (good_cell 0)

-- past the memory's end there is none
pub row_past : (xs : List ℕ) (i y : ℕ) → length xs ≤ i → row_of xs ≡ number_replaced (row_of xs) i y
row_past xs i y past = ap row_of (sym (set_past xs i y past)) ∙ row_replaced xs i y

-- a number that holds a good half, under one half of a cell
with_good : (c : Cell) (h : Half) (x v : ℕ) → half_of x ≡ good_half v → with_number c h x ≡ with_half c h v
with_good c Upper x v good = let make : HalfCell → Cell = λ half. record { upper = half; lower = c.lower } in ap make good
with_good c Lower x v good = let make : HalfCell → Cell = λ half. record { upper = c.upper; lower = half } in ap make good

module _ (cs : List Cell) (a : ℕ) where
  -- the number at a half's place is that half of that cell
  replaced_at : (h : Half) (x : ℕ) → number_replaced cs (index_of a h) x ≡ slice_set cs a (with_number (cell_at cs a) h x)
  replaced_at Upper x =
      let cell : 2 * a / 2 ≡ a = omega arith in
      let even : 2 * a % 2 ≡ 0 = omega arith in
      rw (cell, even)
  replaced_at Lower x =
      let cell : (2 * a + 1) / 2 ≡ a = omega arith in
      let odd : (2 * a + 1) % 2 ≡ 1 = omega arith in
      rw (cell, odd)

  -- a word put half by half
  halves_put : (w : ℕ) → half_put (half_put cs a Upper (upper_half w)) a Lower (lower_half w) ≡ whole_put cs a w
  halves_put w =
      let upper = with_half (cell_at cs a) Upper (upper_half w) in
      let both : Cell → Cell = λ c. with_half c Lower (lower_half w) in
      let old = cell_at (slice_set cs a upper) a in
      set-set cs a upper (both old)
      ∙ ⊎_elim
      (λ low. ap (λ c. set cs a (both c)) (get_or-set_same cs a upper (good_cell 0) low))
      (λ past. set_past cs a (both old) past ∙ sym (set_past cs a (good_cell w) past))
      (cases_lt a (length cs))

-- a half or a word written to the memory is one put in the row
pub row_half : (xs : List ℕ) (a : ℕ) (h : Half) (v : ℕ) → row_of (half_written xs a h v) ≡ half_put (row_of xs) a h v
row_half xs a h v =
    let x = half_number v in
    row_replaced xs (index_of a h) x ∙ replaced_at (row_of xs) a h x
    ∙ ap (set (row_of xs) a) (with_good (cell_at (row_of xs) a) h x v (half_number_good v))

pub row_whole : (xs : List ℕ) (a w : ℕ) → row_of (whole_written xs a w) ≡ whole_put (row_of xs) a w
row_whole xs a w =
    row_half (half_written xs a Upper (upper_half w)) a Lower (lower_half w)
    ∙ ap (λ cs. half_put cs a Lower (lower_half w)) (row_half xs a Upper (upper_half w))
    ∙ halves_put (row_of xs) a w
