-- Two rows made one: the row of a pair of stores, and the rule by which its addresses go to the two.
use Rattle.std.specs.Prelude.{◌≡◌, ℕ, ◌+◌, ◌-◌, ◌*◌, ◌/◌, ◌%◌, ◌<◌, min, if◌then◌else◌, List, [], ◌∷◌, ◌++◌, length, take, ◌==◌, nat_lt, slice_set}
use Rattle.store.specs.Cells.{Cell, cell_at, good_cell, with_half, most_cells}
use Rattle.store.specs.declared.half.Half.{Half}
use Rattle.pairs.specs.declared.pair.Pair.{Pair}
use Rattle.pairs.specs.declared.place.Place.{Place}
use Rattle.pairs.specs.declared.place.Side.{Side}
use Rattle.pairs.specs.declared.place.Side.TheVariants.{First, Second}
use Rattle.pairs.specs.declared.rule.Rule.{Rule}
use Rattle.pairs.specs.declared.rule.Rule.TheVariants.{Continuous, Interleaved}

-- the rows of the two stores
pub record Rows : Type 0 where
  pub first : List Cell
  pub second : List Cell

abbrev pub rows : {F S : Type 0} → (F → List Cell) → (S → List Cell) → Pair F S → Rows
rows cells_f cells_s p = record { first = cells_f p.first; second = cells_s p.second }

-- a cell of the one and a cell of the other in turn, as far as both reach
unfoldable pub in_turn : List Cell → List Cell → List Cell
in_turn [] ds = []
in_turn (c ∷ cs) [] = []
in_turn (c ∷ cs) (d ∷ ds) = c ∷ (d ∷ in_turn cs ds)

-- all the cells of the two by the rule, and the row of a pair: cells past 131,072 are not used
unfoldable pub whole_row : Rule → Rows → List Cell
whole_row Continuous rs = rs.first ++ rs.second
whole_row Interleaved rs = in_turn rs.first rs.second

unfoldable pub pair_row : Rule → Rows → List Cell
pair_row rule rs = take most_cells (whole_row rule rs)

-- the row that a pair means, by what its two stores mean
abbrev pub row : {F S : Type 0} → (F → List Cell) → (S → List Cell) → Pair F S → List Cell
row cells_f cells_s p = pair_row p.rule (rows cells_f cells_s p)

-- the count of a pair, from the counts of the two
abbrev pub pair_count : Rule → ℕ → ℕ → ℕ
pair_count Continuous m n = min (m + n) most_cells
pair_count Interleaved m n = min (2 * min m n) most_cells

-- a place by its side and its address
abbrev pub at : Side → ℕ → Place
at side a = record { side = side; address = record { 0 = a } }

-- the side whose turn it is
abbrev pub turn : ℕ → Side
turn a = if a % 2 == 0 then First else Second

-- the address rule: in which store a cell of the pair lies, and at which address there; m is the first store's count
abbrev pub place_of : Rule → ℕ → ℕ → Place
place_of Continuous m a = if nat_lt a m then at First a else at Second (a - m)
place_of Interleaved m a = at (turn a) (a / 2)

-- how many cells a pair has, and the place of each
abbrev pub count_of : {F S : Type 0} → (F → List Cell) → (S → List Cell) → Pair F S → ℕ
count_of cells_f cells_s p = pair_count p.rule (length (cells_f p.first)) (length (cells_s p.second))

abbrev pub place_in : {F S : Type 0} → (F → List Cell) → Pair F S → ℕ → Place
place_in cells_f p a = place_of p.rule (length (cells_f p.first)) a

-- the row of one of the two
abbrev pub row_at : Rows → Side → List Cell
row_at rs First = rs.first
row_at rs Second = rs.second

-- the cell at a place, and the two rows with another cell there
abbrev pub cell_in : Rows → Place → Cell
cell_in rs p = cell_at (row_at rs p.side) p.address.0

abbrev pub set_at : Rows → Side → ℕ → Cell → Rows
set_at rs First a c = record rs { first = slice_set rs.first a c }
set_at rs Second a c = record rs { second = slice_set rs.second a c }

abbrev pub set_in : Rows → Place → Cell → Rows
set_in rs p c = set_at rs p.side p.address.0 c

-- what is put is put to the store at a side, and the other store is the very same
abbrev pub PutThere : {F S : Type 0} → (F → ℕ → F → Type 0) → (S → ℕ → S → Type 0) → Side → ℕ → Pair F S → Pair F S → Type 0
PutThere put_f put_s First a before after = put_f before.first a after.first × (after.second ≡ before.second)
PutThere put_f put_s Second a before after = put_s before.second a after.second × (after.first ≡ before.first)

-- what a put that is taken does to the pair itself: it is put where the cell lies, the cell there changes, and the rule stays
pub record Puts {F S : Type 0} (cells_f : F → List Cell) (cells_s : S → List Cell) (put_f : F → ℕ → F → Type 0) (put_s : S → ℕ → S → Type 0) (change : Cell → Cell) (before : Pair F S) (p : Place) (after : Pair F S) : Type 0 where
  pub there : PutThere put_f put_s p.side p.address.0 before after
  pub lower : rows cells_f cells_s after ≡ set_in (rows cells_f cells_s before) p (change (cell_in (rows cells_f cells_s before) p))
  pub rule : after.rule ≡ before.rule

-- the law of the address rule: a cell of the pair is one of its two stores' cells, and changes with it
pub record Lies (rule : Rule) (rs : Rows) (a : ℕ) (p : Place) : Type 0 where
  pub here : a < length (pair_row rule rs)
  pub within : p.address.0 < length (row_at rs p.side)
  pub same : cell_at (pair_row rule rs) a ≡ cell_in rs p
  pub changes : (c : Cell) → pair_row rule (set_in rs p c) ≡ slice_set (pair_row rule rs) a c

-- what the two puts do to a pair, by what they do to its two stores
abbrev pub PutsWhole : {F S : Type 0} → (F → List Cell) → (S → List Cell) → (F → ℕ → ℕ → F → Type 0) → (S → ℕ → ℕ → S → Type 0) → Pair F S → ℕ → ℕ → Pair F S → Type 0
PutsWhole cells_f cells_s put_f put_s before a w after =
    Puts cells_f cells_s (λ f i. put_f f i w) (λ s i. put_s s i w) (λ _. good_cell w) before (place_in cells_f before a) after

abbrev pub PutsHalf : {F S : Type 0} → (F → List Cell) → (S → List Cell) → (F → ℕ → Half → ℕ → F → Type 0) → (S → ℕ → Half → ℕ → S → Type 0) → Pair F S → ℕ → Half → ℕ → Pair F S → Type 0
PutsHalf cells_f cells_s put_f put_s before a h v after =
    Puts cells_f cells_s (λ f i. put_f f i h v) (λ s i. put_s s i h v) (λ c. with_half c h v) before (place_in cells_f before a) after
