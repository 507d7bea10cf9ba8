-- A cell has an upper and a lower half; a half is a number of 15 bits and whether it is good.
use Rattle.std.specs.Prelude.{ℕ, ◌^◌, ◌<◌, Bool, true, Option, Some, None, if◌then◌else◌, List, slice_index_or}
use Rattle.words.specs.Words.{half_bits, upper_half, lower_half}
use Rattle.store.specs.declared.half.Half.{Half}
use Rattle.store.specs.declared.half.Half.TheVariants.{Upper, Lower}

-- a row has at most so many cells
abbrev pub most_cells : ℕ
most_cells = 131072

pub record HalfCell : Type 0 where
  pub value : ℕ
  pub good : Bool

pub record Cell : Type 0 where
  pub upper : HalfCell
  pub lower : HalfCell

-- the number of a half, if it is good
abbrev pub value_of : HalfCell → Option ℕ
value_of h = if h.good then Some h.value else None

-- one half of a cell, and the other one
abbrev pub part : Cell → Half → HalfCell
part c Upper = c.upper
part c Lower = c.lower

abbrev pub other_half : Half → Half
other_half Upper = Lower
other_half Lower = Upper

abbrev pub CellFits : Cell → Type 0
CellFits c = (c.upper.value < 2 ^ 15) × (c.lower.value < 2 ^ 15)

-- a half with bits 14 to 0 of a number, marked good
abbrev pub good_half : ℕ → HalfCell
good_half v = record { value = half_bits v; good = true }

-- the cell that holds a word, both halves good
abbrev pub good_cell : ℕ → Cell
good_cell w = record { upper = good_half (upper_half w); lower = good_half (lower_half w) }

-- the cell with a number in one half, marked good, and the other half as it was
abbrev pub with_half : Cell → Half → ℕ → Cell
with_half c Upper v = record { upper = good_half v; lower = c.lower }
with_half c Lower v = record { upper = c.upper; lower = good_half v }

-- the cell at an address of a row; past the end a good zero, which no function shows
abbrev pub cell_at : List Cell → ℕ → Cell
cell_at cs a = slice_index_or cs a (good_cell 0)
