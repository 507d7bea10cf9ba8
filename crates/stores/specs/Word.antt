-- The word store's memory: a 32-bit number for each cell.
use Rattle.std.specs.Prelude.{ℕ, ◌/◌, ◌%◌, ◌^◌, min, Bool, List, map, length, take, ◌==◌, slice_set}
use Rattle.words.specs.Words.{upper_half, lower_half, joined}
use Rattle.store.specs.declared.half.Half.{Half}
use Rattle.store.specs.declared.half.Half.TheVariants.{Upper, Lower}
use Rattle.store.specs.Cells.{Cell, most_cells}
use Rattle.stores.specs.declared.memory.Memory.{Memory}
use Rattle.stores.specs.Memory.{numbers}

-- bit k of a number is 0
abbrev pub is_clear : ℕ → ℕ → Bool
is_clear k x = x / 2 ^ k % 2 == 0

-- the word in bits 29 to 0, and above it two marks of spoiled halves: bit 31 of the upper one, bit 30 of the lower
abbrev pub cell_of : ℕ → Cell
cell_of x = record {
  upper = record { value = upper_half x; good = is_clear 31 x };
  lower = record { value = lower_half x; good = is_clear 30 x };
}

-- how many numbers of a memory are cells: at most 131,072, and numbers past that are not used
abbrev pub cell_count : List ℕ → ℕ
cell_count memory = min (length memory) most_cells

-- the row of cells that a memory means
unfoldable pub row_of : List ℕ → List Cell
row_of memory = map cell_of (take most_cells memory)

-- a number with other bits in one half, and no marks
abbrev pub half_written : ℕ → Half → ℕ → ℕ
half_written x Upper v = joined v (lower_half x)
half_written x Lower v = joined (upper_half x) v

-- the row after number i of the memory became x
abbrev pub number_replaced : List Cell → ℕ → ℕ → List Cell
number_replaced cs i x = slice_set cs i (cell_of x)

-- the row of cells that a word store means
abbrev pub row : Memory ℕ → List Cell
row s = row_of (numbers s)
