-- The parity store's memory: two 16-bit numbers for each cell, the upper half first.
use Rattle.std.specs.Prelude.{ℕ, ◌+◌, ◌*◌, ◌/◌, ◌%◌, ◌^◌, min, if◌then◌else◌, List, [], ◌∷◌, length, take, ◌==◌, count_ones, slice_set}
use Rattle.words.specs.Words.{half_bits, upper_half, lower_half}
use Rattle.store.specs.declared.half.Half.{Half}
use Rattle.store.specs.declared.half.Half.TheVariants.{Upper, Lower}
use Rattle.store.specs.Cells.{HalfCell, Cell, cell_at, most_cells}
use Rattle.stores.specs.declared.memory.Memory.{Memory}
use Rattle.stores.specs.Memory.{numbers}

-- the half in bits 14 to 0; it is good where an odd number of the sixteen bits are 1
abbrev pub half_of : ℕ → HalfCell
half_of x = record { value = half_bits x; good = (count_ones x % 2 == 1) }

-- the cell of two numbers
abbrev pub cell_of : ℕ → ℕ → Cell
cell_of u l = record { upper = half_of u; lower = half_of l }

-- the cells of a memory: two numbers to a cell, and an odd last one is none
unfoldable pub paired : List ℕ → List Cell
paired [] = []
paired (u ∷ []) = []
paired (u ∷ (l ∷ rest)) = cell_of u l ∷ paired rest

-- how many cells a memory has: at most 131,072, and numbers past those are not used
abbrev pub cell_count : List ℕ → ℕ
cell_count memory = min (length memory / 2) most_cells

-- the row of cells that a memory means
unfoldable pub row_of : List ℕ → List Cell
row_of memory = take most_cells (paired memory)

-- the number that holds a half: bit 15 makes the number of ones odd
abbrev pub half_number : ℕ → ℕ
half_number v = if count_ones (half_bits v) % 2 == 1 then half_bits v else 2 ^ 15 + half_bits v

-- where the number of a half stands in the memory
abbrev pub index_of : ℕ → Half → ℕ
index_of a Upper = 2 * a
index_of a Lower = 2 * a + 1

-- the memory with another half, and with another word
abbrev pub half_written : List ℕ → ℕ → Half → ℕ → List ℕ
half_written memory a h v = slice_set memory (index_of a h) (half_number v)

abbrev pub whole_written : List ℕ → ℕ → ℕ → List ℕ
whole_written memory a w = half_written (half_written memory a Upper (upper_half w)) a Lower (lower_half w)

-- the half that a number of the memory is: the even ones are upper halves
abbrev pub half_at : ℕ → Half
half_at i = if i % 2 == 0 then Upper else Lower

-- a cell with another number under one half
abbrev pub with_number : Cell → Half → ℕ → Cell
with_number c Upper x = record { upper = half_of x; lower = c.lower }
with_number c Lower x = record { upper = c.upper; lower = half_of x }

-- the row after number i of the memory became x; where no cell has that number, the same row
abbrev pub number_replaced : List Cell → ℕ → ℕ → List Cell
number_replaced cs i x = slice_set cs (i / 2) (with_number (cell_at cs (i / 2)) (half_at i) x)

-- the row of cells that a parity store means
abbrev pub row : Memory ℕ → List Cell
row s = row_of (numbers s)
