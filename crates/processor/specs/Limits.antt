-- Where a worker's words lie: its limits, and the words between them.
use Rattle.std.specs.Prelude.{◌≡◌, ℕ, ◌+◌, ◌<◌, ◌≤◌, ◌⊎◌, Bool, ◌&&◌, nat_lt, List, ◌++◌, length, take, drop}
use Rattle.store.specs.Cells.{Cell, cell_at, most_cells}
use Rattle.records.specs.Registers.{Registers}
use Rattle.processor.specs.Machine.{Machine}

-- so many cells from the lower limit on
pub record Limits : Type 0 where
  pub lower : ℕ
  pub length : ℕ

-- the most words that a worker has
abbrev pub most_words : ℕ
most_words = 32768

abbrev pub Bounded : Limits → Type 0
Bounded l = (l.length ≤ most_words) × (l.lower + l.length ≤ most_cells)

-- each of two has its lower limit below the other's end: where both have cells, they have one in common. Limits with a length of 0 have none, and in this sense share with those whose lower limit is below theirs and whose end is above it
abbrev pub share : Limits → Limits → Bool
share s t = nat_lt s.lower (t.lower + t.length) && nat_lt t.lower (s.lower + s.length)

-- the words of so many cells of a row, from a lower limit on
abbrev pub words_in : List Cell → (lower length : ℕ) → List Cell
words_in row lower n = take n (drop lower row)

-- the row with other words there
abbrev pub row_with : List Cell → (lower length : ℕ) → List Cell → List Cell
row_with row lower n words = take lower row ++ words ++ drop (lower + n) row

-- the words between limits
abbrev pub between : List Cell → Limits → List Cell
between row l = words_in row l.lower l.length

-- the machine of the worker that has these limits and registers
abbrev pub machine_in : List Cell → Limits → Registers → Machine
machine_in row l r = record { length = l.length; registers = r; words = between row l }

-- what a row becomes if a worker's words become others: these lie between its limits, and the cells below and above are as they were
pub record Becomes (row : List Cell) (l : Limits) (words : List Cell) (after : List Cell) : Type 0 where
  pub there : between after l ≡ words
  pub below : take l.lower after ≡ take l.lower row
  pub above : drop (l.lower + l.length) after ≡ drop (l.lower + l.length) row

-- a cell that is not one of theirs
abbrev pub Outside : Limits → ℕ → Type 0
Outside l cell = (cell < l.lower) ⊎ (l.lower + l.length ≤ cell)

-- no other cell changes, and there are as many
abbrev pub KeepsOtherCells : (row : List Cell) → Limits → (after : List Cell) → Type 0
KeepsOtherCells row l after = ((cell : ℕ) → Outside l cell → cell_at after cell ≡ cell_at row cell) × (length after ≡ length row)
