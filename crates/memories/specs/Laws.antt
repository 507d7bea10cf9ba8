-- The laws of a store, of whatever is shown by one.
use Rattle.std.specs.Prelude.{ℕ, ◌≤◌, List, length}
use Rattle.store.specs.Cells.{most_cells}
use Rattle.stores.specs.ParityRow as parities
use Rattle.stores.specs.WordRow as words
use Rattle.pairs.specs.Law.{pair_bounded}
use Rattle.pairs.specs.Ranged.{Ranged, pair_ranged}
use Rattle.memories.specs.declared.bank.Bank.{Bank}
use Rattle.memories.specs.declared.layout.Kind.{Kind}
use Rattle.memories.specs.declared.layout.Kind.TheVariants.{Word, Parity}
use Rattle.memories.specs.declared.any.AnyStore.{AnyStore}
use Rattle.memories.specs.Bank.{Memory, memory_of, memory_row, row_by, bank_row}
use Rattle.memories.specs.Any.{Memories, one, two, memories_of, row_of, any_row}

row_bounded : (kind : Kind) (numbers : List ℕ) → length (row_by kind numbers) ≤ most_cells
row_bounded Word xs = words.row_bounded xs
row_bounded Parity xs = parities.row_bounded xs

row_ranged : (kind : Kind) (numbers : List ℕ) → Ranged (row_by kind numbers)
row_ranged Word xs = words.row_fits xs
row_ranged Parity xs = parities.row_fits xs

memory_bounded : (m : Memory) → length (memory_row m) ≤ most_cells
memory_bounded m = row_bounded m.kind m.numbers

memory_ranged : (m : Memory) → Ranged (memory_row m)
memory_ranged m = row_ranged m.kind m.numbers

pub bank_bounded : (b : Bank) → length (bank_row b) ≤ most_cells
bank_bounded b = memory_bounded (memory_of b)

pub bank_ranged : (b : Bank) → Ranged (bank_row b)
bank_ranged b = memory_ranged (memory_of b)

pub memories_bounded : (ms : Memories) → length (row_of ms) ≤ most_cells
memories_bounded (one m) = memory_bounded m
memories_bounded (two rule m n) = pair_bounded rule (record { first = memory_row m; second = memory_row n })

pub memories_ranged : (ms : Memories) → Ranged (row_of ms)
memories_ranged (one m) = memory_ranged m
memories_ranged (two rule m n) = pair_ranged rule (record { first = memory_row m; second = memory_row n }) (memory_ranged m) (memory_ranged n)

pub bounded : (s : AnyStore) → length (any_row s) ≤ most_cells
bounded s = memories_bounded (memories_of s)

pub ranged : (s : AnyStore) → Ranged (any_row s)
ranged s = memories_ranged (memories_of s)
