-- What lies under any of the stores: one memory, or two and the rule that joins them.
use Rattle.std.specs.Prelude.{◌≡◌, ℕ, List, length}
use Rattle.store.specs.Cells.{Cell}
use Rattle.pairs.specs.declared.place.Side.{Side}
use Rattle.pairs.specs.declared.place.Side.TheVariants.{First, Second}
use Rattle.pairs.specs.declared.rule.Rule.{Rule}
use Rattle.pairs.specs.Pair.{pair_row, place_of}
use Rattle.memories.specs.declared.any.AnyStore.{AnyStore}
use Rattle.memories.specs.declared.any.AnyStore.TheVariants.{Single, Pair}
use Rattle.memories.specs.Bank.{Memory, memory_of, memory_row}

pub data Memories : Type 0 where
  one : Memory → Memories
  two : Rule → Memory → Memory → Memories

abbrev pub memories_of : AnyStore → Memories
memories_of (Single b) = one (memory_of b)
memories_of (Pair p) = two p.rule (memory_of p.first) (memory_of p.second)

-- the row of cells
abbrev pub row_of : Memories → List Cell
row_of (one m) = memory_row m
row_of (two rule m n) = pair_row rule (record { first = memory_row m; second = memory_row n })

-- the row that a store means
abbrev pub any_row : AnyStore → List Cell
any_row s = row_of (memories_of s)

-- with f done to the memory of one side; a memory that is alone is the first
abbrev pub changed_at : Side → (Memory → Memory) → Memories → Memories
changed_at First f (one m) = one (f m)
changed_at Second f (one m) = one m
changed_at First f (two rule m n) = two rule (f m) n
changed_at Second f (two rule m n) = two rule m (f n)

-- with f done to the memory where the cell at an address lies, at the cell's address there
abbrev pub changed : Memories → ℕ → (Memory → ℕ → Memory) → Memories
changed (one m) a f = one (f m a)
changed (two rule m n) a f = let p = place_of rule (length (memory_row m)) a in changed_at p.side (λ k. f k p.address.0) (two rule m n)

-- a put that is taken changes the memory in which the cell lies, and nothing else
abbrev pub Changes : AnyStore → ℕ → (Memory → ℕ → Memory) → AnyStore → Type 0
Changes before a f after = memories_of after ≡ changed (memories_of before) a f
