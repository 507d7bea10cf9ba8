-- What was made by a layout, and what becomes of it.
use Rattle.std.specs.Prelude.{ℕ, Bool, false, if◌then◌else◌, is_ok}
use Rattle.store.specs.Functions.{put_whole_answer, put_half_answer}
use Rattle.store.specs.declared.operation.Operation.{Operation}
use Rattle.store.specs.declared.operation.Operation.TheVariants.{Count, Fetch, PutWhole, PutHalf}
use Rattle.pairs.specs.declared.place.Side.{Side}
use Rattle.pairs.specs.declared.place.Side.TheVariants.{First, Second}
use Rattle.memories.specs.declared.layout.Layout.{Layout}
use Rattle.memories.specs.declared.layout.Layout.TheVariants.{Single, Pair}
use Rattle.memories.specs.Bank.{new_memory, memory_with_word, memory_with_half, takes, memory_with_number}
use Rattle.memories.specs.Any.{Memories, one, two, row_of, changed_at, changed}

-- new memories, as a layout describes them
abbrev pub new_memories : Layout → Memories
new_memories (Single p) = one (new_memory p)
new_memories (Pair rule p q) = two rule (new_memory p) (new_memory q)

-- what a store's function leaves
abbrev pub left_in : Memories → Operation → Memories
left_in ms Count = ms
left_in ms (Fetch a) = ms
left_in ms (PutWhole a w) = if is_ok (put_whole_answer (row_of ms) a.0) then changed ms a.0 (memory_with_word w) else ms
left_in ms (PutHalf a h v) = if is_ok (put_half_answer (row_of ms) a.0 h) then changed ms a.0 (memory_with_half h v) else ms

-- damage from outside; a memory that is alone has no second
abbrev pub can_damage : Memories → Side → ℕ → ℕ → Bool
can_damage (one m) First i x = takes m i x
can_damage (one m) Second i x = false
can_damage (two rule m n) First i x = takes m i x
can_damage (two rule m n) Second i x = takes n i x

abbrev pub damaged : Memories → Side → ℕ → ℕ → Memories
damaged ms side i x = changed_at side (memory_with_number i x) ms
