-- A memory: its numbers.
use Rattle.std.specs.Prelude.{List, vec_items}
use Rattle.stores.specs.declared.memory.Memory.{Memory}

abbrev pub numbers : {N : Type 0} → Memory N → List N
numbers m = vec_items m.numbers
