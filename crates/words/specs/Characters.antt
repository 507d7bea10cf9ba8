-- Characters of six bits.
use Rattle.std.specs.Prelude.{ℕ, ◌+◌, ◌*◌, ◌%◌, ◌^◌, List, slice_index}

-- the lowest character of the word at a place of a list
abbrev pub character : List ℕ → ℕ → ℕ
character words i = slice_index words i % 64

-- those of five words side by side, the first word's on top
unfoldable pub packed : List ℕ → ℕ
packed words = character words 0 * 64 ^ 4 + character words 1 * 64 ^ 3 + character words 2 * 64 ^ 2 + character words 3 * 64 + character words 4
