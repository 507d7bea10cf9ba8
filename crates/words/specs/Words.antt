-- Of a word's 30 bits the higher fifteen, 29 to 15, are its upper half, and the lower fifteen, 14 to 0, its lower half.
-- Each definition takes any number, and looks only at the bits that count.
use Rattle.std.specs.Prelude.{ℕ, ◌+◌, ◌*◌, ◌/◌, ◌%◌, ◌^◌}

-- bits 29 to 0
abbrev pub word_bits : ℕ → ℕ
word_bits x = x % 2 ^ 30

-- bits 14 to 0
abbrev pub half_bits : ℕ → ℕ
half_bits x = x % 2 ^ 15

abbrev pub upper_half : ℕ → ℕ
upper_half w = w / 2 ^ 15 % 2 ^ 15

abbrev pub lower_half : ℕ → ℕ
lower_half w = w % 2 ^ 15

-- the word of an upper and a lower half
abbrev pub joined : ℕ → ℕ → ℕ
joined u l = half_bits u * 2 ^ 15 + half_bits l
