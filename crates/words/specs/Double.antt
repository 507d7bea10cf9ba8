-- Two words as one number of 60 bits, the first one on top.
use Rattle.std.specs.Prelude.{ℕ, ◌+◌, ◌*◌, ◌/◌, ◌%◌, ◌^◌}

-- the word a over the word q
abbrev pub over : ℕ → ℕ → ℕ
over a q = a * 2 ^ 30 + q

-- bits 59 to 30
abbrev pub upper_word : ℕ → ℕ
upper_word d = d / 2 ^ 30 % 2 ^ 30

-- bits 29 to 0
abbrev pub lower_word : ℕ → ℕ
lower_word d = d % 2 ^ 30
