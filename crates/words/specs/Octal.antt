-- How halves and words are written.
use Rattle.std.specs.Prelude.{ℕ, ◌/◌, ◌%◌, ◌^◌, List, ◌++◌, decimal}
use Rattle.words.specs.Words.{upper_half, lower_half}

-- the lowest octal digit of a number: as a decimal it is the same digit
abbrev pub octal_digit : ℕ → List ℕ
octal_digit n = decimal (n % 8)

-- five octal digits, the highest first
abbrev pub octal_half : ℕ → List ℕ
octal_half h = octal_digit (h / 8 ^ 4) ++ (octal_digit (h / 8 ^ 3) ++ (octal_digit (h / 8 ^ 2) ++ (octal_digit (h / 8) ++ octal_digit h)))

-- ten, those of the upper half first
abbrev pub octal_word : ℕ → List ℕ
octal_word w = octal_half (upper_half w) ++ octal_half (lower_half w)
