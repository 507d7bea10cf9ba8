-- How registers are written.
use Rattle.std.specs.Prelude.{ℕ, ◌/◌, ◌^◌, List, ◌++◌, codes}
use Rattle.words.specs.Octal.{octal_digit, octal_half, octal_word}
use Rattle.records.specs.Registers.{Registers, index}

-- six octal digits, the highest first
abbrev pub octal_six : ℕ → List ℕ
octal_six n = octal_digit (n / 8 ^ 5) ++ octal_half n

-- B1 to B7, with a space between two
abbrev pub b_text : Registers → ℕ → List ℕ
b_text r j = octal_half (index r j)

abbrev pub b_texts : Registers → List ℕ
b_texts r =
    b_text r 1 ++ (codes " " ++ (b_text r 2 ++ (codes " " ++ (b_text r 3 ++ (codes " " ++ (b_text r 4 ++ (codes " " ++ (b_text r 5 ++ (codes " " ++ (b_text r 6 ++ (codes " " ++ b_text r 7)))))))))))

abbrev pub registers_text : Registers → List ℕ
registers_text r = codes "A " ++ (octal_word r.a ++ (codes ", Q " ++ (octal_word r.q ++ (codes ", B " ++ (b_texts r ++ (codes ", P " ++ octal_six r.p))))))
