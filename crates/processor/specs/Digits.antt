-- Tables over an octal digit.
use Rattle.std.specs.Prelude.{ℕ, ◌==◌, if◌then◌else◌}

-- the entry for a digit of the eight for 0 to 7
abbrev pub by_digit : {X : Type 0} → ℕ → (x0 x1 x2 x3 x4 x5 x6 x7 : X) → X
by_digit d x0 x1 x2 x3 x4 x5 x6 x7 =
    if d == 0 then x0
    else (if d == 1 then x1
    else (if d == 2 then x2
    else (if d == 3 then x3
    else (if d == 4 then x4
    else (if d == 5 then x5
    else (if d == 6 then x6
    else x7))))))
