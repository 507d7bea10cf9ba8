-- The number that a word is.
use Rattle.std.specs.Prelude.{ℕ, ◌^◌, Bool, ◌&&◌, List, length, if◌then◌else◌, take, drop, Ok, Err, codes, Result, nat_lt, nat_le}
use Rattle.std.specs.Str.Parse.{digits_value}
use Rattle.std.specs.Char.{is_digit}
use Rattle.std.specs.List.{list_all}
use Rattle.std.specs.Str.{bytes_eq}
use Rattle.script.specs.declared.reason.Reason.{Reason}
use Rattle.script.specs.declared.reason.Reason.TheVariants.{NotANumber, TooLarge, OutOfRange}
use Rattle.script.specs.Then.{◌>>=◌}

-- one digit or more of the base, and nothing else
abbrev pub numeral : ℕ → List ℕ → Bool
numeral b ds = nat_lt 0 (length ds) && list_all (λ c. is_digit c b) ds

-- the number that digits of a base write, if it is below 2 ^ 32
abbrev pub in_base : ℕ → List ℕ → Result ℕ Reason
in_base b ds =
    if numeral b ds then (if nat_lt (digits_value b ds) (2 ^ 32) then Ok (digits_value b ds) else Err TooLarge)
    else Err NotANumber

-- 0o and octal digits, or 0x and hexadecimal digits, or decimal digits
unfoldable pub number_of : List ℕ → Result ℕ Reason
number_of w =
    if bytes_eq (take 2 w) (codes "0o") then in_base 8 (drop 2 w)
    else (if bytes_eq (take 2 w) (codes "0x") then in_base 16 (drop 2 w)
    else in_base 10 w)

-- a number that is at most another
abbrev pub number_up_to : ℕ → List ℕ → Result ℕ Reason
number_up_to most w = do
  n ← number_of w
  if nat_le n most then Ok n else Err OutOfRange
