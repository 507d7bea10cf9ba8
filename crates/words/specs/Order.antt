-- The order of 60-bit numbers by their values.
use Rattle.std.specs.Prelude.{ℕ, ◌-◌, ◌^◌, Bool, false, not, ◌==◌, if◌then◌else◌, ℤ, pos, int_lt}
use Rattle.words.specs.Sums.{integer_of}

-- the value of a number: an integer, or −0
pub data Value : Type 0 where
  integer : ℤ → Value
  negative_zero : Value

-- all ones are −0; any other number is the integer that it stands for
abbrev pub value : ℕ → ℕ → Value
value n x = if x == 2 ^ n - 1 then negative_zero else integer (integer_of n x)

-- −0 has its own place, just below +0
abbrev pub is_below : Value → Value → Bool
is_below (integer a) (integer b) = int_lt a b
is_below (integer a) negative_zero = int_lt a (pos 0)
is_below negative_zero (integer b) = not (int_lt b (pos 0))
is_below negative_zero negative_zero = false

unfoldable pub less : ℕ → ℕ → Bool
less x y = is_below (value 60 x) (value 60 y)
