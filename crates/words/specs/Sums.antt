-- Ones complement, and sums and differences in it.
use Rattle.std.specs.Prelude.{ℕ, ◌+◌, ◌-◌, ◌^◌, nat_lt, if◌then◌else◌, ℤ, pos, neg_ℤ}

-- the ones complement of a number of n bits, which has each bit turned over
abbrev pub complement : ℕ → ℕ → ℕ
complement n x = 2 ^ n - 1 - x

-- the integer that a number of n bits stands for: itself where its highest bit is 0, and minus its complement where that is 1
abbrev pub integer_of : ℕ → ℕ → ℤ
integer_of n x = if nat_lt x (2 ^ (n - 1)) then pos x else neg_ℤ (pos (complement n x))

-- −0, the word of thirty ones
abbrev pub minus_zero : ℕ
minus_zero = 2 ^ 30 - 1

-- the difference of the numbers; where that is negative, 2^30 − 1 more
unfoldable pub difference : ℕ → ℕ → ℕ
difference u v = if nat_lt u v then u + (2 ^ 30 - 1) - v else u - v

-- the difference of u and the ones complement of v
unfoldable pub sum : ℕ → ℕ → ℕ
sum u v = difference u (complement 30 v)
