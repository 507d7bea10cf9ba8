-- The scale factor of a word.
use Rattle.std.specs.Prelude.{ℕ, zero, suc, Bool, ◌==◌, ◌||◌, if◌then◌else◌}
use Rattle.std.specs.Int.{bit_at}
use Rattle.words.specs.Shifts.{turned_left}
use Rattle.words.specs.Sums.{minus_zero}

-- +0 or −0: all bits are the same
abbrev pub is_zero : ℕ → Bool
is_zero a = a == 0 || a == minus_zero

-- the highest two bits are the same
abbrev pub top_bits_agree : ℕ → Bool
top_bits_agree a = bit_at a 29 == bit_at a 28

-- how many turns to the left by one, `most` at the most, bring two different bits to the top
unfoldable pub turns_within : ℕ → ℕ → ℕ
turns_within zero a = 0
turns_within (suc most) a = if top_bits_agree a then suc (turns_within most (turned_left 30 a 1)) else 0

-- where all bits are the same none do, and it is 28; all others need 28 at the most
unfoldable pub scale_factor : ℕ → ℕ
scale_factor a = turns_within 28 a
