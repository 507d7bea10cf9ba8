-- What logic does to the bits of words.
use Rattle.std.specs.Prelude.{ℕ, zero, suc, ◌+◌, ◌-◌, ◌/◌, ◌%◌, ◌==◌, nat_lt, Bool, if◌then◌else◌}
use Rattle.std.specs.Int.{bit_at}
use Rattle.words.specs.Bits.{of_bits}

-- where the mask has a 1 the bit is f's, elsewhere g's
abbrev pub where_ones : ℕ → (ℕ → ℕ) → (ℕ → ℕ) → ℕ
where_ones mask f g = of_bits 30 (λ i. if bit_at mask i == 1 then f i else g i)

-- the bits of u where v has ones, and zeros elsewhere
unfoldable pub product : ℕ → ℕ → ℕ
product u v = where_ones v (bit_at u) (λ _. 0)

-- a, but where y has ones: set to 1, turned over, and set to 0
unfoldable pub selective_set : ℕ → ℕ → ℕ
selective_set a y = where_ones y (λ _. 1) (bit_at a)

unfoldable pub selective_complement : ℕ → ℕ → ℕ
selective_complement a y = where_ones y (λ i. 1 - bit_at a i) (bit_at a)

unfoldable pub selective_clear : ℕ → ℕ → ℕ
selective_clear a y = where_ones y (λ _. 0) (bit_at a)

-- a, but where the mask has ones: the bits of y
unfoldable pub selective_substitute : ℕ → ℕ → ℕ → ℕ
selective_substitute a mask y = where_ones mask (bit_at y) (bit_at a)

-- how many of the lowest n bits are 1
unfoldable pub ones_among : ℕ → ℕ → ℕ
ones_among zero w = 0
ones_among (suc n) w = w % 2 + ones_among n (w / 2)

-- an odd number of a word's bits are
unfoldable pub has_odd_ones : ℕ → Bool
has_odd_ones w = ones_among 30 w % 2 == 1

-- of two words only the bits where the mask has ones
unfoldable pub equal_under : ℕ → ℕ → ℕ → Bool
equal_under mask x y = product x mask == product y mask

unfoldable pub less_under : ℕ → ℕ → ℕ → Bool
less_under mask x y = nat_lt (product x mask) (product y mask)
