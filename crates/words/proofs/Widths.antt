-- What the definitions make of words is a word: it has 30 bits at the most.
use Rattle.std.proofs.Common.{ℕ, ◌+◌, ◌-◌, ◌%◌, ◌^◌, ◌<◌, Bool, true, false, List, nat_lt, if◌then◌else◌, arith, min, refl}
use Rattle.std.proofs.lemmas.Nat.Bits.{bit_at-lt}
use Rattle.std.specs.Int.{bit_at}
use Rattle.words.specs.Characters.{packed}
use Rattle.words.specs.Extension.{extended}
use Rattle.words.specs.Logic.{where_ones, product, selective_set, selective_complement, selective_clear, selective_substitute}
use Rattle.words.specs.Scale.{scale_factor}
use Rattle.words.specs.Shifts.{shifted_right, shifted_right_with_sign, turned_left}
use Rattle.words.specs.Sums.{complement, difference, sum}
use Rattle.words.specs.Words.{joined}
use Rattle.words.proofs.BitByBit.{of_bits_fit}
use Rattle.words.proofs.Scaling.{at_most_28}

-- of two numbers below a third
one_of : (test : Bool) (x y bound : ℕ) → x < bound → y < bound → (if test then x else y) < bound
one_of true x y bound p q = p
one_of false x y bound p q = q

where_ones_fit : (mask : ℕ) (f g : ℕ → ℕ) → ((i : ℕ) → f i < 2) → ((i : ℕ) → g i < 2) → where_ones mask f g < 2 ^ 30
where_ones_fit mask f g p q = of_bits_fit 30 _ (λ i. one_of _ (f i) (g i) 2 (p i) (q i))

-- halves and words of any numbers
pub joined_fit : (u l : ℕ) → joined u l < 2 ^ 30
joined_fit u l = omega arith

pub extended_fit : (m x : ℕ) → extended m x < 2 ^ 30
unfolding extended
extended_fit m x = of_bits_fit 30 _ (λ i. bit_at-lt x (min i (m - 1)))

pub packed_fit : (words : List ℕ) → packed words < 2 ^ 30
unfolding packed
packed_fit words = omega arith

-- shifts and turns
pub shifted_right_fits : (n x c : ℕ) → shifted_right n x c < 2 ^ n
unfolding shifted_right
shifted_right_fits n x c = of_bits_fit n _ (λ i. one_of (nat_lt (i + c) n) (bit_at x (i + c)) 0 2 (bit_at-lt x (i + c)) (omega arith))

pub sign_shifted_fits : (n x c : ℕ) → shifted_right_with_sign n x c < 2 ^ n
unfolding shifted_right_with_sign
sign_shifted_fits n x c = of_bits_fit n _ (λ i. bit_at-lt x (min (i + c) (n - 1)))

pub turned_fits : (n x c : ℕ) → turned_left n x c < 2 ^ n
unfolding turned_left
turned_fits n x c = of_bits_fit n _ (λ i. bit_at-lt x ((i + (n - c % n)) % n))

pub scale_factor_fits : (a : ℕ) → scale_factor a < 2 ^ 30
scale_factor_fits a = omega (arith, at_most_28 a (scale_factor a) refl)

-- logic
pub product_fits : (u v : ℕ) → product u v < 2 ^ 30
unfolding product
product_fits u v = where_ones_fit v (bit_at u) (λ _. 0) (bit_at-lt u) (λ _. omega arith)

pub selective_set_fits : (a y : ℕ) → selective_set a y < 2 ^ 30
unfolding selective_set
selective_set_fits a y = where_ones_fit y (λ _. 1) (bit_at a) (λ _. omega arith) (bit_at-lt a)

pub selective_complement_fits : (a y : ℕ) → selective_complement a y < 2 ^ 30
unfolding selective_complement
selective_complement_fits a y = where_ones_fit y (λ i. 1 - bit_at a i) (bit_at a) (λ i. omega arith) (bit_at-lt a)

pub selective_clear_fits : (a y : ℕ) → selective_clear a y < 2 ^ 30
unfolding selective_clear
selective_clear_fits a y = where_ones_fit y (λ _. 0) (bit_at a) (λ _. omega arith) (bit_at-lt a)

pub selective_substitute_fits : (a mask y : ℕ) → selective_substitute a mask y < 2 ^ 30
unfolding selective_substitute
selective_substitute_fits a mask y = where_ones_fit mask (bit_at y) (bit_at a) (bit_at-lt y) (bit_at-lt a)

-- sums and differences, if the first number is a word
pub difference_fits : (u v : ℕ) → u < 2 ^ 30 → difference u v < 2 ^ 30
unfolding difference
difference_fits u v small = grind arith

pub sum_fits : (u v : ℕ) → u < 2 ^ 30 → sum u v < 2 ^ 30
unfolding sum
sum_fits u v small = difference_fits u (complement 30 v) small
