-- What `&`, `|`, `^` and `!` do to each bit is what the selective operations say.
use Rattle.std.proofs.Common.{ℕ, ◌≡◌, ◌+◌, ◌-◌, ◌%◌, ◌^◌, ◌<◌, min, max, ◌==◌, if◌then◌else◌, arith, ap, ◌∙◌}
use Rattle.std.proofs.lemmas.Nat.{pow_pos, mod_below, and_comm}
use Rattle.std.proofs.lemmas.Nat.Bits.{bit_at-lt, bit_at_and, bit_at_or, bit_at_xor, bit_at_not}
use Rattle.std.specs.Int.{bit_at, bit_not, w32}
use Rattle.std.specs.Int.RustNames.{bit_or, bit_xor}
use Rattle.std.specs.Prelude.{bit_and}
use Rattle.words.specs.Bits.{of_bits}
use Rattle.words.specs.Logic.{product, selective_set, selective_complement, selective_clear, selective_substitute}
use Rattle.words.proofs.BitByBit.{made_of_bits, remainder_bit}

-- a number's lowest 30 bits
lowest_are : (x : ℕ) (f : ℕ → ℕ) → ((i : ℕ) → i < 30 → bit_at x i ≡ f i) → x % 2 ^ 30 ≡ of_bits 30 f
lowest_are x f same = made_of_bits 30 (x % 2 ^ 30) f (mod_below x (2 ^ 30) (pow_pos 30)) (λ i within. remainder_bit x 30 i within ∙ same i within)

-- of two bits
module _ (a b : ℕ) (p : a < 2) (q : b < 2) where
  both : min a b ≡ (if b == 1 then a else 0)
  both = grind arith

  either : max a b ≡ (if b == 1 then 1 else a)
  either = grind arith

  one_of : (a + b) % 2 ≡ (if b == 1 then 1 - a else a)
  one_of = grind arith

  but_not : min a (1 - b) ≡ (if b == 1 then 0 else a)
  but_not = grind arith

pub product_is : (u v : ℕ) → bit_and u v % 2 ^ 30 ≡ product u v
unfolding product
product_is u v = lowest_are (bit_and u v) _ (λ i _. bit_at_and u v i ∙ both (bit_at u i) (bit_at v i) (bit_at-lt u i) (bit_at-lt v i))

pub product_commutes : (u v : ℕ) → bit_and u v % 2 ^ 30 ≡ product v u
product_commutes u v = ap (λ x. x % 2 ^ 30) (and_comm u v) ∙ product_is v u

pub selective_set_is : (a y : ℕ) → bit_or a y % 2 ^ 30 ≡ selective_set a y
unfolding selective_set
selective_set_is a y = lowest_are (bit_or a y) _ (λ i _. bit_at_or a y i ∙ either (bit_at a i) (bit_at y i) (bit_at-lt a i) (bit_at-lt y i))

pub selective_complement_is : (a y : ℕ) → bit_xor a y % 2 ^ 30 ≡ selective_complement a y
unfolding selective_complement
selective_complement_is a y = lowest_are (bit_xor a y) _ (λ i _. bit_at_xor a y i ∙ one_of (bit_at a i) (bit_at y i) (bit_at-lt a i) (bit_at-lt y i))

cleared_bit : (a y i : ℕ) → y < 2 ^ 32 → i < 30 → bit_at (bit_and a (bit_not w32 y)) i ≡ (if bit_at y i == 1 then 0 else bit_at a i)
cleared_bit a y i small within =
    bit_at_and a (bit_not w32 y) i ∙ ap (min (bit_at a i)) (bit_at_not w32 y i small (omega arith))
    ∙ but_not (bit_at a i) (bit_at y i) (bit_at-lt a i) (bit_at-lt y i)

pub selective_clear_is : (a y : ℕ) → y < 2 ^ 32 → bit_and a (bit_not w32 y) % 2 ^ 30 ≡ selective_clear a y
unfolding selective_clear
selective_clear_is a y small = lowest_are (bit_and a (bit_not w32 y)) _ (λ i within. cleared_bit a y i small within)

substituted : (a m y : ℕ) → a < 2 → m < 2 → y < 2 → max (min y m) (if m == 1 then 0 else a) ≡ (if m == 1 then y else a)
substituted a m y p q r = grind arith

pub selective_substitute_is : (a mask y : ℕ) → mask < 2 ^ 32 → bit_or (bit_and y mask) (bit_and a (bit_not w32 mask)) % 2 ^ 30 ≡ selective_substitute a mask y
unfolding selective_substitute
selective_substitute_is a mask y small =
    let chosen = bit_and y mask in
    let kept = bit_and a (bit_not w32 mask) in
    lowest_are (bit_or chosen kept) _ (λ i within.
    bit_at_or chosen kept i ∙ ap (λ b. max b (bit_at kept i)) (bit_at_and y mask i) ∙ ap (max (min (bit_at y i) (bit_at mask i))) (cleared_bit a mask i small within)
    ∙ substituted (bit_at a i) (bit_at mask i) (bit_at y i) (bit_at-lt a i) (bit_at-lt mask i) (bit_at-lt y i))
