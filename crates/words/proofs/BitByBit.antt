-- Numbers bit by bit.
use Rattle.std.proofs.Common.{ℕ, zero, suc, ◌≡◌, ◌+◌, ◌-◌, ◌*◌, ◌/◌, ◌%◌, ◌^◌, ◌<◌, ◌≤◌, arith, ap, sym, ◌∙◌, pow-suc, ⊎_elim}
use Rattle.std.proofs.lemmas.Bool.{cases_lt}
use Rattle.std.proofs.lemmas.Nat.{pow_pos, mod_below, shr-shr, shr_split, div_below, mul-le}
use Rattle.std.proofs.lemmas.Nat.Bits.{bit_at_cat_low, bit_at_cat_high, bit_at_above, bit_at-suc, bit_at-zero, bit_at-lt, bit_at_lowest}
use Rattle.std.specs.Int.{bit_at}
use Rattle.words.specs.Bits.{of_bits}

-- bit i of a quotient, and of a remainder
pub quotient_bit : (x c i : ℕ) → bit_at (x / 2 ^ c) i ≡ bit_at x (i + c)
quotient_bit x c i = ap (λ y. y % 2) (shr-shr x c i ∙ ap (λ k. x / 2 ^ k) (omega arith))

pub remainder_bit : (x n i : ℕ) → i < n → bit_at (x % 2 ^ n) i ≡ bit_at x i
remainder_bit x n i within = sym (bit_at_cat_low (x / 2 ^ n) n (x % 2 ^ n) i within) ∙ ap (λ y. bit_at y i) (shr_split x n)

-- a number below 2^n is made of its n bits
pub made_of_bits : (n x : ℕ) (f : ℕ → ℕ) → x < 2 ^ n → ((i : ℕ) → i < n → bit_at x i ≡ f i) → x ≡ of_bits n f
unfolding of_bits
made_of_bits zero x f small same = omega arith
made_of_bits (suc n) x f small same =
    let low = made_of_bits n (x % 2 ^ n) f (mod_below x (2 ^ n) (pow_pos n)) (λ i within. remainder_bit x n i within ∙ same i (omega arith)) in
    let one : x / 2 ^ n < 2 = div_below x (2 ^ n) 2 (pow_pos n) (omega (arith, pow-suc 2 n)) in
    let top : x / 2 ^ n ≡ f n = omega (arith, same n (omega arith)) in
    sym (shr_split x n) ∙ ap (λ b. b * 2 ^ n + x % 2 ^ n) top ∙ ap (λ y. f n * 2 ^ n + y) low

-- and has them as its bits
pub of_bits_fit : (n : ℕ) (f : ℕ → ℕ) → ((i : ℕ) → f i < 2) → of_bits n f < 2 ^ n
unfolding of_bits
of_bits_fit zero f bits = omega arith
of_bits_fit (suc n) f bits = omega (arith, mul-le (f n) (2 ^ n) 1 (2 ^ n) (omega (arith, bits n)) (omega arith), of_bits_fit n f bits, pow-suc 2 n)

pub bit_of_bits : (n : ℕ) (f : ℕ → ℕ) (i : ℕ) → ((j : ℕ) → f j < 2) → i < n → bit_at (of_bits n f) i ≡ f i
unfolding of_bits
bit_of_bits zero f i bits within = absurd (omega arith)
bit_of_bits (suc n) f i bits within = ⊎_elim
    (λ lower. bit_at_cat_low (f n) n (of_bits n f) i lower ∙ bit_of_bits n f i bits lower)
    (λ top.
    let same : n ≡ i = omega arith in
    let none : i - n ≡ 0 = omega arith in
    let one : bit_at (f n) (i - n) ≡ f n = ap (bit_at (f n)) none ∙ bit_at_lowest (f n) ∙ omega (arith, bits n) in
    bit_at_cat_high (f n) n (of_bits n f) i (of_bits_fit n f bits) top ∙ one ∙ ap f same)
    (cases_lt i n)

-- two numbers of the same bits
pub same_bits : (n : ℕ) (f g : ℕ → ℕ) → ((i : ℕ) → f i < 2) → ((i : ℕ) → i < n → f i ≡ g i) → of_bits n f ≡ of_bits n g
same_bits n f g bits same = made_of_bits n (of_bits n f) g (of_bits_fit n f bits) (λ i within. bit_of_bits n f i bits within ∙ same i within)

-- each bit of a number turned over
pub complement_bit : (n x i : ℕ) → x < 2 ^ n → i < n → bit_at (2 ^ n - 1 - x) i ≡ 1 - bit_at x i
complement_bit zero x i small within = absurd (omega arith)
complement_bit (suc n) x zero small within = omega (arith, pow-suc 2 n, bit_at_lowest x, bit_at_lowest (2 ^ suc n - 1 - x))
complement_bit (suc n) x (suc i) small within =
    let rest : (2 ^ suc n - 1 - x) / 2 ≡ 2 ^ n - 1 - x / 2 = omega (arith, pow-suc 2 n) in
    bit_at-suc (2 ^ suc n - 1 - x) i ∙ ap (λ y. bit_at y i) rest
    ∙ complement_bit n (x / 2) i (omega (arith, pow-suc 2 n)) (omega arith) ∙ ap (λ b. 1 - b) (sym (bit_at-suc x i))

-- a bit that is turned over before and after
pub turned_over_twice : (n z m x i j : ℕ) → z < 2 ^ n → i < n → x < 2 ^ m → j < m → bit_at z i ≡ bit_at (2 ^ m - 1 - x) j → bit_at (2 ^ n - 1 - z) i ≡ bit_at x j
turned_over_twice n z m x i j low within small inside same =
    let again : 1 - (1 - bit_at x j) ≡ bit_at x j = omega (arith, bit_at-lt x j) in
    complement_bit n z i low within ∙ ap (λ b. 1 - b) (same ∙ complement_bit m x j small inside) ∙ again

-- the top bit of n, and those above it, where a number is below half of 2^n
pub top_bit_zero : (n x i : ℕ) → 2 * x < 2 ^ n → n ≤ suc i → bit_at x i ≡ 0
top_bit_zero zero x i positive top = ap (λ y. bit_at y i) (omega arith) ∙ bit_at-zero i
top_bit_zero (suc n) x i positive top = bit_at_above x n i (omega (arith, pow-suc 2 n)) (omega arith)
