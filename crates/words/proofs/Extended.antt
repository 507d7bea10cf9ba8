-- A half with zeros or ones above it is what sign extension says of each bit.
use Rattle.std.proofs.Common.{ℕ, ◌≡◌, ◌+◌, ◌-◌, ◌*◌, ◌^◌, ◌<◌, ◌≤◌, arith, min, ap, sym, ◌∙◌, ⊎_elim}
use Rattle.std.proofs.lemmas.Bool.{cases_lt}
use Rattle.std.specs.Int.{bit_at}
use Rattle.words.specs.Extension.{extended}
use Rattle.words.proofs.BitByBit.{made_of_bits, turned_over_twice, top_bit_zero}

extended_bit : (m x i : ℕ) → 2 * x < 2 ^ m → bit_at x i ≡ bit_at x (min i (m - 1))
extended_bit m x i positive = ⊎_elim
    (λ inside. ap (bit_at x) (omega arith))
    (λ past. top_bit_zero m x i positive (omega arith) ∙ sym (top_bit_zero m x (min i (m - 1)) positive (omega arith)))
    (cases_lt i m)

pub extended_by_zeros : (x : ℕ) → x < 2 ^ 14 → x ≡ extended 15 x
unfolding extended
extended_by_zeros x positive = made_of_bits 30 x _ (omega arith) (λ i _. extended_bit 15 x i (omega arith))

pub extended_by_ones : (x : ℕ) → 2 ^ 14 ≤ x → x < 2 ^ 15 → 0o7777700000 + x ≡ extended 15 x
unfolding extended
extended_by_ones x negative small =
    let y = 2 ^ 15 - 1 - x in
    let over : 2 ^ 30 - 1 - y ≡ 0o7777700000 + x = omega arith in
    made_of_bits 30 (0o7777700000 + x) _ (omega arith) (λ i within.
    ap (λ z. bit_at z i) (sym over)
    ∙ turned_over_twice 30 y 15 x i (min i 14) (omega arith) within small (omega arith) (extended_bit 15 y i (omega arith)))
