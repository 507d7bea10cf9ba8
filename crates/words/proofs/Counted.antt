-- The ones among the lowest bits of a number that has no others are all its ones.
use Rattle.std.proofs.Common.{ℕ, zero, suc, ◌≡◌, ◌+◌, ◌/◌, ◌%◌, ◌^◌, ◌<◌, refl, subst, pow-suc, ap, sym, ◌∙◌, arith}
use Rattle.std.specs.Int.Count.{ones, ones_step}
use Rattle.words.specs.Logic.{ones_among}

pub all_ones : (n w : ℕ) → w < 2 ^ n → ones_among n w ≡ ones w
unfolding ones_among ones
all_ones zero w none = let is_zero : 0 ≡ w = omega (arith, none) in subst (λ x. 0 ≡ ones x) is_zero refl
all_ones (suc n) w small = ap (λ rest. w % 2 + rest) (all_ones n (w / 2) (omega (arith, small, pow-suc 2 n))) ∙ sym (ones_step w)
