-- The first n of a list: what they hold, and what a change at any place of the list changes, which past them is nothing.
use Rattle.std.specs.Prelude.{◌≡◌, ℕ, ◌<◌, min, List, length, get_or, take, set, slice_index_or, slice_set}
use Rattle.std.proofs.Common.{⊎_elim, sym, ap, ◌∙◌, arith, length-take, get_or-take}
use Rattle.std.proofs.Math.Seq.{take-set-lt}
use Rattle.std.proofs.lemmas.List.{set_past, take-set-le}
use Rattle.std.proofs.lemmas.Bool.{cases_lt}

module _ {X : Type 0} (n : ℕ) (xs : List X) where
  pub length_cut : length (take n xs) ≡ min (length xs) n
  length_cut = simp length-take (omega arith)

  pub cut_within : (a : ℕ) → a < length (take n xs) → a < length xs
  cut_within a within = omega (arith, length_cut)

  pub cut_at : (a : ℕ) (d : X) → a < length (take n xs) → slice_index_or (take n xs) a d ≡ slice_index_or xs a d
  cut_at a d within = get_or-take n xs a d (omega (arith, length_cut))

  pub cut_changed : (f : X → X) (a : ℕ) (d : X) → take n (slice_set xs a (f (slice_index_or xs a d))) ≡ slice_set (take n xs) a (f (slice_index_or (take n xs) a d))
  cut_changed f a d =
      let old = get_or xs a d in
      ⊎_elim
      (λ low. take-set-lt n xs a (f old) low ∙ ap (λ x. set (take n xs) a (f x)) (sym (get_or-take n xs a d low)))
      (λ past. take-set-le n xs a (f old) past ∙ sym (set_past (take n xs) a (f (slice_index_or (take n xs) a d)) (omega (arith, length_cut))))
      (cases_lt a n)
