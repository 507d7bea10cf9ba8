-- A function mapped over the first n of a list: its length, its elements, and what a change of the list changes.
use Rattle.std.specs.Prelude.{◌≡◌, ℕ, ◌<◌, min, List, map, length, take, slice_index_or, slice_set}
use Rattle.std.proofs.Math.Seq.{take-set-lt}
use Rattle.std.proofs.Common.{ap, ◌∙◌, arith, length-take, get_or-take}
use Rattle.std.proofs.lemmas.List.{get_or-map, map-set, length-map}

module _ {X Y : Type 0} (f : X → Y) (n : ℕ) (xs : List X) where
  pub length_mapped : length (map f (take n xs)) ≡ min (length xs) n
  length_mapped = simp (length-map, length-take) (omega arith)

  pub mapped_at : (a : ℕ) → a < length (map f (take n xs)) → (x : X) → slice_index_or xs a x ≡ x → (d : Y) → slice_index_or (map f (take n xs)) a d ≡ f x
  mapped_at a within x read d =
      let short : a < length (take n xs) = omega (arith, length-map (take n xs) f) in
      let low : a < n = omega (arith, length-take n xs) in
      get_or-map f (take n xs) a x d short ∙ ap f (get_or-take n xs a x low ∙ read)

  pub mapped_set : (a : ℕ) → a < length (map f (take n xs)) → (y : X) → map f (take n (slice_set xs a y)) ≡ slice_set (map f (take n xs)) a (f y)
  mapped_set a within y =
      let low : a < n = omega (arith, length_mapped) in
      ap (map f) (take-set-lt n xs a y low) ∙ map-set f (take n xs) a y
