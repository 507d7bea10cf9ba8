-- The laws of the cells of a memory: how many there are, what each holds, and what a changed number changes.
use Rattle.std.specs.Prelude.{◌≡◌, ℕ, zero, suc, ◌/◌, ◌%◌, ◌<◌, List, [], ◌∷◌, length, slice_index, slice_set, refl}
use Rattle.std.proofs.Common.{arith}
use Rattle.store.specs.declared.half.Half.{Half}
use Rattle.store.specs.declared.half.Half.TheVariants.{Upper, Lower}
use Rattle.store.specs.Cells.{part, cell_at}
use Rattle.stores.specs.Parity.{half_of, paired, index_of, number_replaced}

pub length_paired : (xs : List ℕ) → length (paired xs) ≡ length xs / 2
unfolding paired
length_paired [] = refl
length_paired (u ∷ []) = refl
length_paired (u ∷ (l ∷ rest)) = omega (arith, length_paired rest)

-- two numbers on is one cell on
half_suc : (i : ℕ) → suc (suc i) / 2 ≡ suc (i / 2)
half_suc i = omega arith

rest_suc : (i : ℕ) → suc (suc i) % 2 ≡ i % 2
rest_suc i = omega arith

pub paired_set : (xs : List ℕ) (i y : ℕ) → paired (slice_set xs i y) ≡ number_replaced (paired xs) i y
unfolding paired
paired_set [] i y = refl
paired_set (u ∷ []) zero y = refl
paired_set (u ∷ []) (suc i) y = refl
paired_set (u ∷ (l ∷ rest)) zero y = refl
paired_set (u ∷ (l ∷ rest)) (suc zero) y = refl
paired_set (u ∷ (l ∷ rest)) (suc (suc i)) y = rw (half_suc i, rest_suc i, paired_set rest i y)

-- the next cell's numbers are two on
place_suc : (a : ℕ) (h : Half) → index_of (suc a) h ≡ suc (suc (index_of a h))
place_suc a Upper = omega arith
place_suc a Lower = omega arith

pub paired_at : (xs : List ℕ) (a : ℕ) (h : Half) → a < length (paired xs) → part (cell_at (paired xs) a) h ≡ half_of (slice_index xs (index_of a h))
unfolding paired
paired_at [] a h within = absurd (omega arith)
paired_at (u ∷ []) a h within = absurd (omega arith)
paired_at (u ∷ (l ∷ rest)) zero Upper within = refl
paired_at (u ∷ (l ∷ rest)) zero Lower within = refl
paired_at (u ∷ (l ∷ rest)) (suc a) h within = rw (place_suc a h) (paired_at rest a h (omega arith))
