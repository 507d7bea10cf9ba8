-- The laws of two rows in turn: the length, a cell by its address, and what a changed cell changes.
use Rattle.std.specs.Prelude.{◌≡◌, ℕ, zero, suc, ◌*◌, ◌/◌, ◌%◌, ◌<◌, min, List, [], ◌∷◌, length, slice_index_or, slice_set, refl}
use Rattle.std.proofs.Common.{ap, ◌∙◌, arith}
use Rattle.store.specs.Cells.{Cell}
use Rattle.pairs.specs.declared.place.Side.{Side}
use Rattle.pairs.specs.declared.place.Side.TheVariants.{First, Second}
use Rattle.pairs.specs.Pair.{Rows, in_turn, turn, row_at, set_at}

abbrev pub both_rows : List Cell → List Cell → Rows
both_rows cs ds = record { first = cs; second = ds }

abbrev pub taken_in_turn : Rows → List Cell
taken_in_turn rs = in_turn rs.first rs.second

pub length_in_turn : (cs ds : List Cell) → length (in_turn cs ds) ≡ 2 * min (length cs) (length ds)
unfolding in_turn
length_in_turn [] ds = omega arith
length_in_turn (c ∷ cs) [] = omega arith
length_in_turn (c ∷ cs) (d ∷ ds) = omega (arith, length_in_turn cs ds)

-- as far as they go in turn, both reach
pub both_reach : (rs : Rows) (side : Side) (a : ℕ) → a < length (in_turn rs.first rs.second) → a / 2 < length (row_at rs side)
both_reach rs First a h = omega (arith, length_in_turn rs.first rs.second)
both_reach rs Second a h = omega (arith, length_in_turn rs.first rs.second)

two_on : (a : ℕ) → suc (suc a) % 2 ≡ a % 2
two_on a = omega arith

one_on : (a : ℕ) → suc (suc a) / 2 ≡ suc (a / 2)
one_on a = omega arith

at_one_on : (side : Side) (cs ds : List Cell) (c d x : Cell) (i : ℕ) → slice_index_or (row_at (both_rows (c ∷ cs) (d ∷ ds)) side) (suc i) x ≡ slice_index_or (row_at (both_rows cs ds) side) i x
at_one_on First cs ds c d x i = refl
at_one_on Second cs ds c d x i = refl

set_one_on : (side : Side) (cs ds : List Cell) (c d x : Cell) (i : ℕ) → taken_in_turn (set_at (both_rows (c ∷ cs) (d ∷ ds)) side (suc i) x) ≡ c ∷ (d ∷ taken_in_turn (set_at (both_rows cs ds) side i x))
unfolding in_turn
set_one_on First cs ds c d x i = refl
set_one_on Second cs ds c d x i = refl

pub in_turn_at : (cs ds : List Cell) (a : ℕ) (x : Cell) → a < length (in_turn cs ds) → slice_index_or (in_turn cs ds) a x ≡ slice_index_or (row_at (both_rows cs ds) (turn a)) (a / 2) x
unfolding in_turn
in_turn_at [] ds a x h = absurd (omega arith)
in_turn_at (c ∷ cs) [] a x h = absurd (omega arith)
in_turn_at (c ∷ cs) (d ∷ ds) zero x h = refl
in_turn_at (c ∷ cs) (d ∷ ds) (suc zero) x h = refl
in_turn_at (c ∷ cs) (d ∷ ds) (suc (suc a)) x h = rw (two_on a, one_on a, at_one_on) (in_turn_at cs ds a x (omega arith))

pub in_turn_set : (cs ds : List Cell) (a : ℕ) (x : Cell) → a < length (in_turn cs ds) → taken_in_turn (set_at (both_rows cs ds) (turn a) (a / 2) x) ≡ slice_set (in_turn cs ds) a x
unfolding in_turn
in_turn_set [] ds a x h = absurd (omega arith)
in_turn_set (c ∷ cs) [] a x h = absurd (omega arith)
in_turn_set (c ∷ cs) (d ∷ ds) zero x h = refl
in_turn_set (c ∷ cs) (d ∷ ds) (suc zero) x h = refl
in_turn_set (c ∷ cs) (d ∷ ds) (suc (suc a)) x h =
    rw (two_on a, one_on a)
    (set_one_on (turn a) cs ds c d x (a / 2) ∙ ap (λ l. c ∷ (d ∷ l)) (in_turn_set cs ds a x (omega arith)))
