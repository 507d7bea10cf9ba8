-- If each cell of both rows fits its halves, so does each cell of the pair.
use Rattle.std.specs.Prelude.{ℕ, ◌<◌, List, length, refl}
use Rattle.std.proofs.Common.{sym, subst}
use Rattle.store.specs.Cells.{Cell, CellFits, cell_at}
use Rattle.pairs.specs.declared.place.Side.{Side}
use Rattle.pairs.specs.declared.place.Side.TheVariants.{First, Second}
use Rattle.pairs.specs.declared.rule.Rule.{Rule}
use Rattle.pairs.specs.Pair.{Rows, pair_row, row_at}
use Rattle.pairs.specs.Law.{lies}

abbrev pub Ranged : List Cell → Type 0
Ranged cs = (a : ℕ) → a < length cs → CellFits (cell_at cs a)

fits_at : (rs : Rows) (side : Side) (a : ℕ) → Ranged rs.first → Ranged rs.second → a < length (row_at rs side) → CellFits (cell_at (row_at rs side) a)
fits_at rs First a f s h = f a h
fits_at rs Second a f s h = s a h

pub pair_ranged : (rule : Rule) (rs : Rows) → Ranged rs.first → Ranged rs.second → Ranged (pair_row rule rs)
pair_ranged rule rs f s a here =
    let there = lies rule rs a _ here refl in
    subst CellFits (sym there.same) (fits_at rs _ _ f s there.within)
