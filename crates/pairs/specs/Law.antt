-- The address rule of a pair, proved once: its count, and where each of its cells lies.
use Rattle.std.specs.Prelude.{◌≡◌, ℕ, ◌<◌, ◌≤◌, List, length, take, nat_lt, slice_set}
use Rattle.std.proofs.Math.Path.{refl, ap}
use Rattle.std.proofs.Common.{sym, ◌∙◌, arith, length-take}
use Rattle.std.proofs.Math.ListN.{length-append}
use Rattle.std.proofs.Math.Seq.{take-set-lt}
use Rattle.std.proofs.lemmas.List.{get_or-take, get_or_append_left, get_or-append_right, set-append_left, set-append_right}
use Rattle.std.proofs.lemmas.Bool.{cond_both, ltb-true, ltb-false}
use Rattle.store.specs.Cells.{Cell, cell_at, good_cell, most_cells}
use Rattle.pairs.specs.declared.place.Place.{Place}
use Rattle.pairs.specs.declared.rule.Rule.{Rule}
use Rattle.pairs.specs.declared.rule.Rule.TheVariants.{Continuous, Interleaved}
use Rattle.pairs.specs.Pair.{Rows, Lies, whole_row, pair_row, pair_count, place_of, turn, row_at, cell_in, set_in}
use Rattle.pairs.specs.InTurn.{length_in_turn, both_reach, in_turn_at, in_turn_set}

pub length_pair : (rule : Rule) (rs : Rows) → length (pair_row rule rs) ≡ pair_count rule (length rs.first) (length rs.second)
unfolding pair_row whole_row
length_pair Continuous rs = simp (length-take, length-append) (omega arith)
length_pair Interleaved rs = simp (length-take, length_in_turn) (omega arith)

-- of all the cells only the first 131,072 are used
few : (cs : List Cell) → length (take most_cells cs) ≤ most_cells
few cs = omega (arith, length-take most_cells cs)

within_few : (cs : List Cell) (a : ℕ) → a < length (take most_cells cs) → (a < most_cells) × (a < length cs)
within_few cs a h = (omega (arith, length-take most_cells cs), omega (arith, length-take most_cells cs))

pub pair_bounded : (rule : Rule) (rs : Rows) → length (pair_row rule rs) ≤ most_cells
unfolding pair_row
pair_bounded rule rs = few (whole_row rule rs)

-- the law of the address rule for all the cells, used or not
record LiesInWhole (rule : Rule) (rs : Rows) (a : ℕ) (p : Place) : Type 0 where
  within : p.address.0 < length (row_at rs p.side)
  same : cell_at (whole_row rule rs) a ≡ cell_in rs p
  changes : (c : Cell) → whole_row rule (set_in rs p c) ≡ slice_set (whole_row rule rs) a c

lies_in_whole : (rule : Rule) (rs : Rows) (a : ℕ) → a < length (whole_row rule rs) → LiesInWhole rule rs a (place_of rule (length rs.first) a)
unfolding whole_row
lies_in_whole Continuous rs a h =
    let m = length rs.first in
    cond_both (nat_lt a m) _ _ (LiesInWhole Continuous rs a)
    (λ t. let low = ltb-true a m t in record {
      within = low;
      same = get_or_append_left rs.first rs.second (good_cell 0) a low;
      changes = λ c. sym (set-append_left rs.first rs.second a c low);
    })
    (λ f. let high = ltb-false a m f in record {
      within = omega (arith, length-append rs.first rs.second);
      same = get_or-append_right rs.first rs.second m a (good_cell 0) refl high;
      changes = λ c. sym (set-append_right rs.first rs.second m a c refl high);
    })
lies_in_whole Interleaved rs a h = record {
  within = both_reach rs (turn a) a h;
  same = in_turn_at rs.first rs.second a (good_cell 0) h;
  changes = λ c. in_turn_set rs.first rs.second a c h;
}

used : (rule : Rule) (rs : Rows) (a : ℕ) (p : Place) → a < length (pair_row rule rs) → LiesInWhole rule rs a p → Lies rule rs a p
unfolding pair_row
used rule rs a p h there =
    let row = whole_row rule rs in
    let low = (within_few row a h).0 in
    record {
      here = h;
      within = there.within;
      same = get_or-take most_cells row a (good_cell 0) low ∙ there.same;
      changes = λ c. ap (take most_cells) (there.changes c) ∙ take-set-lt most_cells row a c low;
    }

pub lies : (rule : Rule) (rs : Rows) (a : ℕ) (p : Place) → a < length (pair_row rule rs) → p ≡ place_of rule (length rs.first) a → Lies rule rs a p
unfolding pair_row
lies rule rs a p h e = rw e (used rule rs a _ h (lies_in_whole rule rs a (within_few (whole_row rule rs) a h).1))

-- by the count: an address below it is found, and none from it on
module _ (rule : Rule) (rs : Rows) where
  pub found : (a : ℕ) (p : Place) → (a < pair_count rule (length rs.first) (length rs.second)) × (p ≡ place_of rule (length rs.first) a) → (p ≡ place_of rule (length rs.first) a) × Lies rule rs a p
  found a p h = (h.1, lies rule rs a p (rw (length_pair rule rs) h.0) h.1)

  pub missed : (a : ℕ) → pair_count rule (length rs.first) (length rs.second) ≤ a → length (pair_row rule rs) ≤ a
  missed a h = rw (length_pair rule rs) h
