-- What the functions of a store answer, and the row after a put, over the row of cells.
use Rattle.std.specs.Prelude.{◌≡◌, ℕ, ◌<◌, ◌≤◌, if◌then◌else◌, List, length, MatchResult, Ok, Err, Result, nat_lt, slice_set}
use Rattle.words.specs.Words.{joined}
use Rattle.store.specs.declared.half.Half.{Half}
use Rattle.store.specs.declared.half.Half.TheVariants.{Upper, Lower}
use Rattle.store.specs.declared.fault.Fault.{Fault}
use Rattle.store.specs.declared.fault.Fault.TheVariants.{NoCell, Spoiled}
use Rattle.store.specs.Cells.{Cell, part, other_half, good_cell, with_half, cell_at}

-- what is answered of a cell of the row; there is none at the count and past it
abbrev pub within : {X : Type 0} → List Cell → ℕ → Result X Fault → Result X Fault
within cs a r = if nat_lt a (length cs) then r else Err NoCell

-- what is answered if a half is good
abbrev pub if_good : {X : Type 0} → Cell → Half → Result X Fault → Result X Fault
if_good c h r = if (part c h).good then r else Err (Spoiled h)

-- the word of a cell; the upper half is looked at first
abbrev pub word_of : Cell → Result ℕ Fault
word_of c = if_good c Upper (if_good c Lower (Ok (joined c.upper.value c.lower.value)))

abbrev pub fetched : List Cell → ℕ → Result ℕ Fault
fetched cs a = within cs a (word_of (cell_at cs a))

-- put whole: its answer, and the row after it was taken
abbrev pub put_whole_answer : List Cell → ℕ → Result (Unit {0}) Fault
put_whole_answer cs a = within cs a (Ok tt)

abbrev pub whole_put : List Cell → ℕ → ℕ → List Cell
whole_put cs a w = slice_set cs a (good_cell w)

-- put half: the other half must be good
abbrev pub put_half_answer : List Cell → ℕ → Half → Result (Unit {0}) Fault
put_half_answer cs a h = within cs a (if_good (cell_at cs a) (other_half h) (Ok tt))

abbrev pub half_put : List Cell → ℕ → Half → ℕ → List Cell
half_put cs a h v = slice_set cs a (with_half (cell_at cs a) h v)

-- what is found of a cell is as P says; where there is no such cell, that is the fault
abbrev pub Finds : {X : Type 0} → List Cell → ℕ → (X → Type 0) → Result X Fault → Type 0
Finds cs a P r = MatchResult r (λ x. (a < length cs) × P x) (λ e. (length cs ≤ a) × (e ≡ NoCell))
