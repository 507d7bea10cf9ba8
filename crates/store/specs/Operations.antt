-- What a list of a store's functions answers and leaves, over the row of cells.
use Rattle.std.specs.Prelude.{◌≡◌, ℕ, Bool, false, if◌then◌else◌, List, [], ◌∷◌, length, is_ok, MatchBool}
use Rattle.store.specs.Cells.{Cell}
use Rattle.store.specs.declared.half.Half.{Half}
use Rattle.store.specs.Functions.{fetched, put_whole_answer, put_half_answer, whole_put, half_put}
use Rattle.store.specs.declared.operation.Operation.{Operation}
use Rattle.store.specs.declared.operation.Operation.TheVariants.{Count, Fetch, PutWhole, PutHalf}
use Rattle.store.specs.declared.operation.Reply.{Reply}
use Rattle.store.specs.declared.operation.Reply.TheVariants.{Counted, Fetched, Put}

-- one function: what it answers, and the row after it
abbrev pub replied : List Cell → Operation → Reply
replied cs Count = Counted (length cs)
replied cs (Fetch a) = Fetched (fetched cs a.0)
replied cs (PutWhole a w) = Put (put_whole_answer cs a.0)
replied cs (PutHalf a h v) = Put (put_half_answer cs a.0 h)

abbrev pub left : List Cell → Operation → List Cell
left cs Count = cs
left cs (Fetch a) = cs
left cs (PutWhole a w) = if is_ok (put_whole_answer cs a.0) then whole_put cs a.0 w else cs
left cs (PutHalf a h v) = if is_ok (put_half_answer cs a.0 h) then half_put cs a.0 h v else cs

-- was it a put, and was it taken?
abbrev pub is_taken : Reply → Bool
is_taken (Counted n) = false
is_taken (Fetched r) = false
is_taken (Put r) = is_ok r

-- what one function does to the store itself: a put that is taken does what such a put does, and anything else leaves it as it was
abbrev pub Does : {S : Type 0} → (S → ℕ → ℕ → S → Type 0) → (S → ℕ → Half → ℕ → S → Type 0) → Operation → Reply → S → S → Type 0
Does whole half Count r s t = t ≡ s
Does whole half (Fetch a) r s t = t ≡ s
Does whole half (PutWhole a w) r s t = MatchBool (is_taken r) (whole s a.0 w t) (t ≡ s)
Does whole half (PutHalf a h v) r s t = MatchBool (is_taken r) (half s a.0 h v t) (t ≡ s)

-- one after another: what they answer, and the row after the last
abbrev pub replies : List Cell → List Operation → List Reply
replies cs [] = []
replies cs (o ∷ os) = replied cs o ∷ replies (left cs o) os

abbrev pub left_by : List Cell → List Operation → List Cell
left_by cs [] = cs
left_by cs (o ∷ os) = left_by (left cs o) os

-- what a list of functions does to the store itself: each what it does, one after another
abbrev pub DoesAll : {S : Type 0} → (S → List Cell) → (S → ℕ → ℕ → S → Type 0) → (S → ℕ → Half → ℕ → S → Type 0) → List Operation → S → S → Type 0
DoesAll cells whole half [] s t = t ≡ s
DoesAll {S} cells whole half (o ∷ os) s t = (m : S) × Does whole half o (replied (cells s) o) s m × DoesAll cells whole half os m t

-- two stores that play the same list are alike: if they mean equal rows before, they get the same answers and mean equal rows after
abbrev pub Alike : (before_s before_t after_s after_t : List Cell) (answers_s answers_t : List Reply) → Type 0
Alike before_s before_t after_s after_t answers_s answers_t = before_s ≡ before_t → (answers_s ≡ answers_t) × (after_s ≡ after_t)
