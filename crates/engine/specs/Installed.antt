-- An installation of the code, over a store of any kind: what it means, and what a call does to it.
use Rattle.std.specs.Prelude.{◌≡◌, ℕ, List}
use Rattle.store.specs.Cells.{Cell}
use Rattle.engine.specs.declared.answer.Answer.{Answer}
use Rattle.engine.specs.declared.call.Call.{Call}
use Rattle.engine.specs.declared.place.Place.{Place}
use Rattle.engine.specs.Installation.{Installation}
use Rattle.engine.specs.Performing.{performed}

pub record Installed (S : Type 0) : Type 0 where
  pub store : S
  pub places : List Place

-- the installation that it means: the row that its store means, and its places
abbrev pub means : {S : Type 0} → (S → List Cell) → Installed S → Installation
means cells i = record { row = cells i.store; places = i.places }

-- it answers a call, and becomes another, as is defined
abbrev pub Performs : {S : Type 0} → (S → List Cell) → Installed S → Call (List ℕ) → Answer (List ℕ) → Installed S → Type 0
Performs cells before c a after = performed (means cells before) c ≡ record { answer = a; installation = means cells after }
