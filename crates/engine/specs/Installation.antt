-- An installation: a row of cells, and eight places for workers in it.
use Rattle.std.specs.Prelude.{ℕ, List, replicate, nat_le, slice_index_or, slice_set, Result, Ok, Err, Option, Some, None}
use Rattle.store.specs.Cells.{Cell}
use Rattle.processor.specs.Limits.{Limits, words_in, row_with}
use Rattle.processor.specs.Then.{◌>>=◌}
use Rattle.engine.specs.declared.answer.Answer.{Answer}
use Rattle.engine.specs.declared.answer.State.{State}
use Rattle.engine.specs.declared.answer.State.TheVariants as state
use Rattle.engine.specs.declared.place.Place.{Place}
use Rattle.engine.specs.declared.place.Place.TheVariants.{Free, Ready, Held}
use Rattle.engine.specs.declared.place.Worker.{Worker}
use Rattle.engine.specs.declared.refusal.Refusal.{Refusal}
use Rattle.engine.specs.declared.refusal.Refusal.TheVariants.{NoSuchPlace, PlaceFree}
use Rattle.engine.specs.Own.{Own}
use Rattle.engine.specs.Refusals.{require}

pub record Installation : Type 0 where
  pub row : List Cell
  pub places : List Place

-- an answer, and the installation after it
pub record Done : Type 0 where
  pub answer : Answer (List ℕ)
  pub installation : Installation

-- a new one: all places are free
abbrev pub made : List Cell → Installation
made row = record { row = row; places = replicate 8 Free }

abbrev pub place_at : List Place → ℕ → Place
place_at places p = slice_index_or places p Free

abbrev pub worker_of : Place → Option Worker
worker_of Free = None
worker_of (Ready w) = Some w
worker_of (Held w report) = Some w

abbrev pub limits_in : Option Worker → Option Limits
limits_in None = None
limits_in (Some w) = Some w.limits

abbrev pub worker_at : Installation → ℕ → Option Worker
worker_at i p = worker_of (place_at i.places p)

-- where a worker lies, and what it has of its own
pub record Holder : Type 0 where
  pub limits : Limits
  pub own : Own

abbrev pub holder_of : List Cell → State → Worker → Holder
holder_of row s w = record { limits = w.limits; own = record { state = s; registers = w.registers; words = words_in row w.limits.lower w.limits.length } }

abbrev pub if_occupied : List Cell → Place → Result Holder Refusal
if_occupied row Free = Err PlaceFree
if_occupied row (Ready w) = Ok (holder_of row state.Ready w)
if_occupied row (Held w report) = Ok (holder_of row (state.Held report) w)

abbrev pub holder : Installation → ℕ → Result Holder Refusal
holder i p = do
  exists ← require (nat_le p 7) NoSuchPlace
  if_occupied i.row (place_at i.places p)

-- the place of a worker, by its state
abbrev pub place_by : State → Worker → Place
place_by state.Ready w = Ready w
place_by (state.Held report) w = Held w report

-- the installation with a worker at a place as it is afterwards: its state and registers in the place, and its words in the row
abbrev pub with_own : Installation → ℕ → Limits → Own → Installation
with_own i p limits own = record {
  row = row_with i.row limits.lower limits.length own.words;
  places = slice_set i.places p (place_by own.state (record { limits = limits; registers = own.registers }));
}
