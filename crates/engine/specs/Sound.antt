-- What holds of every installation: there are eight places, each worker has a good length and lies in the row, and no two have a cell in common.
use Rattle.std.specs.Prelude.{◌≡◌, ◌≢◌, ℕ, ◌+◌, ◌≤◌, false, List, length, Option, Some}
use Rattle.store.specs.Cells.{Cell}
use Rattle.processor.specs.Limits.{Limits, share}
use Rattle.engine.specs.declared.place.Place.{Place}
use Rattle.engine.specs.Installation.{Installation, place_at, worker_of, limits_in}

-- the limits of the worker at a place
abbrev pub limits_at : List Place → ℕ → Option Limits
limits_at places p = limits_in (worker_of (place_at places p))

pub record Lies (row : List Cell) (s : Limits) : Type 0 where
  pub some : 1 ≤ s.length
  pub few : s.length ≤ 32768
  pub inside : s.lower + s.length ≤ length row

pub record Sound (i : Installation) : Type 0 where
  pub eight : length i.places ≡ 8
  pub lies : (p : ℕ) (s : Limits) → limits_at i.places p ≡ Some s → Lies i.row s
  pub apart : (p q : ℕ) (s t : Limits) → p ≢ q → limits_at i.places p ≡ Some s → limits_at i.places q ≡ Some t → share s t ≡ false
