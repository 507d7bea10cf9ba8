-- Admitting a worker, retiring it, and its span.
use Rattle.std.specs.Prelude.{ℕ, ◌+◌, Bool, true, false, not, ◌&&◌, List, length, nat_lt, nat_le, slice_set, Result, Ok, Option, Some, None}
use Rattle.std.specs.List.{list_any}
use Rattle.store.specs.declared.address.CellAddress.{CellAddress}
use Rattle.records.specs.Registers.{starting_at}
use Rattle.processor.specs.Limits.{Limits, share}
use Rattle.processor.specs.Then.{◌>>=◌}
use Rattle.engine.specs.declared.answer.Answer.TheVariants as answer
use Rattle.engine.specs.declared.call.Terms.{Terms}
use Rattle.engine.specs.declared.place.Place.{Place}
use Rattle.engine.specs.declared.place.Place.TheVariants.{Free, Ready, Held}
use Rattle.engine.specs.declared.place.Span.{Span}
use Rattle.engine.specs.declared.place.Worker.{Worker}
use Rattle.engine.specs.declared.refusal.Refusal.{Refusal}
use Rattle.engine.specs.declared.refusal.Refusal.TheVariants as refusal
use Rattle.engine.specs.Installation.{Installation, place_at, worker_of, holder, Done}
use Rattle.engine.specs.Refusals.{require}

abbrev pub is_free : Place → Bool
is_free Free = true
is_free (Ready w) = false
is_free (Held w report) = false

-- and with those of a worker, if there is one
abbrev pub shares : Limits → Option Worker → Bool
shares limits None = false
shares limits (Some w) = share limits w.limits

-- limits have a cell in common with those of the worker of some place
abbrev pub overlaps_any : Limits → List Place → Bool
overlaps_any limits places = list_any (λ place. shares limits (worker_of place)) places

-- the new worker is ready to run from its entry, with all else 0 in its registers; it has the words that lie in its cells
abbrev pub admit : Installation → ℕ → CellAddress → Terms → Result Done Refusal
admit i p lower terms = let limits : Limits = record { lower = lower.0; length = terms.length } in do
  exists ← require (nat_le p 7) refusal.NoSuchPlace
  free ← require (is_free (place_at i.places p)) refusal.PlaceOccupied
  good ← require (nat_le 1 terms.length && nat_le terms.length 32768) refusal.BadLength
  inside ← require (nat_le (lower.0 + terms.length) (length i.row)) refusal.PastStore
  apart ← require (not (overlaps_any limits i.places)) refusal.CellShared
  below ← require (nat_lt terms.entry.0 terms.length) refusal.EntryPastLength
  Ok (record {
    answer = answer.Admitted (Ok tt);
    installation = record i { places = slice_set i.places p (Ready (record { limits = limits; registers = starting_at terms.entry.0 })) };
  })

-- the place is free again, and the cells stay
abbrev pub retire : Installation → ℕ → Result Done Refusal
retire i p = do
  h ← holder i p
  Ok (record { answer = answer.Retired (Ok tt); installation = record i { places = slice_set i.places p Free } })

-- the lower limit and the length
abbrev pub span_by : Limits → Span
span_by limits = record { lower = record { 0 = limits.lower }; length = limits.length }

abbrev pub span_of : Installation → ℕ → Result Done Refusal
span_of i p = do
  h ← holder i p
  Ok (record { answer = answer.Spanned (Ok (span_by h.limits)); installation = i })
