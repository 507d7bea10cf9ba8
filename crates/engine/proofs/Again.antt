-- A worker put back as it was leaves the installation as it was.
use Rattle.std.proofs.Common.{ℕ, ◌≡◌, List, ap, sym, ◌∙◌, slice_set}
use Rattle.std.proofs.lemmas.List.{set-get_or}
use Rattle.processor.specs.Limits.{words_in}
use Rattle.processor.proofs.Between.{row_again}
use Rattle.engine.specs.declared.answer.State.{State}
use Rattle.engine.specs.declared.place.Place.{Place}
use Rattle.engine.specs.declared.place.Place.TheVariants.{Free}
use Rattle.engine.specs.declared.place.Worker.{Worker}
use Rattle.engine.specs.Installation.{Installation, place_at, place_by, with_own}

pub set_again : (places : List Place) (p : ℕ) (place : Place) → place_at places p ≡ place → slice_set places p place ≡ places
set_again places p place at = ap (slice_set places p) (sym at) ∙ set-get_or places p Free

pub own_again : (i : Installation) (p : ℕ) (state : State) (w : Worker) → place_at i.places p ≡ place_by state w
    → with_own i p w.limits (record { state = state; registers = w.registers; words = words_in i.row w.limits.lower w.limits.length }) ≡ i
own_again i p state w at =
    ap (λ row. record { row = row; places = slice_set i.places p (place_by state w) }) (row_again i.row w.limits)
    ∙ ap (λ places. record { row = i.row; places = places }) (set_again i.places p (place_by state w) at)
