-- Bytes that tell a worker's registers restore them.
use Rattle.std.proofs.Common.{ℕ, ◌≡◌, inl, inr, List, Some, Result, Ok, Err, refl, ap}
use Rattle.std.specs.Prelude.{OnOk}
use Rattle.records.specs.Record.{record_read}
use Rattle.records.specs.Registers.{Registers}
use Rattle.engine.specs.declared.answer.Answer.TheVariants as answer
use Rattle.engine.specs.declared.call.Request.TheVariants as request
use Rattle.engine.specs.declared.place.Place.{Place}
use Rattle.engine.specs.declared.place.Place.TheVariants.{Free, Ready, Held}
use Rattle.engine.specs.declared.place.Worker.{Worker}
use Rattle.engine.specs.Installation.{place_at, worker_of}
use Rattle.engine.specs.Laws.{Restores}
use Rattle.engine.proofs.Asked.{HasWorker, readied}
use Rattle.engine.proofs.Places.{none_is, some_is}
use Rattle.engine.proofs.Serves.{restores as restores_it}

has_worker : (place : Place) (w : Worker) → worker_of place ≡ Some w → HasWorker place w
has_worker Free w at = absurd (none_is w at)
has_worker (Ready v) w at = inl (ap Ready (some_is v w at))
has_worker (Held v report) w at = inr (report, ap (λ x. Held x report) (some_is v w at))

pub restores : (bytes : List ℕ) (r : Registers) → record_read bytes ≡ Ok r → Restores bytes r
restores bytes r read i p w exists at =
    readied i p exists (place_at i.places p) refl w (has_worker (place_at i.places p) w at) (request.Restore bytes) (answer.Restored (Ok tt)) r
    (λ s. restores_it i.row w s bytes r read)

-- so does a buffer that is saved
pub saved_restores : {X E : Type 0} → (r : Result X E) (place : Place) (buffer : List ℕ) → OnOk r ((w : Worker) → worker_of place ≡ Some w → record_read buffer ≡ Ok w.registers)
    → OnOk r ((w : Worker) → worker_of place ≡ Some w → Restores buffer w.registers)
saved_restores (Ok x) place buffer reads = λ w at. restores buffer w.registers (reads w at)
saved_restores (Err e) place buffer reads = tt
