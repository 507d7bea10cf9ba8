-- What is known where an admit is taken.
use Rattle.std.proofs.Common.{ℕ, ◌≡◌, ◌+◌, ◌<◌, ◌≤◌, true, false, not, ◌&&◌, length, nat_le, nat_lt, slice_set, Ok, Err, refl, ap, sym, ◌∙◌, arith}
use Rattle.store.specs.declared.address.CellAddress.{CellAddress}
use Rattle.records.specs.Registers.{starting_at}
use Rattle.engine.specs.declared.answer.Answer.TheVariants as answer
use Rattle.engine.specs.declared.call.Call.TheVariants as call
use Rattle.engine.specs.declared.call.Terms.{Terms}
use Rattle.engine.specs.declared.place.Place.{Place}
use Rattle.engine.specs.declared.place.Place.TheVariants.{Free, Ready}
use Rattle.processor.specs.Limits.{Limits}
use Rattle.engine.specs.declared.place.Worker.{Worker}
use Rattle.engine.specs.declared.refusal.Refusal.TheVariants as refusal
use Rattle.engine.specs.Admission.{admit, is_free, overlaps_any}
use Rattle.engine.specs.Installation.{Installation, place_at, Done}
use Rattle.engine.specs.Performing.{performed}
use Rattle.engine.proofs.Results.{OkIs, required_then}
use Rattle.engine.specs.Sound.{Lies}

-- the worker that terms make
abbrev pub new_worker : CellAddress → Terms → Worker
new_worker lower terms = record { limits = record { lower = lower.0; length = terms.length }; registers = starting_at terms.entry.0 }

module _ (i : Installation) (p : ℕ) (lower : CellAddress) (terms : Terms) where
  -- all tests are passed
  pub record Passes : Type 0 where
    pub exists : p ≤ 7
    pub free : is_free (place_at i.places p) ≡ true
    pub lies : Lies i.row (new_worker lower terms).limits
    pub apart : overlaps_any (new_worker lower terms).limits i.places ≡ false
    pub below : terms.entry.0 < terms.length

  abbrev pub admitted : Done
  admitted = record { answer = answer.Admitted (Ok tt); installation = record i { places = slice_set i.places p (Ready (new_worker lower terms)) } }

  -- what then holds of the installation with the new worker holds where an admit is taken
  pub of_admit : (P : Done → Type 0) → (Passes → P admitted) → OkIs P (admit i p lower terms)
  of_admit P holds =
      let limits : Limits = (new_worker lower terms).limits in
      required_then P (nat_le p 7) refusal.NoSuchPlace _ (λ exists.
      required_then P (is_free (place_at i.places p)) refusal.PlaceOccupied _ (λ free.
      required_then P (nat_le 1 terms.length && nat_le terms.length 32768) refusal.BadLength _ (λ good.
      required_then P (nat_le (lower.0 + terms.length) (length i.row)) refusal.PastStore _ (λ inside.
      required_then P (not (overlaps_any limits i.places)) refusal.CellShared _ (λ apart.
      required_then P (nat_lt terms.entry.0 terms.length) refusal.EntryPastLength _ (λ below.
      holds (record {
        exists = grind (arith, exists);
        free = free;
        lies = record { some = grind (arith, good); few = grind (arith, good); inside = grind (arith, inside) };
        apart = grind (arith, apart);
        below = grind (arith, below);
      })))))))

  -- with all tests passed it is done, and with the entry not below the length refused
  abbrev wants : Limits
  wants = (new_worker lower terms).limits

  pub record FindsRoom : Type 0 where
    pub exists : nat_le p 7 ≡ true
    pub free : is_free (place_at i.places p) ≡ true
    pub good : (nat_le 1 terms.length && nat_le terms.length 32768) ≡ true
    pub inside : nat_le (lower.0 + terms.length) (length i.row) ≡ true
    pub apart : overlaps_any wants i.places ≡ false

  pub finds_room : (place : Place) (limits : Limits) → (p ≤ 7) × (place ≡ place_at i.places p) → place ≡ Free
      → (limits ≡ wants) × ((nat_le 1 terms.length && nat_le terms.length 32768) ≡ true) × (nat_le (lower.0 + terms.length) (length i.row) ≡ true)
      → false ≡ overlaps_any limits i.places → FindsRoom
  finds_room place limits (exists, at) free (are, good, inside) apart = record {
    exists = grind (arith, exists);
    free = ap is_free (sym at ∙ free);
    good = good;
    inside = inside;
    apart = ap (λ l. overlaps_any l i.places) (sym are) ∙ sym apart;
  }

  pub admits : FindsRoom → nat_lt terms.entry.0 terms.length ≡ true → performed i (call.Admit p lower terms) ≡ admitted
  unfolding performed
  admits room below = rw (room.exists, room.free, room.good, room.inside, room.apart, below) refl

  pub past_entry : FindsRoom → nat_lt terms.entry.0 terms.length ≡ false → performed i (call.Admit p lower terms) ≡ record { answer = answer.Admitted (Err refusal.EntryPastLength); installation = i }
  unfolding performed
  past_entry room past = rw (room.exists, room.free, room.good, room.inside, room.apart, past) refl
