-- The registers of every worker fit, after any history from the making.
use Rattle.std.proofs.Common.{ℕ, ◌≡◌, ◌≤◌, ◌<◌, ◌^◌, ◌&&◌, List, nat_lt, Some, Result, Ok, Err, refl, sym, ap, ◌∙◌, subst, arith}
use Rattle.store.specs.Cells.{Cell}
use Rattle.store.specs.declared.address.CellAddress.{CellAddress}
use Rattle.records.specs.Record.{record_read}
use Rattle.records.specs.Registers.{Registers, Fits, starting_at}
use Rattle.records.proofs.Fitting.{read_fits}
use Rattle.records.specs.declared.fault.RecordFault.{RecordFault}
use Rattle.records.specs.declared.fault.RecordFault.TheVariants as fault
use Rattle.processor.proofs.Fitting.{run_fits}
use Rattle.engine.specs.declared.answer.State.{State}
use Rattle.engine.specs.declared.answer.State.TheVariants.{Ready, Held}
use Rattle.engine.specs.declared.call.Call.{Call}
use Rattle.engine.specs.declared.call.Call.TheVariants as call
use Rattle.engine.specs.declared.call.Request.{Request}
use Rattle.engine.specs.declared.call.Request.TheVariants as request
use Rattle.engine.specs.declared.call.Terms.{Terms}
use Rattle.engine.specs.declared.place.Place.{Place}
use Rattle.engine.specs.declared.place.Place.TheVariants as place
use Rattle.engine.specs.declared.place.Worker.{Worker}
use Rattle.engine.specs.declared.refusal.Refusal.TheVariants as refusal
use Rattle.engine.specs.Admission.{admit, retire}
use Rattle.engine.specs.FixedAddress.{fixed_address}
use Rattle.engine.specs.Installation.{Installation, Holder, holder, made, place_at, place_by, worker_of, Done}
use Rattle.engine.specs.Laws.{RegistersFit}
use Rattle.engine.specs.Own.{Own, is_held}
use Rattle.engine.specs.Performing.{ask, taken}
use Rattle.engine.specs.Refusals.{by_record}
use Rattle.engine.specs.Serving.{Served, served, run_ready, machine_of, answered}
use Rattle.engine.proofs.Passing.{new_worker, of_admit}
use Rattle.engine.proofs.Histories.{after_keeps, its_place, its_lies}
use Rattle.engine.proofs.Places.{set_all, free_at, some_is, none_is, worker_by}
use Rattle.engine.proofs.Results.{OkIs, then_ok, ok_is, required_then}
use Rattle.engine.specs.Sound.{Sound}
use Rattle.engine.proofs.Sound.{made_sound}

read_fitted : (r : Result Registers RecordFault) → OkIs Fits r → OkIs Fits (by_record r)
read_fitted (Ok r) fits = fits
read_fitted (Err fault.TooShort) fits = tt
read_fitted (Err fault.WrongLength) fits = tt
read_fitted (Err fault.WrongVersion) fits = tt
read_fitted (Err (fault.TooWide offset)) fits = tt

-- what is asked of a worker whose registers fit leaves registers that fit
module _ (n : ℕ) (few : n ≤ 32768) (o : Own) (fits : Fits o.registers) where
  abbrev StillFits : Served → Type 0
  StillFits s = Fits s.own.registers

  run_fitted : (state : State) (budget : ℕ) → OkIs StillFits (run_ready state n o budget)
  run_fitted Ready budget = run_fits budget (machine_of n o) few fits
  run_fitted (Held report) budget = tt

  answered_fitted : (a q p : ℕ) → OkIs StillFits (answered o a q p)
  answered_fitted a q p = required_then StillFits (nat_lt a (2 ^ 30) && nat_lt q (2 ^ 30) && nat_lt p (2 ^ 17)) refusal.NumberTooWide _ (λ small.
      let set : Fits (record { a = a; q = q; b = o.registers.b; p = p }) = (grind (arith, small), grind (arith, small), fits.2, fits.3, grind (arith, small)) in
      required_then StillFits (is_held o.state) refusal.WorkerNotHeld _ (λ held. set))

  served_fitted : (what : Request (List ℕ)) → OkIs StillFits (served n o what)
  unfolding served
  served_fitted (request.Load r w) = search (then_ok, fits)
  served_fitted (request.Look r) = search (then_ok, fits)
  served_fitted (request.Run budget) = search (then_ok, run_fitted)
  served_fitted (request.Answer a q p) = answered_fitted a q p
  served_fitted (request.Save buffer) = search (then_ok, fits)
  served_fitted (request.Restore bytes) = then_ok StillFits (by_record (record_read bytes)) _ (λ r read. ok_is Fits (by_record (record_read bytes)) r read (read_fitted (record_read bytes) (read_fits bytes)))
  served_fitted request.Tell = fits

new_fits : (entry : ℕ) → entry < 32768 → Fits (starting_at entry)
new_fits entry small = let b : 0 < 2 ^ 15 = omega arith in (omega arith, omega arith, refl, (b, (b, (b, (b, (b, (b, (b, tt))))))), omega (arith, small))

-- the registers of the worker of each place fit
abbrev PlaceFits : Place → Type 0
PlaceFits place = (w : Worker) → worker_of place ≡ Some w → Fits w.registers

abbrev AllFit : Installation → Type 0
AllFit i = (p : ℕ) → PlaceFits (place_at i.places p)

-- a place by its state has a worker with those registers
by_state_fits : (state : State) (v w : Worker) → Fits v.registers → worker_of (place_by state v) ≡ Some w → Fits w.registers
by_state_fits state v w fits at = subst (λ w. Fits w.registers) (some_is v w (sym (worker_by state v) ∙ at)) fits

module _ (i : Installation) (sound : Sound i) (all : AllFit i) where
  abbrev Fitted : Done → Type 0
  Fitted t = AllFit t.installation

  held_fits : (p : ℕ) (h : Holder) → holder i p ≡ Ok h → Fits h.own.registers
  held_fits p h held =
      let w : Worker = record { limits = h.limits; registers = h.own.registers } in
      all p w (ap worker_of (its_place i sound p h held).place_is ∙ worker_by h.own.state w)

  ask_fitted : (p : ℕ) (what : Request (List ℕ)) → OkIs Fitted (ask i p what)
  ask_fitted p what =
      then_ok Fitted (holder i p) _ (λ h held.
      then_ok Fitted (served h.limits.length h.own what) _ (λ s gave.
      let left : Worker = record { limits = h.limits; registers = s.own.registers } in
      let fits : Fits s.own.registers = ok_is (StillFits h.limits.length (its_lies i sound p h held).few h.own (held_fits p h held)) (served h.limits.length h.own what) s gave (served_fitted h.limits.length (its_lies i sound p h held).few h.own (held_fits p h held) what) in
      set_all PlaceFits i.places p (place_by s.own.state left) all (λ w at. by_state_fits s.own.state left w fits at)))

  retire_fitted : (p : ℕ) → OkIs Fitted (retire i p)
  retire_fitted p = then_ok Fitted (holder i p) _ (λ h held. set_all PlaceFits i.places p place.Free all (λ w at. absurd (none_is w at)))

  admit_fitted : (p : ℕ) (lower : CellAddress) (terms : Terms) → OkIs Fitted (admit i p lower terms)
  admit_fitted p lower terms = of_admit i p lower terms Fitted (λ passes.
      let fits : Fits (starting_at terms.entry.0) = new_fits terms.entry.0 (omega (arith, passes.below, passes.lies.few)) in
      set_all PlaceFits i.places p _ all (λ w at. subst (λ w. Fits w.registers) (some_is (new_worker lower terms) w at) fits))

  taken_fitted : (c : Call (List ℕ)) → OkIs Fitted (taken i c)
  taken_fitted (call.Admit p lower terms) = admit_fitted p lower terms
  taken_fitted (call.Ask p what) = ask_fitted p what
  taken_fitted (call.Retire p) = retire_fitted p
  taken_fitted (call.Span p) = then_ok Fitted (holder i p) _ (λ h held. all)
  taken_fitted (call.FixedAddress number cell) = then_ok Fitted (fixed_address number cell.0) _ (λ a found. all)

pub registers_fit : (row : List Cell) → RegistersFit row
registers_fit row calls p w at = after_keeps AllFit taken_fitted (made row) calls (made_sound row) (λ q v free. absurd (none_is v (sym (ap worker_of (free_at 8 q)) ∙ free))) p w at
