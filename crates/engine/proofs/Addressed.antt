-- A look or a load is refused for its address only where that is not below the worker's length.
use Rattle.std.proofs.Common.{ℕ, ◌≡◌, ◌≤◌, Bool, true, false, List, length, nat_le, nat_lt, Some, None, Result, Ok, Err, refl, sym, ap, ◌∙◌, subst, arith}
use Rattle.std.specs.Prelude.{IfErr, ◌^◌}
use Rattle.std.proofs.lemmas.Bool.{ltb-true, ltb-false}
use Rattle.store.specs.Cells.{Cell}
use Rattle.store.specs.declared.fault.Fault.{Fault}
use Rattle.store.specs.declared.fault.Fault.TheVariants.{NoCell, Spoiled}
use Rattle.store.specs.Functions.{fetched, put_whole_answer}
use Rattle.processor.specs.Then.{◌>>=◌}
use Rattle.processor.proofs.Failed.{then_err}
use Rattle.processor.proofs.Faults.{FaultOfCell, fetched_of_cell, put_whole_of_cell}
use Rattle.engine.specs.declared.call.Call.{Call}
use Rattle.engine.specs.declared.call.Call.TheVariants as call
use Rattle.engine.specs.declared.call.Request.{Request}
use Rattle.engine.specs.declared.call.Request.TheVariants as request
use Rattle.engine.specs.declared.place.Place.{Place}
use Rattle.engine.specs.declared.place.Place.TheVariants as place
use Rattle.engine.specs.declared.place.Worker.{Worker}
use Rattle.engine.specs.declared.refusal.Refusal.{Refusal}
use Rattle.engine.specs.declared.refusal.Refusal.TheVariants as refusal
use Rattle.engine.specs.Exchanges.{after}
use Rattle.engine.specs.Installation.{Installation, holder, if_occupied, made, place_at, worker_at, Done, limits_in}
use Rattle.engine.specs.Refusals.{refusal_of}
use Rattle.engine.specs.Laws.{WordsBelowLength}
use Rattle.engine.specs.Own.{Own}
use Rattle.engine.specs.Performing.{ask, taken, taken_or_refused, performed}
use Rattle.engine.specs.Refusals.{require, by_store}
use Rattle.engine.specs.Serving.{served, load, look}
use Rattle.engine.proofs.Histories.{its_words}
use Rattle.engine.proofs.Lawful.{Untold, taken_untold, told, sound_after}
use Rattle.engine.proofs.Places.{some_is, holder_limits}
use Rattle.engine.proofs.Results.{OkIs}
use Rattle.engine.specs.Sound.{Sound}

-- what holds of every refusal that a call can meet holds of the one that is told
by_err : (P : Refusal → Type 0) (i : Installation) (c : Call (List ℕ)) (e : Refusal) (r : Result Done Refusal) → OkIs Untold r → IfErr r P → refusal_of (taken_or_refused i c r).answer ≡ Some e → P e
by_err P i c e (Ok t) untold holds same = let none : None ≡ Some e = sym untold ∙ same in absurd cc
by_err P i c e (Err f) untold holds same = subst P (some_is f e (sym (told c f) ∙ same)) holds

of_refusal : (P : Refusal → Type 0) (i : Installation) (c : Call (List ℕ)) (e : Refusal) → IfErr (taken i c) P → refusal_of (performed i c).answer ≡ Some e → P e
unfolding performed
of_refusal P i c e = by_err P i c e (taken i c) (taken_untold i c)

-- a test that is required
required_err : {Y : Type 0} → (P : Refusal → Type 0) (b : Bool) (e : Refusal) (r : Result Y Refusal) → (b ≡ false → P e) → (b ≡ true → IfErr r P) → IfErr (require b e >>= (λ _. r)) P
required_err P true e r failed met = met refl
required_err P false e r failed met = failed refl

module _ (r : ℕ) where
  -- a refusal for an address tells that it is not below a length
  abbrev Past : ℕ → Refusal → Type 0
  Past n e = e ≡ refusal.AddressPastLength → n ≤ r

  by_store_past : {X : Type 0} → (n : ℕ) (x : Result X Fault) → FaultOfCell x → IfErr (by_store x) (Past n)
  by_store_past n (Ok x) there = tt
  by_store_past n (Err NoCell) there = absurd (there refl)
  by_store_past n (Err (Spoiled half)) there = λ same. absurd cc

  module _ (n : ℕ) (o : Own) (words : n ≤ length o.words) where
    look_past : IfErr (look n o r) (Past n)
    look_past =
        required_err (Past n) (nat_lt r n) refusal.AddressPastLength _ (λ past _. ltb-false r n past) (λ below.
        then_err (Past n) (by_store (fetched o.words r)) _ (by_store_past n (fetched o.words r) (fetched_of_cell o.words r (omega (arith, words, ltb-true r n below)))) (λ w _. tt))

    load_past : (w : ℕ) → IfErr (load n o r w) (Past n)
    load_past w =
        required_err (Past n) (nat_lt r n) refusal.AddressPastLength _ (λ past _. ltb-false r n past) (λ below.
        required_err (Past n) (nat_lt w (2 ^ 30)) refusal.NumberTooWide _ (λ _ same. absurd cc) (λ fits.
        then_err (Past n) (by_store (put_whole_answer o.words r)) _ (by_store_past n (put_whole_answer o.words r) (put_whole_of_cell o.words r (omega (arith, words, ltb-true r n below)))) (λ done _. tt)))

  -- a holder is not refused for an address
  if_occupied_past : (n : ℕ) (row : List Cell) (place : Place) → IfErr (if_occupied row place) (Past n)
  if_occupied_past n row place.Free = λ same. absurd cc
  if_occupied_past n row (place.Ready w) = tt
  if_occupied_past n row (place.Held w report) = tt

  holder_past : (n : ℕ) (i : Installation) (p : ℕ) → IfErr (holder i p) (Past n)
  holder_past n i p = required_err (Past n) (nat_le p 7) refusal.NoSuchPlace _ (λ _ same. absurd cc) (λ exists. if_occupied_past n i.row (place_at i.places p))

  ask_past : (i : Installation) → Sound i → (p : ℕ) (w : Worker) → worker_at i p ≡ Some w → (what : Request (List ℕ)) → ((n : ℕ) (o : Own) → n ≤ length o.words → IfErr (served n o what) (Past n)) → IfErr (ask i p what) (Past w.limits.length)
  ask_past i sound p w at what past =
      then_err (Past w.limits.length) (holder i p) _ (holder_past w.limits.length i p) (λ h held.
      let limits : h.limits ≡ w.limits = some_is h.limits w.limits (sym (holder_limits i p h held).1 ∙ ap limits_in at) in
      let here = past h.limits.length h.own (omega (arith, its_words i sound p h held)) in
      then_err (Past w.limits.length) (served h.limits.length h.own what) _ (subst (λ s. IfErr (served h.limits.length h.own what) (Past s.length)) limits here) (λ s _. tt))

pub words_below_length : (row : List Cell) → WordsBelowLength row
unfolding served
words_below_length row calls p w address at =
    let i = after (made row) calls in
    let asked = ask_past address.0 i (sound_after row calls) p w at in (
      λ same. of_refusal (Past address.0 w.limits.length) i (call.Ask p (request.Look address)) _ (asked (request.Look address) (look_past address.0)) same refl,
      λ word same. of_refusal (Past address.0 w.limits.length) i (call.Ask p (request.Load address word)) _ (asked (request.Load address word) (λ n o words. load_past address.0 n o words word)) same refl,
    )
