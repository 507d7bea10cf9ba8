-- No report that a worker is held with tells that the store has no cell, after any history from the making.
use Rattle.std.proofs.Common.{ℕ, ◌≡◌, ◌≤◌, List, length, Some, Ok, ap, sym, ◌∙◌, subst, arith}
use Rattle.store.specs.Cells.{Cell}
use Rattle.processor.specs.declared.outcome.Ending.{Ending}
use Rattle.processor.specs.declared.outcome.Ending.TheVariants.{Spent, Interrupted}
use Rattle.processor.specs.Run.{run, report_of}
use Rattle.processor.specs.Reports.{OfCell}
use Rattle.processor.specs.Run.{EndingOfCell}
use Rattle.processor.proofs.Whole.{run_of_cell}
use Rattle.processor.specs.declared.outcome.Ran.{Ran}
use Rattle.processor.specs.declared.report.Report.{Report}
use Rattle.engine.specs.declared.answer.Answer.{Answer}
use Rattle.engine.specs.declared.answer.Answer.TheVariants as answer
use Rattle.engine.specs.Exchanges.{after}
use Rattle.engine.proofs.Lawful.{sound_after}
use Rattle.engine.specs.declared.answer.State.{State}
use Rattle.engine.specs.declared.answer.State.TheVariants.{Ready, Held}
use Rattle.engine.specs.declared.call.Call.{Call}
use Rattle.engine.specs.declared.call.Call.TheVariants as call
use Rattle.engine.specs.declared.call.Request.{Request}
use Rattle.engine.specs.declared.call.Request.TheVariants as request
use Rattle.engine.specs.declared.place.Place.{Place}
use Rattle.engine.specs.declared.place.Place.TheVariants as place
use Rattle.engine.specs.declared.place.Worker.{Worker}
use Rattle.engine.specs.FixedAddress.{fixed_address}
use Rattle.engine.specs.Installation.{Installation, holder, made, place_at, place_by, Done}
use Rattle.engine.specs.Laws.{NoReportOfNoCell, NoRunEndsInNoCell}
use Rattle.engine.specs.Own.{Own}
use Rattle.engine.specs.Performing.{ask, taken}
use Rattle.engine.specs.Serving.{Served, served, run_ready, machine_of, state_after}
use Rattle.engine.proofs.Passing.{of_admit}
use Rattle.engine.proofs.Histories.{after_keeps, its_place, its_words, of_call}
use Rattle.engine.proofs.Places.{set_all, free_at, some_is, none_is}
use Rattle.engine.proofs.Results.{OkIs, then_ok, ok_is}
use Rattle.engine.specs.Sound.{Sound}
use Rattle.engine.proofs.Sound.{made_sound}

-- a state's report, if it has one, does not tell it
abbrev StateOfCell : State → Type 0
StateOfCell Ready = Unit {0}
StateOfCell (Held report) = OfCell report

ending_of_cell : (ending : Ending) → EndingOfCell ending → StateOfCell (state_after ending)
ending_of_cell Spent there = tt
ending_of_cell (Interrupted report) there = there

abbrev LeftOfCell : Served → Type 0
LeftOfCell s = StateOfCell s.own.state

-- whatever is asked of a worker with all its words leaves it in such a state
module _ (n : ℕ) (o : Own) (all : n ≤ length o.words) (there : StateOfCell o.state) where
  run_leaves : (state : State) (budget : ℕ) → OkIs LeftOfCell (run_ready state n o budget)
  run_leaves Ready budget = ending_of_cell (run budget (machine_of n o)).told.ending (run_of_cell budget (machine_of n o) all)
  run_leaves (Held report) budget = tt

  served_leaves : (what : Request (List ℕ)) → OkIs LeftOfCell (served n o what)
  unfolding served
  served_leaves (request.Load r w) = search (then_ok, there)
  served_leaves (request.Look r) = search (then_ok, there)
  served_leaves (request.Run budget) = search (then_ok, run_leaves)
  served_leaves (request.Answer a q p) = search (then_ok)
  served_leaves (request.Save buffer) = search (then_ok, there)
  served_leaves (request.Restore bytes) = search (then_ok)
  served_leaves request.Tell = there

-- nor does that of any place
abbrev PlaceOfCell : Place → Type 0
PlaceOfCell place.Free = Unit {0}
PlaceOfCell (place.Ready w) = Unit {0}
PlaceOfCell (place.Held w report) = OfCell report

abbrev AllOfCell : Installation → Type 0
AllOfCell i = (p : ℕ) → PlaceOfCell (place_at i.places p)

abbrev TakenOfCell : Done → Type 0
TakenOfCell t = AllOfCell t.installation

by_state : (state : State) (w : Worker) → StateOfCell state → PlaceOfCell (place_by state w)
by_state Ready w there = tt
by_state (Held report) w there = there

of_state : (state : State) (w : Worker) → PlaceOfCell (place_by state w) → StateOfCell state
of_state Ready w there = tt
of_state (Held report) w there = there

module _ (i : Installation) (sound : Sound i) (all : AllOfCell i) where
  ask_leaves : (p : ℕ) (what : Request (List ℕ)) → OkIs TakenOfCell (ask i p what)
  ask_leaves p what =
      then_ok TakenOfCell (holder i p) _ (λ h held.
      then_ok TakenOfCell (served h.limits.length h.own what) _ (λ s gave.
      let words : h.limits.length ≤ length h.own.words = omega (arith, its_words i sound p h held) in
      let there : StateOfCell h.own.state = of_state h.own.state _ (subst PlaceOfCell (its_place i sound p h held).place_is (all p)) in
      set_all PlaceOfCell i.places p _ all (by_state s.own.state _ (ok_is LeftOfCell (served h.limits.length h.own what) s gave (served_leaves h.limits.length h.own words there what)))))

  taken_leaves : (c : Call (List ℕ)) → OkIs TakenOfCell (taken i c)
  taken_leaves (call.Admit p lower terms) = of_admit i p lower terms TakenOfCell (λ passes. set_all PlaceOfCell i.places p _ all tt)
  taken_leaves (call.Ask p what) = ask_leaves p what
  taken_leaves (call.Retire p) = then_ok TakenOfCell (holder i p) _ (λ h held. set_all PlaceOfCell i.places p place.Free all tt)
  taken_leaves (call.Span p) = then_ok TakenOfCell (holder i p) _ (λ h held. all)
  taken_leaves (call.FixedAddress number cell) = then_ok TakenOfCell (fixed_address number cell.0) _ (λ a found. all)

pub no_report_of_no_cell : (row : List Cell) → NoReportOfNoCell row
no_report_of_no_cell row calls p w report held =
    subst PlaceOfCell held (after_keeps AllOfCell taken_leaves (made row) calls (made_sound row) (λ q. subst PlaceOfCell (sym (free_at 8 q)) tt) p)

-- what a run tells
ending_tells : (ending : Ending) (report : Report) → EndingOfCell ending → report_of ending ≡ Some report → OfCell report
ending_tells Spent report there same = absurd (none_is report same)
ending_tells (Interrupted r) report there same = subst OfCell (some_is r report same) there

abbrev Tells : Answer (List ℕ) → Type 0
Tells a = (ran : Ran) (report : Report) → a ≡ answer.Ran (Ok ran) → report_of ran.ending ≡ Some report → OfCell report

ran_tells : (ran : Ran) → EndingOfCell ran.ending → Tells (answer.Ran (Ok ran))
ran_tells ran there told report same ends = ending_tells ran.ending report there (ap (λ r. report_of r.ending) same_ran ∙ ends)
  where
    same_ran : ran ≡ told
    same_ran = cc

module _ (n : ℕ) (o : Own) (all : n ≤ length o.words) where
  ready_tells : (state : State) (budget : ℕ) → OkIs (λ s. Tells s.answer) (run_ready state n o budget)
  ready_tells Ready budget = ran_tells (run budget (machine_of n o)).told (run_of_cell budget (machine_of n o) all)
  ready_tells (Held report) budget = tt

  run_tells : (budget : ℕ) → OkIs (λ s. Tells s.answer) (served n o (request.Run budget))
  unfolding served
  run_tells budget = search (then_ok, ready_tells)

ask_tells : (i : Installation) → Sound i → (p budget : ℕ) → OkIs (λ t. Tells t.answer) (ask i p (request.Run budget))
ask_tells i sound p budget =
    then_ok (λ t. Tells t.answer) (holder i p) _ (λ h held.
    then_ok (λ t. Tells t.answer) (served h.limits.length h.own (request.Run budget)) _ (λ s gave.
    ok_is (λ s. Tells s.answer) (served h.limits.length h.own (request.Run budget)) s gave (run_tells h.limits.length h.own (omega (arith, its_words i sound p h held)) budget)))

pub no_run_ends_in_no_cell : (row : List Cell) → NoRunEndsInNoCell row
no_run_ends_in_no_cell row calls p budget =
    let i = after (made row) calls in
    of_call (λ t. Tells t.answer) i (call.Ask p (request.Run budget)) (λ e ran report told. absurd cc) (ask_tells i (sound_after row calls) p budget)
