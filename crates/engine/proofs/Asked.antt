-- A worker that is at a place is asked: what it is served, the call answers.
use Rattle.std.proofs.Common.{ℕ, ◌≡◌, ◌⊎◌, ◌≤◌, ⊎_elim, List, Result, Ok, ap, sym, ◌∙◌, slice_set}
use Rattle.processor.specs.declared.report.Report.{Report}
use Rattle.processor.specs.Limits.{Becomes, words_in}
use Rattle.processor.specs.Then.{◌>>=◌}
use Rattle.processor.proofs.Between.{becomes_row, row_again}
use Rattle.records.specs.Registers.{Registers}
use Rattle.store.specs.Cells.{Cell}
use Rattle.engine.specs.declared.answer.Answer.{Answer}
use Rattle.engine.specs.declared.answer.State.{State}
use Rattle.engine.specs.declared.answer.State.TheVariants as state
use Rattle.engine.specs.declared.call.Call.TheVariants as call
use Rattle.engine.specs.declared.call.Request.{Request}
use Rattle.engine.specs.declared.place.Place.{Place}
use Rattle.engine.specs.declared.place.Place.TheVariants.{Ready, Held}
use Rattle.engine.specs.declared.place.Worker.{Worker}
use Rattle.engine.specs.declared.refusal.Refusal.{Refusal}
use Rattle.engine.specs.Installation.{Installation, Done, holder, if_occupied, place_at, place_by, with_own}
use Rattle.engine.specs.Own.{Own}
use Rattle.engine.specs.Performing.{performed, taken_or_refused}
use Rattle.engine.specs.Serving.{Served, served, serving}
use Rattle.engine.proofs.Again.{own_again, set_again}
use Rattle.engine.proofs.Alone.{by_its_state}
use Rattle.engine.proofs.Places.{holder_is}

-- a place has a worker, ready or held
abbrev pub HasWorker : Place → Worker → Type 0
HasWorker place w = (place ≡ Ready w) ⊎ ((report : Report) × (place ≡ Held w report))

module _ (i : Installation) (p : ℕ) (exists : p ≤ 7) (place : Place) (at : place ≡ place_at i.places p) (w : Worker) where
  -- it has its state, its registers, and the words between its limits
  abbrev pub own : State → Own
  own s = record { state = s; registers = w.registers; words = words_in i.row w.limits.lower w.limits.length }

  -- what holds of it in the state that it is in
  pub in_its_state : (P : Type 0) → HasWorker place w → ((s : State) → place_at i.places p ≡ place_by s w → P) → P
  in_its_state P has holds = ⊎_elim (λ ready. holds state.Ready (sym at ∙ ready)) (λ (report, held). holds (state.Held report) (sym at ∙ held)) has

  module _ (s : State) (is : place_at i.places p ≡ place_by s w) where
    pub its_holder : holder i p ≡ Ok (record { limits = w.limits; own = own s })
    its_holder = holder_is i p exists ∙ ap (if_occupied i.row) is ∙ by_its_state i.row s w

    abbrev done : Result Served Refusal → Result Done Refusal
    done r = r >>= (λ s. Ok (record { answer = s.answer; installation = with_own i p w.limits s.own }))

    pub asked_by : (what : Request (List ℕ)) → performed i (call.Ask p what) ≡ taken_or_refused i (call.Ask p what) (done (served w.limits.length (own s) what))
    unfolding performed
    asked_by what = ap (λ r. taken_or_refused i (call.Ask p what) (r >>= (λ h. served h.limits.length h.own what >>= (λ s. Ok (record { answer = s.answer; installation = with_own i p h.limits s.own }))))) its_holder

    pub asked_ok : (what : Request (List ℕ)) (a : Answer (List ℕ)) (o : Own) → served w.limits.length (own s) what ≡ Ok (serving a o) → performed i (call.Ask p what) ≡ record { answer = a; installation = with_own i p w.limits o }
    asked_ok what a o gave = asked_by what ∙ ap (λ r. taken_or_refused i (call.Ask p what) (done r)) gave

  -- with other words in the row, and with another state and other registers
  pub with_words : (s : State) (words after : List Cell) → place_at i.places p ≡ place_by s w → Becomes i.row w.limits words after
      → with_own i p w.limits (record { state = s; registers = w.registers; words = words }) ≡ record { row = after; places = i.places }
  with_words s words after is becomes =
      ap (λ row. record { row = row; places = slice_set i.places p (place_by s w) }) (sym (becomes_row i.row w.limits words after becomes))
      ∙ ap (λ places. record { row = after; places = places }) (set_again i.places p (place_by s w) is)

  pub with_registers : (s : State) (r : Registers) → with_own i p w.limits (record { state = s; registers = r; words = words_in i.row w.limits.lower w.limits.length })
      ≡ record { row = i.row; places = slice_set i.places p (place_by s (record { limits = w.limits; registers = r })) }
  with_registers s r = ap (λ row. record { row = row; places = slice_set i.places p (place_by s (record { limits = w.limits; registers = r })) }) (row_again i.row w.limits)

  pub readied_in : (s : State) → place_at i.places p ≡ place_by s w → (what : Request (List ℕ)) (a : Answer (List ℕ)) (r : Registers) → served w.limits.length (own s) what ≡ Ok (serving a (record (own s) { state = state.Ready; registers = r }))
      → performed i (call.Ask p what) ≡ record { answer = a; installation = record { row = i.row; places = slice_set i.places p (Ready (record { limits = w.limits; registers = r })) } }
  readied_in s is what a r gave = asked_ok s is what a _ gave ∙ ap (λ j. record { answer = a; installation = j }) (with_registers state.Ready r)

  -- a question leaves all
  pub told_in : (s : State) → place_at i.places p ≡ place_by s w → (what : Request (List ℕ)) (a : Answer (List ℕ)) → served w.limits.length (own s) what ≡ Ok (serving a (own s)) → performed i (call.Ask p what) ≡ record { answer = a; installation = i }
  told_in s is what a gave = asked_ok s is what a (own s) gave ∙ ap (λ j. record { answer = a; installation = j }) (own_again i p s w is)

  module _ (has : HasWorker place w) (what : Request (List ℕ)) where
    pub told : (a : Answer (List ℕ)) → ((s : State) → served w.limits.length (own s) what ≡ Ok (serving a (own s))) → performed i (call.Ask p what) ≡ record { answer = a; installation = i }
    told a gave = in_its_state _ has (λ s is. told_in s is what a (gave s))

    pub reworded : (a : Answer (List ℕ)) (words after : List Cell) → Becomes i.row w.limits words after → ((s : State) → served w.limits.length (own s) what ≡ Ok (serving a (record (own s) { words = words }))) → performed i (call.Ask p what) ≡ record { answer = a; installation = record { row = after; places = i.places } }
    reworded a words after becomes gave = in_its_state _ has (λ s is. asked_ok s is what a _ (gave s) ∙ ap (λ j. record { answer = a; installation = j }) (with_words s words after is becomes))

    -- it is ready afterwards, with other registers
    pub readied : (a : Answer (List ℕ)) (r : Registers) → ((s : State) → served w.limits.length (own s) what ≡ Ok (serving a (record (own s) { state = state.Ready; registers = r }))) → performed i (call.Ask p what) ≡ record { answer = a; installation = record { row = i.row; places = slice_set i.places p (Ready (record { limits = w.limits; registers = r })) } }
    readied a r gave = in_its_state _ has (λ s is. readied_in s is what a r (gave s))
