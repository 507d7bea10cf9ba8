-- A call changes no cell but those of the worker that it is for.
use Rattle.std.proofs.Common.{ℕ, ◌≡◌, ◌+◌, ◌==◌, true, List, drop, refl, ap, sym, ◌∙◌, arith, ⊎_elim, Some}
use Rattle.std.proofs.lemmas.Bool.{cases_lt}
use Rattle.std.proofs.lemmas.List.{get_or-take, get_or-drop}
use Rattle.store.specs.Cells.{Cell, cell_at}
use Rattle.engine.specs.declared.call.Call.{Call}
use Rattle.engine.specs.declared.call.Call.TheVariants as call
use Rattle.engine.specs.declared.call.Request.{Request}
use Rattle.engine.specs.declared.place.Worker.{Worker}
use Rattle.engine.specs.Isolation.{is_for}
use Rattle.processor.specs.Limits.{words_in}
use Rattle.engine.specs.Installation.{Installation, Done, holder, worker_of, worker_at}
use Rattle.engine.specs.Laws.{Has, OnlyItsCells}
use Rattle.engine.specs.Performing.{ask, taken, performed}
use Rattle.engine.specs.Serving.{served}
use Rattle.engine.proofs.Passing.{of_admit}
use Rattle.engine.proofs.Histories.{of_call, its_lies, its_place, as_many}
use Rattle.engine.proofs.Places.{worker_by}
use Rattle.engine.proofs.Results.{OkIs, then_ok}
use Rattle.engine.proofs.Rows.{words_above, words_below}
use Rattle.engine.specs.Sound.{Sound}

module _ (i : Installation) (sound : Sound i) (cell : ℕ) where
  abbrev Stays : Done → Type 0
  Stays t = words_in t.installation.row cell 1 ≡ words_in i.row cell 1

  abbrev NotIts : Call (List ℕ) → Type 0
  NotIts c = (p : ℕ) (w : Worker) → is_for p c ≡ true → worker_at i p ≡ Some w → Has w cell → ⊥

  ask_stays : (p : ℕ) (what : Request (List ℕ)) → NotIts (call.Ask p what) → OkIs Stays (ask i p what)
  ask_stays p what other =
      then_ok Stays (holder i p) _ (λ h held.
      then_ok Stays (served h.limits.length h.own what) _ (λ s gave.
      let w : Worker = record { limits = h.limits; registers = h.own.registers } in
      let at : worker_at i p ≡ Some w = ap worker_of (its_place i sound p h held).place_is ∙ worker_by h.own.state w in
      let same : (p == p) ≡ true = grind arith in
      let inside = (its_lies i sound p h held).inside in
      let many = as_many i sound p h held what s gave in
      ⊎_elim
      (λ below. words_below i.row h.limits.lower h.limits.length inside s.own.words many cell 1 (omega (arith, below)))
      (λ from. ⊎_elim
      (λ within. absurd (other p w same at (from, within)))
      (λ past. words_above i.row h.limits.lower h.limits.length inside s.own.words many cell 1 past)
      (cases_lt cell (h.limits.lower + h.limits.length)))
      (cases_lt cell h.limits.lower)))

  taken_stays : (c : Call (List ℕ)) → NotIts c → OkIs Stays (taken i c)
  taken_stays (call.Admit p lower terms) other = of_admit i p lower terms Stays (λ passes. refl)
  taken_stays (call.Ask p what) other = ask_stays p what other
  taken_stays (call.Retire p) other = search (then_ok)
  taken_stays (call.Span p) other = search (then_ok)
  taken_stays (call.FixedAddress number address) other = search (then_ok)

-- the cell at an address is the first of the words from there
first_word : (row : List Cell) (cell : ℕ) → cell_at (words_in row cell 1) 0 ≡ cell_at row cell
first_word row cell = get_or-take 1 (drop cell row) 0 _ (omega arith) ∙ get_or-drop cell row 0 _ ∙ ap (cell_at row) (omega arith)

pub only_its_cells : (i : Installation) → Sound i → (c : Call (List ℕ)) → OnlyItsCells i c (performed i c).installation
only_its_cells i sound c cell other =
    let j = (performed i c).installation in
    sym (first_word j.row cell)
    ∙ ap (λ words. cell_at words 0) (of_call (Stays i sound cell) i c (λ e. refl) (taken_stays i sound cell c other))
    ∙ first_word i.row cell
