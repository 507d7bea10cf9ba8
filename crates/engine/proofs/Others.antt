-- A call that is not for the worker at a place leaves that worker as it is: its limits, state, registers and words.
use Rattle.std.proofs.Common.{ℕ, ◌≡◌, ◌≢◌, ◌≤◌, ◌+◌, true, false, List, length, slice_set, Result, Ok, Err, arith, ⊎_elim, ◌⊎◌, ◌∙◌, ap, sym, subst, refl}
use Rattle.std.proofs.lemmas.Bool.{cases_lt, and_cases}
use Rattle.store.specs.Cells.{Cell}
use Rattle.store.specs.declared.address.CellAddress.{CellAddress}
use Rattle.engine.specs.declared.call.Call.{Call}
use Rattle.engine.specs.declared.call.Call.TheVariants as call
use Rattle.engine.specs.declared.call.Request.{Request}
use Rattle.engine.specs.declared.call.Terms.{Terms}
use Rattle.engine.specs.declared.place.Place.{Place}
use Rattle.engine.specs.declared.place.Place.TheVariants.{Free, Ready, Held}
use Rattle.processor.specs.Limits.{Limits, words_in, row_with, share}
use Rattle.engine.specs.declared.refusal.Refusal.{Refusal}
use Rattle.engine.specs.declared.refusal.Refusal.TheVariants as refusal
use Rattle.engine.specs.Admission.{admit, retire, is_free}
use Rattle.engine.specs.FixedAddress.{fixed_address}
use Rattle.engine.specs.Isolation.{is_for}
use Rattle.engine.specs.Installation.{Installation, Holder, holder, if_occupied, place_at, Done}
use Rattle.engine.specs.Performing.{ask, taken, performed}
use Rattle.engine.specs.Serving.{served}
use Rattle.engine.proofs.Passing.{of_admit}
use Rattle.engine.proofs.Histories.{of_call, its_lies, as_many}
use Rattle.engine.proofs.Places.{Holds, holder_is, taken_is, holder_limits, holder_holds, set_there}
use Rattle.engine.proofs.Results.{OkIs, then_ok, ok_is}
use Rattle.engine.proofs.Rows.{words_above, words_below}
use Rattle.engine.specs.Sound.{Sound}

-- a worker with the words of a row
abbrev reworded : List Cell → Holder → Holder
reworded row h = record { limits = h.limits; own = record { state = h.own.state; registers = h.own.registers; words = words_in row h.limits.lower h.limits.length } }

abbrev all_reworded : List Cell → Result Holder Refusal → Result Holder Refusal
all_reworded row (Ok h) = Ok (reworded row h)
all_reworded row (Err e) = Err e

taken_reworded : (row new : List Cell) (place : Place) → if_occupied new place ≡ all_reworded new (if_occupied row place)
taken_reworded row new Free = refl
taken_reworded row new (Ready w) = refl
taken_reworded row new (Held w report) = refl

-- a place has the same worker in another row that has the same words there
same_taken : (row new : List Cell) (place : Place) (h : Holder) → words_in new h.limits.lower h.limits.length ≡ h.own.words → if_occupied row place ≡ Ok h → if_occupied new place ≡ Ok h
same_taken row new place h same held =
    taken_reworded row new place
    ∙ ap (all_reworded new) held
    ∙ ap (λ words. Ok (record { limits = h.limits; own = record { state = h.own.state; registers = h.own.registers; words = words } })) same

-- the words between limits stay where those of another are put with which it shares no cell
apart_words : (row : List Cell) (s t : Limits) (words : List Cell) → s.lower + s.length ≤ length row → length words ≡ s.length → share t s ≡ false → words_in (row_with row s.lower s.length words) t.lower t.length ≡ words_in row t.lower t.length
apart_words row s t words inside as_many apart =
    let sides : (s.lower + s.length ≤ t.lower) ⊎ (t.lower + t.length ≤ s.lower) = grind (arith, cases_lt, and_cases, apart) in
    ⊎_elim
    (λ above. words_above row s.lower s.length inside words as_many t.lower t.length above)
    (λ below. words_below row s.lower s.length inside words as_many t.lower t.length below)
    sides

is_not_free : (row : List Cell) (place : Place) (h : Holder) → if_occupied row place ≡ Ok h → is_free place ≡ true → ⊥
is_not_free row Free h held free = let e : Err refusal.PlaceFree ≡ Ok h = held in cc
is_not_free row (Ready w) h held free = cc
is_not_free row (Held w report) h held free = cc

module _ (i : Installation) (sound : Sound i) (p : ℕ) (h : Holder) (held : holder i p ≡ Ok h) where
  holds : Holds i.row (place_at i.places p) h
  holds = (ok_is (λ h. (p ≤ 7) × Holds i.row (place_at i.places p) h) (holder i p) h held (holder_holds i p)).1

  abbrev Stays : Done → Type 0
  Stays t = holder t.installation p ≡ Ok h

  -- where the place and the row are set elsewhere
  stays : (row : List Cell) (q : ℕ) (place : Place) → p ≢ q → words_in row h.limits.lower h.limits.length ≡ words_in i.row h.limits.lower h.limits.length → holder (record { row = row; places = slice_set i.places q place }) p ≡ Ok h
  stays row q place other same =
      let j : Installation = record { row = row; places = slice_set i.places q place } in
      holder_is j p (holder_limits i p h held).0
      ∙ ap (if_occupied row) (set_there i.places q place p other)
      ∙ same_taken i.row row (place_at i.places p) h (same ∙ sym holds.words_are) (taken_is i p h held)

  admit_stays : (q : ℕ) (lower : CellAddress) (terms : Terms) → OkIs Stays (admit i q lower terms)
  admit_stays q lower terms = of_admit i q lower terms Stays (λ passes.
      stays i.row q _ (λ same. is_not_free i.row (place_at i.places p) h (taken_is i p h held) (subst (λ q. is_free (place_at i.places q) ≡ true) (sym same) passes.free)) refl)

  ask_stays : (q : ℕ) (what : Request (List ℕ)) → p ≢ q → OkIs Stays (ask i q what)
  ask_stays q what other =
      then_ok Stays (holder i q) _ (λ g g_held.
      then_ok Stays (served g.limits.length g.own what) _ (λ s gave.
      stays (row_with i.row g.limits.lower g.limits.length s.own.words) q _ other
      (apart_words i.row g.limits h.limits s.own.words (its_lies i sound q g g_held).inside (as_many i sound q g g_held what s gave)
      (sound.apart p q h.limits g.limits other (holder_limits i p h held).1 (holder_limits i q g g_held).1))))

  retire_stays : (q : ℕ) → p ≢ q → OkIs Stays (retire i q)
  retire_stays q other = then_ok Stays (holder i q) _ (λ g held. stays i.row q Free other refl)

  taken_stays : (c : Call (List ℕ)) → is_for p c ≡ false → OkIs Stays (taken i c)
  taken_stays (call.Admit q lower terms) other = admit_stays q lower terms
  taken_stays (call.Ask q what) other = ask_stays q what (grind (arith, other))
  taken_stays (call.Retire q) other = retire_stays q (grind (arith, other))
  taken_stays (call.Span q) other = then_ok Stays (holder i q) _ (λ g _. held)
  taken_stays (call.FixedAddress number cell) other = then_ok Stays (fixed_address number cell.0) _ (λ a found. held)

  pub performed_stays : (c : Call (List ℕ)) → is_for p c ≡ false → holder (performed i c).installation p ≡ Ok h
  performed_stays c other = of_call Stays i c (λ e. held) (taken_stays c other)
