-- Every call, and so every history from the making, leaves a sound installation.
use Rattle.std.proofs.Common.{ℕ, ◌≡◌, List, [], ◌∷◌, length, Result, Ok, Err, ◌∙◌, ap}
use Rattle.engine.specs.declared.call.Call.{Call}
use Rattle.engine.specs.declared.call.Call.TheVariants as call
use Rattle.engine.specs.declared.call.Request.{Request}
use Rattle.engine.specs.declared.call.Terms.{Terms}
use Rattle.engine.specs.declared.refusal.Refusal.{Refusal}
use Rattle.store.specs.declared.address.CellAddress.{CellAddress}
use Rattle.engine.specs.Admission.{admit, retire, span_of}
use Rattle.engine.specs.FixedAddress.{fixed_address}
use Rattle.engine.specs.Exchanges.{after}
use Rattle.engine.specs.Installation.{Installation, Holder, holder, place_at, Done}
use Rattle.engine.specs.Performing.{ask, taken, refused, taken_or_refused, performed}
use Rattle.engine.specs.Serving.{Served, served}
use Rattle.engine.proofs.Passing.{new_worker, of_admit}
use Rattle.engine.proofs.Places.{Holds, holder_limits, holder_holds}
use Rattle.engine.proofs.Results.{OkIs, then_ok, ok_is}
use Rattle.engine.proofs.Rows.{words_number}
use Rattle.engine.proofs.Served.{served_kept}
use Rattle.engine.specs.Sound.{Sound, Lies}
use Rattle.engine.proofs.Sound.{asked_sound, retired_sound, admitted_sound}

-- what holds of a refused call, and of a call that is taken, holds of every call
by_result : (P : Done → Type 0) (i : Installation) (c : Call (List ℕ)) (r : Result Done Refusal) → ((e : Refusal) → P (record { answer = refused c e; installation = i })) → OkIs P r → P (taken_or_refused i c r)
by_result P i c (Ok t) if_refused if_occupied = if_occupied
by_result P i c (Err e) if_refused if_occupied = if_refused e

pub of_call : (P : Done → Type 0) (i : Installation) (c : Call (List ℕ)) → ((e : Refusal) → P (record { answer = refused c e; installation = i })) → OkIs P (taken i c) → P (performed i c)
unfolding performed
of_call P i c = by_result P i c (taken i c)

-- a worker is at its place and lies in the row, and one that was served has as many words as its length
module _ (i : Installation) (sound : Sound i) (p : ℕ) (h : Holder) (held : holder i p ≡ Ok h) where
  pub its_place : Holds i.row (place_at i.places p) h
  its_place = (ok_is _ (holder i p) h held (holder_holds i p)).1

  pub its_lies : Lies i.row h.limits
  its_lies = sound.lies p h.limits (holder_limits i p h held).1

  pub its_words : length h.own.words ≡ h.limits.length
  its_words = ap length its_place.words_are ∙ words_number i.row h.limits.lower h.limits.length its_lies.inside

  pub as_many : (what : Request (List ℕ)) (s : Served) → served h.limits.length h.own what ≡ Ok s → length s.own.words ≡ h.limits.length
  as_many what s gave = ok_is (λ s. length s.own.words ≡ length h.own.words) (served h.limits.length h.own what) s gave (served_kept h.limits.length h.own what) ∙ its_words

abbrev Leaves : Done → Type 0
Leaves t = Sound t.installation

module _ (i : Installation) (sound : Sound i) where
  admit_sound : (p : ℕ) (lower : CellAddress) (terms : Terms) → OkIs Leaves (admit i p lower terms)
  admit_sound p lower terms = of_admit i p lower terms Leaves (λ passes. admitted_sound i p (new_worker lower terms) sound passes.exists passes.lies passes.apart)

  retire_sound : (p : ℕ) → OkIs Leaves (retire i p)
  retire_sound p = then_ok Leaves (holder i p) _ (λ h held. retired_sound i p sound (holder_limits i p h held).0)

  span_sound : (p : ℕ) → OkIs Leaves (span_of i p)
  span_sound p = then_ok Leaves (holder i p) _ (λ h held. sound)

  ask_sound : (p : ℕ) (what : Request (List ℕ)) → OkIs Leaves (ask i p what)
  ask_sound p what =
      then_ok Leaves (holder i p) _ (λ h held.
      then_ok Leaves (served h.limits.length h.own what) _ (λ s gave.
      asked_sound i p h s.own sound held (as_many i sound p h held what s gave)))

  taken_sound : (c : Call (List ℕ)) → OkIs Leaves (taken i c)
  taken_sound (call.Admit p lower terms) = admit_sound p lower terms
  taken_sound (call.Ask p what) = ask_sound p what
  taken_sound (call.Retire p) = retire_sound p
  taken_sound (call.Span p) = span_sound p
  taken_sound (call.FixedAddress number cell) = then_ok Leaves (fixed_address number cell.0) _ (λ a found. sound)

  pub performed_sound : (c : Call (List ℕ)) → Sound (performed i c).installation
  performed_sound c = of_call Leaves i c (λ e. sound) (taken_sound c)

pub after_sound : (i : Installation) (cs : List (Call (List ℕ))) → Sound i → Sound (after i cs)
unfolding after
after_sound i [] sound = sound
after_sound i (c ∷ cs) sound = after_sound (performed i c).installation cs (performed_sound i sound c)

-- and what every call keeps of a sound installation, every history keeps
pub after_keeps : (P : Installation → Type 0) → ((i : Installation) → Sound i → P i → (c : Call (List ℕ)) → OkIs (λ t. P t.installation) (taken i c)) → (i : Installation) (cs : List (Call (List ℕ))) → Sound i → P i → P (after i cs)
unfolding after
after_keeps P keeps i [] sound holds = holds
after_keeps P keeps i (c ∷ cs) sound holds = after_keeps P keeps (performed i c).installation cs (performed_sound i sound c) (of_call (λ t. P t.installation) i c (λ e. holds) (keeps i sound holds c))
