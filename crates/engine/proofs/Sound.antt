-- What holds of an installation after any history from its making: there are eight places, each worker has a good length and lies in the row, and no two share a cell.
use Rattle.std.proofs.Common.{ℕ, ◌⊎◌, ⊎_elim, sym, ap, ◌∙◌, subst, replicate, None, ◌≡◌, ◌≢◌, ◌≤◌, false, List, length, slice_set, Option, Some, Ok, refl, arith}
use Rattle.std.proofs.lemmas.List.{length-set}
use Rattle.store.specs.Cells.{Cell}
use Rattle.processor.specs.Limits.{Limits, share}
use Rattle.engine.specs.Admission.{shares, overlaps_any}
use Rattle.engine.specs.Installation.{Installation, Holder, made, holder, place_at, place_by, worker_of, with_own, limits_in}
use Rattle.engine.specs.Own.{Own}
use Rattle.engine.specs.Sound.{Lies, Sound, limits_at}
use Rattle.engine.specs.declared.place.Place.TheVariants.{Free, Ready}
use Rattle.engine.specs.declared.place.Worker.{Worker}
use Rattle.engine.proofs.Places.{free_at, by_state, some_is, fails_at, holder_limits, limits_then}
use Rattle.engine.proofs.Rows.{row_number}

-- of fewer workers in as many cells
with_fewer : (i j : Installation) → Sound i → length j.places ≡ 8 → length j.row ≡ length i.row → ((p : ℕ) (s : Limits) → limits_at j.places p ≡ Some s → limits_at i.places p ≡ Some s) → Sound j
with_fewer i j sound eight long fewer = record {
  eight = eight;
  lies = λ p s at. let l = sound.lies p s (fewer p s at) in record { some = l.some; few = l.few; inside = omega (arith, l.inside, long) };
  apart = λ p q s t other at_p at_q. sound.apart p q s t other (fewer p s at_p) (fewer q t at_q);
}

-- from the making, where no place has limits
no_limits : (p : ℕ) (s : Limits) → limits_at (replicate 8 Free) p ≡ Some s → ⊥
no_limits p s at = let none : None ≡ Some s = sym (ap (λ x. limits_in (worker_of x)) (free_at 8 p)) ∙ at in cc

pub made_sound : (row : List Cell) → Sound (made row)
made_sound row = record {
  eight = refl;
  lies = λ p s at. absurd (no_limits p s at);
  apart = λ p q s t other at_p at_q. absurd (no_limits p s at_p);
}

-- a worker is asked: all limits stay
pub asked_sound : (i : Installation) (p : ℕ) (h : Holder) (own : Own) → Sound i → holder i p ≡ Ok h → length own.words ≡ h.limits.length → Sound (with_own i p h.limits own)
asked_sound i p h own sound held as_many =
    let (exists, at) = holder_limits i p h held in
    let w : Worker = record { limits = h.limits; registers = own.registers } in
    with_fewer i (with_own i p h.limits own) sound
    (length-set i.places p (place_by own.state w) ∙ sound.eight)
    (row_number i.row h.limits.lower h.limits.length (sound.lies p h.limits at).inside own.words as_many)
    (λ q s then. ⊎_elim
    (λ (here, limits). ap (limits_at i.places) here ∙ at ∙ sym (by_state own.state w) ∙ limits)
    (λ (there, limits). limits)
    (limits_then i.places p (place_by own.state w) q s (omega (arith, exists, sound.eight)) then))

-- a worker is retired: its limits is gone
pub retired_sound : (i : Installation) (p : ℕ) → Sound i → p ≤ 7 → Sound (record i { places = slice_set i.places p Free })
retired_sound i p sound exists =
    with_fewer i (record i { places = slice_set i.places p Free }) sound
    (length-set i.places p Free ∙ sound.eight)
    refl
    (λ q s then. ⊎_elim
    (λ (here, limits). let none : None ≡ Some s = limits in absurd cc)
    (λ (there, limits). limits)
    (limits_then i.places p Free q s (omega (arith, exists, sound.eight)) then))

share_turned : (s t : Limits) → share s t ≡ share t s
share_turned s t = grind arith

shares_limits : (s t : Limits) (o : Option Worker) → limits_in o ≡ Some t → shares s o ≡ false → share s t ≡ false
shares_limits s t None at apart = absurd cc
shares_limits s t (Some w) at apart = subst (λ t. share s t ≡ false) (some_is w.limits t at) apart

-- one is admitted: it lies in the row, and shares no cell
module _ (i : Installation) (p : ℕ) (w : Worker) (sound : Sound i) (exists : p ≤ 7) (lies : Lies i.row w.limits) (apart : overlaps_any w.limits i.places ≡ false) where
  abbrev then_at : ℕ → Option Limits
  then_at q = limits_at (slice_set i.places p (Ready w)) q

  there_or_set : (q : ℕ) (s : Limits) → then_at q ≡ Some s → ((q ≡ p) × (Some w.limits ≡ Some s)) ⊎ ((q ≢ p) × (limits_at i.places q ≡ Some s))
  there_or_set q s then = limits_then i.places p (Ready w) q s (omega (arith, exists, sound.eight)) then

  apart_from : (q : ℕ) (t : Limits) → limits_at i.places q ≡ Some t → share w.limits t ≡ false
  apart_from q t at = shares_limits w.limits t (worker_of (place_at i.places q)) at (fails_at (λ place. shares w.limits (worker_of place)) refl i.places q apart)

  pub admitted_sound : Sound (record i { places = slice_set i.places p (Ready w) })
  admitted_sound = record {
    eight = length-set i.places p (Ready w) ∙ sound.eight;
    lies = λ q s then. ⊎_elim (λ (here, limits). subst (Lies i.row) (some_is w.limits s limits) lies) (λ (there, limits). sound.lies q s limits) (there_or_set q s then);
    apart = λ q r s t other then_q then_r. ⊎_elim
        (λ (here, limits). ⊎_elim
        (λ (here2, limits2). absurd (other (here ∙ sym here2)))
        (λ (there2, limits2). subst (λ x. share x t ≡ false) (some_is w.limits s limits) (apart_from r t limits2))
        (there_or_set r t then_r))
        (λ (there, limits). ⊎_elim
        (λ (here2, limits2). subst (λ x. share s x ≡ false) (some_is w.limits t limits2) (share_turned s w.limits ∙ apart_from q s limits))
        (λ (there2, limits2). sound.apart q r s t other limits limits2)
        (there_or_set r t then_r))
        (there_or_set q s then_q);
  }
