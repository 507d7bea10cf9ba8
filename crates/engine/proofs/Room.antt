-- Whether an admit is taken, and how it is refused, follows from the number of cells and the limits of the workers.
use Rattle.std.proofs.Common.{ℕ, ◌≡◌, ◌+◌, Bool, true, false, not, ◌&&◌, ◌||◌, List, [], ◌∷◌, length, map, nat_le, nat_lt, Option, Some, None, Result, slice_index_or, refl, sym, ap, ◌∙◌}
use Rattle.std.proofs.Math.ListN.{get_or-map}
use Rattle.std.specs.List.{list_any}
use Rattle.processor.specs.Then.{◌>>=◌}
use Rattle.engine.specs.declared.call.Call.{Call}
use Rattle.engine.specs.declared.call.Call.TheVariants as call
use Rattle.engine.specs.declared.place.Place.{Place}
use Rattle.engine.specs.declared.place.Place.TheVariants.{Free, Ready, Held}
use Rattle.store.specs.declared.address.CellAddress.{CellAddress}
use Rattle.engine.specs.declared.call.Terms.{Terms}
use Rattle.processor.specs.Limits.{Limits, share}
use Rattle.engine.specs.declared.refusal.Refusal.{Refusal}
use Rattle.engine.specs.declared.refusal.Refusal.TheVariants as refusal
use Rattle.engine.specs.Admission.{is_free, overlaps_any, shares}
use Rattle.engine.specs.Installation.{Installation, Done, place_at, worker_of}
use Rattle.engine.specs.Laws.{limits_of_place, AdmitsBySpans}
use Rattle.engine.specs.Performing.{taken_or_refused, performed}
use Rattle.engine.specs.Refusals.{require}

-- the tests by the limits alone
abbrev is_none : Option Limits → Bool
is_none None = true
is_none (Some s) = false

abbrev share_if : Limits → Option Limits → Bool
share_if s None = false
share_if s (Some t) = share s t

free_by_limits : (place : Place) → is_free place ≡ is_none (limits_of_place place)
free_by_limits Free = refl
free_by_limits (Ready w) = refl
free_by_limits (Held w report) = refl

shares_by_limits : (s : Limits) (place : Place) → shares s (worker_of place) ≡ share_if s (limits_of_place place)
shares_by_limits s Free = refl
shares_by_limits s (Ready w) = refl
shares_by_limits s (Held w report) = refl

-- places with the same limits, one by one
same_free : (ps qs : List Place) → map limits_of_place ps ≡ map limits_of_place qs → (p : ℕ) → is_free (place_at ps p) ≡ is_free (place_at qs p)
same_free ps qs same p =
    free_by_limits (place_at ps p)
    ∙ ap is_none (sym (get_or-map limits_of_place ps p Free) ∙ ap (λ limits. slice_index_or limits p None) same ∙ get_or-map limits_of_place qs p Free)
    ∙ sym (free_by_limits (place_at qs p))

any_by_limits : (s : Limits) (ps : List Place) → overlaps_any s ps ≡ list_any (share_if s) (map limits_of_place ps)
any_by_limits s [] = refl
any_by_limits s (place ∷ ps) = ap (λ b. b || overlaps_any s ps) (shares_by_limits s place) ∙ ap (λ b. share_if s (limits_of_place place) || b) (any_by_limits s ps)

same_overlaps : (s : Limits) (ps qs : List Place) → map limits_of_place ps ≡ map limits_of_place qs → overlaps_any s ps ≡ overlaps_any s qs
same_overlaps s ps qs same = any_by_limits s ps ∙ ap (list_any (share_if s)) same ∙ sym (any_by_limits s qs)

-- two results are answered alike
module _ (c : Call (List ℕ)) (i j : Installation) where
  abbrev Alike : Result Done Refusal → Result Done Refusal → Type 0
  Alike r s = (taken_or_refused i c r).answer ≡ (taken_or_refused j c s).answer

  alike_after : (b d : Bool) (e : Refusal) (r s : Result Done Refusal) → b ≡ d → Alike r s → Alike (require b e >>= (λ _. r)) (require d e >>= (λ _. s))
  alike_after true true e r s same alike = alike
  alike_after false false e r s same alike = refl
  alike_after true false e r s same alike = absurd cc
  alike_after false true e r s same alike = absurd cc

pub admits_by_spans : (j : Installation) (p : ℕ) (lower : CellAddress) (terms : Terms) → AdmitsBySpans j p lower terms (performed j (call.Admit p lower terms)).answer
unfolding performed
admits_by_spans j p lower terms i same_rows same_places =
    let same_row = sym same_rows in
    let same_limits = sym same_places in
    let c : Call (List ℕ) = call.Admit p lower terms in
    let limits : Limits = record { lower = lower.0; length = terms.length } in
    alike_after c i j (nat_le p 7) (nat_le p 7) refusal.NoSuchPlace _ _ refl
    (alike_after c i j (is_free (place_at i.places p)) (is_free (place_at j.places p)) refusal.PlaceOccupied _ _ (same_free i.places j.places same_limits p)
    (alike_after c i j (nat_le 1 terms.length && nat_le terms.length 32768) (nat_le 1 terms.length && nat_le terms.length 32768) refusal.BadLength _ _ refl
    (alike_after c i j (nat_le (lower.0 + terms.length) (length i.row)) (nat_le (lower.0 + terms.length) (length j.row)) refusal.PastStore _ _ (ap (nat_le (lower.0 + terms.length)) same_row)
    (alike_after c i j (not (overlaps_any limits i.places)) (not (overlaps_any limits j.places)) refusal.CellShared _ _ (ap not (same_overlaps limits i.places j.places same_limits))
    (alike_after c i j (nat_lt terms.entry.0 terms.length) (nat_lt terms.entry.0 terms.length) refusal.EntryPastLength _ _ refl
    refl)))))
