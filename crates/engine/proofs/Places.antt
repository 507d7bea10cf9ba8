-- The places after one of them is set, and what is known of a place that has a worker.
use Rattle.std.proofs.Common.{ℕ, zero, suc, ◌⊎◌, inl, inr, ⊎_elim, sym, ap, ◌∙◌, ◌≡◌, ◌≢◌, ◌<◌, ◌≤◌, List, length, nat_le, slice_set, replicate, [], ◌∷◌, Bool, false, Ok, Err, true, Result, Some, None, refl, arith}
use Rattle.std.proofs.lemmas.Bool.{cases_eq}
use Rattle.std.proofs.lemmas.List.{get_or-set_same, get_or-set_other}
use Rattle.std.specs.List.{list_any}
use Rattle.processor.specs.Then.{◌>>=◌}
use Rattle.engine.specs.declared.answer.State.{State}
use Rattle.engine.specs.declared.answer.State.TheVariants as state
use Rattle.engine.specs.declared.place.Place.{Place}
use Rattle.engine.specs.declared.place.Place.TheVariants.{Free, Ready, Held}
use Rattle.processor.specs.Limits.{Limits, words_in}
use Rattle.engine.specs.declared.place.Worker.{Worker}
use Rattle.engine.specs.declared.refusal.Refusal.TheVariants.{NoSuchPlace}
use Rattle.store.specs.Cells.{Cell}
use Rattle.engine.specs.Installation.{Installation, Holder, place_at, place_by, worker_of, holder, if_occupied, limits_in}
use Rattle.engine.specs.Refusals.{require}
use Rattle.engine.specs.Sound.{limits_at}
use Rattle.engine.proofs.Results.{OkIs, ok_is, required_then}

module _ (places : List Place) (p : ℕ) (place : Place) where
  pub set_here : p < length places → place_at (slice_set places p place) p ≡ place
  set_here within = get_or-set_same places p place Free within

  pub set_there : (q : ℕ) → q ≢ p → place_at (slice_set places p place) q ≡ place_at places q
  set_there q other = get_or-set_other places p q place Free other

  -- the limits at a place afterwards are those of the place that was set, or those that were there
  pub limits_then : (q : ℕ) (s : Limits) → p < length places → limits_at (slice_set places p place) q ≡ Some s → ((q ≡ p) × (limits_in (worker_of place) ≡ Some s)) ⊎ ((q ≢ p) × (limits_at places q ≡ Some s))
  limits_then q s within then = ⊎_elim
      (λ here. inl (here, ap (λ x. limits_in (worker_of x)) (sym (set_here within)) ∙ ap (limits_at (slice_set places p place)) (sym here) ∙ then))
      (λ there. inr (there, ap (λ x. limits_in (worker_of x)) (sym (set_there q there)) ∙ then))
      (cases_eq q p)

-- what holds of each place, and of the one that is set, holds of each place afterwards
pub set_all : (P : Place → Type 0) (places : List Place) (p : ℕ) (place : Place) → ((q : ℕ) → P (place_at places q)) → P place → (q : ℕ) → P (place_at (slice_set places p place) q)
set_all P [] p place all holds q = all q
set_all P (x ∷ xs) zero place all holds zero = holds
set_all P (x ∷ xs) zero place all holds (suc q) = all (suc q)
set_all P (x ∷ xs) (suc p) place all holds zero = all zero
set_all P (x ∷ xs) (suc p) place all holds (suc q) = set_all P xs p place (λ r. all (suc r)) holds q

-- what is known of a holder: there is such a place, which is the worker's, and its words are those of its limits
pub record Holds (row : List Cell) (place : Place) (h : Holder) : Type 0 where
  pub place_is : place ≡ place_by h.own.state (record { limits = h.limits; registers = h.own.registers })
  pub words_are : h.own.words ≡ words_in row h.limits.lower h.limits.length

if_occupied_holds : (row : List Cell) (place : Place) → OkIs (Holds row place) (if_occupied row place)
if_occupied_holds row Free = tt
if_occupied_holds row (Ready w) = record { place_is = refl; words_are = refl }
if_occupied_holds row (Held w report) = record { place_is = refl; words_are = refl }

pub some_is : {X : Type 0} → (x y : X) → Some x ≡ Some y → x ≡ y
some_is x y e = cc

pub none_is : {X : Type 0} → (x : X) → None ≡ Some x → ⊥
none_is x e = cc

-- a place by its state has its worker, and so its limits
pub worker_by : (state : State) (w : Worker) → worker_of (place_by state w) ≡ Some w
worker_by state.Ready w = refl
worker_by (state.Held report) w = refl

pub by_state : (state : State) (w : Worker) → limits_in (worker_of (place_by state w)) ≡ Some w.limits
by_state state w = ap limits_in (worker_by state w)

and_that : {X E C : Type 0} → (P : X → Type 0) (r : Result X E) → C → OkIs P r → OkIs (λ x. C × P x) r
and_that P (Ok x) c holds = (c, holds)
and_that P (Err e) c holds = tt

pub holder_holds : (i : Installation) (p : ℕ) → OkIs (λ h. (p ≤ 7) × Holds i.row (place_at i.places p) h) (holder i p)
holder_holds i p = required_then (λ h. (p ≤ 7) × Holds i.row (place_at i.places p) h) (nat_le p 7) NoSuchPlace (if_occupied i.row (place_at i.places p))
    (λ exists. and_that (Holds i.row (place_at i.places p)) (if_occupied i.row (place_at i.places p)) (grind (arith, exists)) (if_occupied_holds i.row (place_at i.places p)))

-- a place that there is
pub holder_is : (i : Installation) (p : ℕ) → p ≤ 7 → holder i p ≡ if_occupied i.row (place_at i.places p)
holder_is i p exists =
    let there : nat_le p 7 ≡ true = grind (arith, exists) in
    ap (λ b. require b NoSuchPlace >>= (λ _. if_occupied i.row (place_at i.places p))) there

pub taken_is : (i : Installation) (p : ℕ) (h : Holder) → holder i p ≡ Ok h → if_occupied i.row (place_at i.places p) ≡ Ok h
taken_is i p h held = sym (holder_is i p (ok_is (λ h. (p ≤ 7) × Holds i.row (place_at i.places p) h) (holder i p) h held (holder_holds i p)).0) ∙ held

pub holder_limits : (i : Installation) (p : ℕ) (h : Holder) → holder i p ≡ Ok h → (p ≤ 7) × (limits_at i.places p ≡ Some h.limits)
holder_limits i p h held =
    let (exists, holds) = ok_is (λ h. (p ≤ 7) × Holds i.row (place_at i.places p) h) (holder i p) h held (holder_holds i p) in
    (exists, ap (λ x. limits_in (worker_of x)) holds.place_is ∙ by_state h.own.state _)

-- of places that are all free every one is
pub free_at : (n p : ℕ) → place_at (replicate n Free) p ≡ Free
free_at zero p = refl
free_at (suc n) zero = refl
free_at (suc n) (suc p) = free_at n p

-- if a test fails at every place, it fails at each, and a place that does not exist is free
pub fails_at : (test : Place → Bool) → test Free ≡ false → (places : List Place) (p : ℕ) → list_any test places ≡ false → test (place_at places p) ≡ false
fails_at test free [] p none = free
fails_at test free (place ∷ places) zero none = grind (arith, none)
fails_at test free (place ∷ places) (suc p) none = fails_at test free places p (grind (arith, none))
