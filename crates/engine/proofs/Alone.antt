-- A worker's life in an installation is its life alone: its length, what it has of its own, and the calls for it decide all.
use Rattle.std.proofs.Common.{ℕ, zero, suc, ◌≡◌, ◌≤◌, List, [], ◌∷◌, length, take, Result, Ok, Err, refl, sym, ap, ◌∙◌, arith, subst, slice_set}
use Rattle.store.specs.Cells.{Cell}
use Rattle.engine.specs.declared.answer.Answer.{Answer}
use Rattle.engine.specs.declared.answer.Answer.TheVariants as answer
use Rattle.engine.specs.declared.call.Call.{Call}
use Rattle.engine.specs.declared.call.Call.TheVariants as call
use Rattle.engine.specs.declared.call.Request.{Request}
use Rattle.engine.specs.declared.call.Request.TheVariants as request
use Rattle.engine.specs.declared.refusal.Refusal.{Refusal}
use Rattle.engine.specs.declared.refusal.Refusal.TheVariants as refusal
use Rattle.processor.specs.Limits.{words_in, row_with}
use Rattle.engine.specs.Installation.{Installation, Holder, holder, holder_of, if_occupied, place_at, place_by, with_own, Done}
use Rattle.engine.specs.Own.{Own}
use Rattle.engine.specs.Performing.{taken_or_refused, request_refused, performed}
use Rattle.engine.specs.Serving.{Served, served, serving}
use Rattle.engine.proofs.Histories.{its_lies, as_many}
use Rattle.engine.proofs.Places.{Holds, holder_is, holder_holds, holder_limits, set_here}
use Rattle.engine.proofs.Results.{ok_is}
use Rattle.engine.proofs.Rows.{words_there}
use Rattle.engine.specs.Sound.{Sound}
use Rattle.engine.specs.declared.answer.State.{State}
use Rattle.engine.specs.declared.answer.State.TheVariants as state
use Rattle.engine.specs.declared.place.Place.TheVariants.{Free}
use Rattle.engine.specs.declared.place.Worker.{Worker}
use Rattle.processor.specs.Then.{◌>>=◌}

pub by_its_state : (row : List Cell) (state : State) (w : Worker) → if_occupied row (place_by state w) ≡ Ok (holder_of row state w)
by_its_state row state.Ready w = refl
by_its_state row (state.Held report) w = refl

-- what a worker alone answers to a request, and what is left of it
abbrev pub served_or_refused : Own → Request (List ℕ) → Result Served Refusal → Served
served_or_refused o what (Ok s) = s
served_or_refused o what (Err e) = serving (request_refused what e) o

abbrev pub asked : ℕ → Own → Request (List ℕ) → Served
asked n o what = served_or_refused o what (served n o what)

-- and to a call for it; other calls do not reach it
abbrev pub called : ℕ → Own → Call (List ℕ) → Served
called n o (call.Admit p lower terms) = serving (answer.Admitted (Ok tt)) o
called n o (call.Ask p what) = asked n o what
called n o (call.Retire p) = serving (answer.Retired (Ok tt)) o
called n o (call.Span p) = serving (answer.Admitted (Ok tt)) o
called n o (call.FixedAddress number cell) = serving (answer.Admitted (Ok tt)) o

-- its answers to calls for it, one after another
unfoldable pub alone : ℕ → Own → List (Call (List ℕ)) → List (Answer (List ℕ))
alone n o [] = []
alone n o (c ∷ cs) = (called n o c).answer ∷ alone n (called n o c).own cs

-- the first answers are those to the first calls
pub alone_first : (n : ℕ) (o : Own) (k : ℕ) (cs : List (Call (List ℕ))) → take k (alone n o cs) ≡ alone n o (take k cs)
unfolding alone
alone_first n o zero cs = refl
alone_first n o (suc k) [] = refl
alone_first n o (suc k) (c ∷ cs) = ap (λ rest. (called n o c).answer ∷ rest) (alone_first n (called n o c).own k cs)

-- what a tell would answer and what its words are after calls for it, of which a retire is the last one
pub record Seen : Type 0 where
  pub told : Answer (List ℕ)
  pub words : List Cell

unfoldable pub seen_after : ℕ → Own → List (Call (List ℕ)) → Seen
seen_after n o [] = record { told = (asked n o request.Tell).answer; words = o.words }
seen_after n o (call.Retire p ∷ cs) = record { told = answer.Told (Err refusal.PlaceFree); words = o.words }
seen_after n o (c ∷ cs) = seen_after n (called n o c).own cs

module _ (i : Installation) (p : ℕ) (h : Holder) (sound : Sound i) (held : holder i p ≡ Ok h) where
  abbrev n : ℕ
  n = h.limits.length

  exists : p ≤ 7
  exists = (holder_limits i p h held).0

  -- put back at its place, it is found there
  put_back : (own : Own) → length own.words ≡ n → holder (with_own i p h.limits own) p ≡ Ok (record { limits = h.limits; own = own })
  put_back own as_many =
      let row = row_with i.row h.limits.lower n own.words in
      holder_is (with_own i p h.limits own) p exists
      ∙ ap (if_occupied row) (set_here i.places p _ (omega (arith, exists, sound.eight)))
      ∙ by_its_state row own.state (record { limits = h.limits; registers = own.registers })
      ∙ ap (λ words. Ok (record { limits = h.limits; own = record { state = own.state; registers = own.registers; words = words } })) (words_there i.row h.limits.lower n (its_lies i sound p h held).inside own.words as_many)

  -- as its own words, those of its limits
  pub own_words : h.own.words ≡ words_in i.row h.limits.lower n
  own_words = (ok_is (λ h. (p ≤ 7) × Holds i.row (place_at i.places p) h) (holder i p) h held (holder_holds i p)).1.words_are

  module _ (what : Request (List ℕ)) where
    abbrev pub Alike : Done → Served → Type 0
    Alike t s = (t.answer ≡ s.answer) × (holder t.installation p ≡ Ok (record { limits = h.limits; own = s.own }))

    by_served : (r : Result Served Refusal) → ((s : Served) → r ≡ Ok s → length s.own.words ≡ n)
        → Alike (taken_or_refused i (call.Ask p what) (r >>= (λ s. Ok (record { answer = s.answer; installation = with_own i p h.limits s.own })))) (served_or_refused h.own what r)
    by_served (Ok s) as_many = (refl, put_back s.own (as_many s refl))
    by_served (Err e) as_many = (refl, held)

    -- it answers as alone, and what is left of it is what is left of it alone
    pub asked_alone : Alike (performed i (call.Ask p what)) (asked n h.own what)
    unfolding performed
    asked_alone = subst (λ r. Alike (taken_or_refused i (call.Ask p what) (r >>= (λ h. served h.limits.length h.own what >>= (λ s. Ok (record { answer = s.answer; installation = with_own i p h.limits s.own }))))) (asked n h.own what)) (sym held) (by_served (served n h.own what) (as_many i sound p h held what))

  -- it is retired: its place is free, and the cells stay
  abbrev pub freed : Installation
  freed = record i { places = slice_set i.places p Free }

  pub retired_alone : performed i (call.Retire p) ≡ record { answer = answer.Retired (Ok tt); installation = freed }
  unfolding performed
  retired_alone = ap (λ r. taken_or_refused i (call.Retire p) (r >>= (λ h. Ok (record { answer = answer.Retired (Ok tt); installation = freed })))) held

  freed_holder : holder freed p ≡ Err refusal.PlaceFree
  freed_holder = holder_is freed p exists ∙ ap (if_occupied i.row) (set_here i.places p Free (omega (arith, exists, sound.eight)))

  pub freed_told : (performed freed (call.Ask p request.Tell)).answer ≡ answer.Told (Err refusal.PlaceFree)
  unfolding performed
  freed_told = ap (λ r. (taken_or_refused freed (call.Ask p request.Tell) (r >>= (λ h. served h.limits.length h.own request.Tell >>= (λ s. Ok (record { answer = s.answer; installation = with_own freed p h.limits s.own }))))).answer) freed_holder
