-- The laws of calls and histories.
use Rattle.std.proofs.Common.{ℕ, ◌≡◌, false, List, [], ◌∷◌, length, Some, None, Result, Ok, Err, refl, sym, ap, ◌∙◌, arith, ⊎_elim}
use Rattle.std.proofs.lemmas.Bool.{cases_eq}
use Rattle.std.specs.Prelude.{OnErr}
use Rattle.store.specs.Cells.{Cell}
use Rattle.engine.specs.declared.answer.Answer.{Answer}
use Rattle.engine.specs.declared.answer.State.{State}
use Rattle.engine.specs.declared.answer.State.TheVariants.{Ready, Held}
use Rattle.engine.specs.declared.call.Call.{Call}
use Rattle.engine.specs.declared.call.Call.TheVariants as call
use Rattle.engine.specs.declared.call.Request.{Request}
use Rattle.engine.specs.declared.call.Request.TheVariants as request
use Rattle.engine.specs.declared.refusal.Refusal.{Refusal}
use Rattle.processor.specs.Limits.{share}
use Rattle.engine.specs.Exchanges.{after}
use Rattle.engine.specs.Installation.{Installation, holder, made, Done, limits_in}
use Rattle.engine.specs.Refusals.{err_of, refusal_of}
use Rattle.engine.specs.Laws.{NoCellIsShared, RowKeepsLength, WorkersLieInRow}
use Rattle.engine.specs.Performing.{ask, taken, refused, request_refused, performed}
use Rattle.engine.proofs.Passing.{of_admit}
use Rattle.engine.proofs.Histories.{of_call, performed_sound, after_sound, its_lies, as_many}
use Rattle.engine.proofs.Places.{some_is}
use Rattle.engine.proofs.Results.{OkIs, then_ok, ok_is}
use Rattle.engine.proofs.Rows.{row_number}
use Rattle.engine.specs.Own.{Own}
use Rattle.engine.specs.Serving.{served, run_ready}
use Rattle.engine.specs.Sound.{Sound}
use Rattle.engine.proofs.Sound.{made_sound}

-- after a history from the making
pub sound_after : (row : List Cell) (calls : List (Call (List ℕ))) → Sound (after (made row) calls)
sound_after row calls = after_sound (made row) calls (made_sound row)

pub no_cell_shared : (row : List Cell) → NoCellIsShared row
no_cell_shared row calls p q v w cell at_p at_q has_v has_w = ⊎_elim
    (λ same. same)
    (λ other.
    let apart : share v.limits w.limits ≡ false = (sound_after row calls).apart p q v.limits w.limits other (ap limits_in at_p) (ap limits_in at_q) in
    absurd (grind (arith, apart, has_v, has_w)))
    (cases_eq p q)

-- every call leaves the row as long as it was
abbrev AsLong : Installation → Done → Type 0
AsLong i t = length t.installation.row ≡ length i.row

module _ (i : Installation) (sound : Sound i) where
  ask_as_long : (p : ℕ) (what : Request (List ℕ)) → OkIs (AsLong i) (ask i p what)
  ask_as_long p what =
      then_ok (AsLong i) (holder i p) _ (λ h held.
      then_ok (AsLong i) (served h.limits.length h.own what) _ (λ s gave.
      row_number i.row h.limits.lower h.limits.length (its_lies i sound p h held).inside s.own.words (as_many i sound p h held what s gave)))

  taken_as_long : (c : Call (List ℕ)) → OkIs (AsLong i) (taken i c)
  taken_as_long (call.Admit p lower terms) = of_admit i p lower terms (AsLong i) (λ passes. refl)
  taken_as_long (call.Ask p what) = ask_as_long p what
  taken_as_long (call.Retire p) = search (then_ok)
  taken_as_long (call.Span p) = search (then_ok)
  taken_as_long (call.FixedAddress number cell) = search (then_ok)

after_as_long : (i : Installation) (cs : List (Call (List ℕ))) → Sound i → length (after i cs).row ≡ length i.row
unfolding after
after_as_long i [] sound = refl
after_as_long i (c ∷ cs) sound = after_as_long (performed i c).installation cs (performed_sound i sound c) ∙ of_call (AsLong i) i c (λ e. refl) (taken_as_long i sound c)

pub row_keeps_length : (row : List Cell) → RowKeepsLength row
row_keeps_length row calls = after_as_long (made row) calls (made_sound row)

pub workers_lie_in_row : (row : List Cell) → WorkersLieInRow row
workers_lie_in_row row calls p w at =
    let lies = (sound_after row calls).lies p w.limits (ap limits_in at) in
    (lies.some, lies.few, omega (arith, lies.inside, row_keeps_length row calls))

run_untold : (state : State) (n : ℕ) (o : Own) (budget : ℕ) → OkIs (λ s. refusal_of s.answer ≡ None) (run_ready state n o budget)
run_untold Ready n o budget = refl
run_untold (Held report) n o budget = tt

-- a call that is taken tells no refusal, and one that is refused tells that one
served_untold : (n : ℕ) (o : Own) (what : Request (List ℕ)) → OkIs (λ s. refusal_of s.answer ≡ None) (served n o what)
unfolding served
served_untold n o (request.Load r w) = search (then_ok)
served_untold n o (request.Look r) = search (then_ok)
served_untold n o (request.Run budget) = search (then_ok, run_untold)
served_untold n o (request.Answer a q p) = search (then_ok)
served_untold n o (request.Save buffer) = search (then_ok)
served_untold n o (request.Restore bytes) = search (then_ok)
served_untold n o request.Tell = refl

abbrev pub Untold : Done → Type 0
Untold t = refusal_of t.answer ≡ None

pub taken_untold : (i : Installation) (c : Call (List ℕ)) → OkIs Untold (taken i c)
taken_untold i (call.Admit p lower terms) = of_admit i p lower terms Untold (λ passes. refl)
taken_untold i (call.Ask p what) = then_ok Untold (holder i p) _ (λ h held. then_ok Untold (served h.limits.length h.own what) _ (λ s gave. ok_is _ (served h.limits.length h.own what) s gave (served_untold h.limits.length h.own what)))
taken_untold i (call.Retire p) = search (then_ok)
taken_untold i (call.Span p) = search (then_ok)
taken_untold i (call.FixedAddress number cell) = search (then_ok)

request_told : (what : Request (List ℕ)) (e : Refusal) → refusal_of (request_refused what e) ≡ Some e
request_told (request.Load r w) e = refl
request_told (request.Look r) e = refl
request_told (request.Run budget) e = refl
request_told (request.Answer a q p) e = refl
request_told (request.Save buffer) e = refl
request_told (request.Restore bytes) e = refl
request_told request.Tell e = refl

pub told : (c : Call (List ℕ)) (e : Refusal) → refusal_of (refused c e) ≡ Some e
told (call.Admit p lower terms) e = refl
told (call.Ask p what) e = request_told what e
told (call.Retire p) e = refl
told (call.Span p) e = refl
told (call.FixedAddress number cell) e = refl

never : (P : Done → Type 0) (e : Refusal) (r : Result Done Refusal) → OkIs Untold r → OkIs (λ t. refusal_of t.answer ≡ Some e → P t) r
never P e (Ok t) untold = λ same. let none : None ≡ Some e = sym untold ∙ same in absurd cc
never P e (Err f) untold = tt

pub refused_leaves : (i : Installation) (c : Call (List ℕ)) (e : Refusal) → refusal_of (performed i c).answer ≡ Some e → performed i c ≡ record { answer = refused c e; installation = i }
refused_leaves i c e = of_call (λ t. refusal_of t.answer ≡ Some e → t ≡ record { answer = refused c e; installation = i }) i c
    (λ f same. ap (λ e. record { answer = refused c e; installation = i }) (some_is f e (sym (told c f) ∙ same)))
    (never (λ t. t ≡ record { answer = refused c e; installation = i }) e (taken i c) (taken_untold i c))

-- what is so where a result is a refusal
pub on_refusal : {X P : Type 0} → (r : Result X Refusal) (e : Refusal) → err_of r ≡ Some e → OnErr r P → P
on_refusal (Ok x) e same holds = let none : None ≡ Some e = same in absurd cc
on_refusal (Err f) e same holds = holds

-- an answer that tells a refusal, of a call that does what is defined, answers no more than that
pub refused_as : (i j : Installation) (c : Call (List ℕ)) (a : Answer (List ℕ)) → performed i c ≡ record { answer = a; installation = j } → (e : Refusal) → refusal_of a ≡ Some e → a ≡ refused c e
refused_as i j c a performs e same =
    let left = refused_leaves i c e (ap (λ d. refusal_of d.answer) performs ∙ same) in
    sym (ap (λ d. d.answer) performs) ∙ ap (λ d. d.answer) left
