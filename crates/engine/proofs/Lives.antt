-- A worker's life in an installation, whatever else is called, is its life alone.
use Rattle.std.proofs.Common.{ℕ, ◌≡◌, Bool, true, false, ◌==◌, if◌then◌else◌, List, [], ◌∷◌, Ok, Err, refl, sym, ap, ◌∙◌, arith, subst}
use Rattle.engine.specs.declared.answer.Answer.TheVariants as answer
use Rattle.engine.specs.declared.call.Call.{Call}
use Rattle.engine.specs.declared.call.Call.TheVariants as call
use Rattle.engine.specs.declared.call.Request.{Request}
use Rattle.engine.specs.declared.call.Request.TheVariants as request
use Rattle.processor.specs.Limits.{Limits, words_in}
use Rattle.engine.specs.declared.refusal.Refusal.TheVariants as refusal
use Rattle.engine.specs.Exchanges.{Exchange, calls_in, answers_in, exchanges, after}
use Rattle.engine.specs.Isolation.{is_for, is_retire, exchanges_with, is_empty, nothing_after_retire}
use Rattle.engine.specs.Installation.{Installation, Holder, holder}
use Rattle.engine.specs.Performing.{performed}
use Rattle.engine.proofs.Alone.{alone, asked, Alike, asked_alone, own_words, freed, freed_told, retired_alone, Seen, seen_after}
use Rattle.engine.proofs.Histories.{performed_sound}
use Rattle.engine.proofs.Others.{performed_stays}
use Rattle.engine.specs.Sound.{Sound}

-- the answers are those of a worker alone to the same calls
abbrev IsAlone : Holder → List Exchange → Type 0
IsAlone h es = answers_in es ≡ alone h.limits.length h.own (calls_in es)

abbrev exchange : Installation → Call (List ℕ) → Exchange
exchange i c = record { call = c; answer = (performed i c).answer }

if_or : (P : List Exchange → Type 0) (b : Bool) (x y : List Exchange) → (b ≡ true → P x) → (b ≡ false → P y) → P (if b then x else y)
if_or P true x y holds other = holds refl
if_or P false x y holds other = other refl

module _ (i : Installation) (p : ℕ) (h : Holder) (sound : Sound i) (held : holder i p ≡ Ok h) (cs : List (Call (List ℕ))) where
  -- after one call the rest goes on as alone, if it does so in every installation
  abbrev RestAlone : Type 0
  RestAlone = (j : Installation) (g : Holder) → Sound j → holder j p ≡ Ok g → IsAlone g (exchanges_with p (exchanges j cs))

  other_call : (c : Call (List ℕ)) → is_for p c ≡ false → RestAlone → IsAlone h (exchanges_with p (exchanges (performed i c).installation cs))
  other_call c other rest = rest (performed i c).installation h (performed_sound i sound c) (performed_stays i sound p h held c other)

  own_call : (q : ℕ) (what : Request (List ℕ)) → q ≡ p → RestAlone → IsAlone h (exchange i (call.Ask q what) ∷ exchanges_with p (exchanges (performed i (call.Ask q what)).installation cs))
  unfolding alone
  own_call q what same rest =
      let (answer, left) = subst (λ q. Alike i p h sound held what (performed i (call.Ask q what)) (asked h.limits.length h.own what)) (sym same) (asked_alone i p h sound held what) in
      let after = (performed i (call.Ask q what)).installation in
      let on = exchanges_with p (exchanges after cs) in
      ap (λ a. a ∷ answers_in on) answer
      ∙ ap (λ answers. (asked h.limits.length h.own what).answer ∷ answers) (rest after (record { limits = h.limits; own = (asked h.limits.length h.own what).own }) (performed_sound i sound (call.Ask q what)) left)

  own_retire : (q : ℕ) → q ≡ p → IsAlone h (exchange i (call.Retire q) ∷ [])
  unfolding alone
  own_retire q same = ap (λ a. a ∷ []) (subst (λ q. (performed i (call.Retire q)).answer ≡ answer.Retired (Ok tt)) (sym same) (ap (λ t. t.answer) (retired_alone i p h sound held)))

  on_call : (c : Call (List ℕ)) → RestAlone → IsAlone h (exchanges_with p (exchanges i (c ∷ cs)))
  unfolding exchanges exchanges_with
  on_call (call.Admit q lower terms) rest = other_call (call.Admit q lower terms) refl rest
  on_call (call.Ask q what) rest = if_or (IsAlone h) (q == p) _ _
      (λ same. own_call q what (grind (arith, same)) rest)
      (λ other. other_call (call.Ask q what) other rest)
  on_call (call.Retire q) rest = if_or (IsAlone h) (q == p) _ _
      (λ same. own_retire q (grind (arith, same)))
      (λ other. if_or (IsAlone h) (q == p) _ _ (λ same. absurd (grind (arith, same, other))) (λ _. other_call (call.Retire q) other rest))
  on_call (call.Span q) rest = other_call (call.Span q) refl rest
  on_call (call.FixedAddress number cell) rest = other_call (call.FixedAddress number cell) refl rest

after_none : (i : Installation) (cs : List (Call (List ℕ))) → is_empty cs ≡ true → after i cs ≡ i
unfolding after
after_none i [] last = refl
after_none i (c ∷ cs) last = absurd cc

pub answered_alone : (p : ℕ) (cs : List (Call (List ℕ))) (i : Installation) (h : Holder) → Sound i → holder i p ≡ Ok h → IsAlone h (exchanges_with p (exchanges i cs))
unfolding exchanges exchanges_with alone
answered_alone p [] i h sound held = refl
answered_alone p (c ∷ cs) i h sound held = on_call i p h sound held cs c (answered_alone p cs)

-- what a tell would answer, and the words of the limits
abbrev pub seen_in : Installation → ℕ → Limits → Seen
seen_in i p limits = record { told = (performed i (call.Ask p request.Tell)).answer; words = words_in i.row limits.lower limits.length }

module _ (i : Installation) (p : ℕ) (h : Holder) (sound : Sound i) (held : holder i p ≡ Ok h) where
  seen_now : seen_in i p h.limits ≡ seen_after h.limits.length h.own []
  unfolding seen_after
  seen_now =
      ap (λ a. record { told = a; words = words_in i.row h.limits.lower h.limits.length }) (asked_alone i p h sound held request.Tell).0
      ∙ ap (λ ws. record { told = (asked h.limits.length h.own request.Tell).answer; words = ws }) (sym (own_words i p h sound held))

  seen_freed : seen_in (freed i p h sound held) p h.limits ≡ record { told = answer.Told (Err refusal.PlaceFree); words = h.own.words }
  seen_freed =
      ap (λ a. record { told = a; words = words_in i.row h.limits.lower h.limits.length }) (freed_told i p h sound held)
      ∙ ap (λ ws. record { told = answer.Told (Err refusal.PlaceFree); words = ws }) (sym (own_words i p h sound held))

  module _ (cs : List (Call (List ℕ))) where
    -- the installation after a call and the rest, and what was said to the worker
    abbrev SeenAlone : Installation → List Exchange → Type 0
    SeenAlone j es = seen_in (after j cs) p h.limits ≡ seen_after h.limits.length h.own (calls_in es)

    abbrev RestSeen : Type 0
    RestSeen = (j : Installation) (g : Holder) → Sound j → holder j p ≡ Ok g → seen_in (after j cs) p g.limits ≡ seen_after g.limits.length g.own (calls_in (exchanges_with p (exchanges j cs)))

    other_seen : (c : Call (List ℕ)) → is_for p c ≡ false → RestSeen → SeenAlone (performed i c).installation (exchanges_with p (exchanges (performed i c).installation cs))
    other_seen c other rest = rest (performed i c).installation h (performed_sound i sound c) (performed_stays i sound p h held c other)

    own_seen : (q : ℕ) (what : Request (List ℕ)) → q ≡ p → RestSeen → SeenAlone (performed i (call.Ask q what)).installation (exchange i (call.Ask q what) ∷ exchanges_with p (exchanges (performed i (call.Ask q what)).installation cs))
    unfolding seen_after
    own_seen q what same rest =
        let (answer, left) = subst (λ q. Alike i p h sound held what (performed i (call.Ask q what)) (asked h.limits.length h.own what)) (sym same) (asked_alone i p h sound held what) in
        rest (performed i (call.Ask q what)).installation (record { limits = h.limits; own = (asked h.limits.length h.own what).own }) (performed_sound i sound (call.Ask q what)) left

    retire_seen : (q : ℕ) → q ≡ p → is_empty cs ≡ true → SeenAlone (performed i (call.Retire q)).installation (exchange i (call.Retire q) ∷ [])
    unfolding seen_after
    retire_seen q same last =
        ap (λ j. seen_in j p h.limits) (after_none (performed i (call.Retire q)).installation cs last ∙ subst (λ q. (performed i (call.Retire q)).installation ≡ freed i p h sound held) (sym same) (ap (λ t. t.installation) (retired_alone i p h sound held)))
        ∙ seen_freed

    seen_on : (c : Call (List ℕ)) → (if is_retire p c then is_empty cs else nothing_after_retire p cs) ≡ true → (nothing_after_retire p cs ≡ true → RestSeen) → SeenAlone (performed i c).installation (exchanges_with p (exchanges i (c ∷ cs)))
    unfolding exchanges exchanges_with
    seen_on (call.Admit q lower terms) ends rest = other_seen (call.Admit q lower terms) refl (rest ends)
    seen_on (call.Ask q what) ends rest = if_or (SeenAlone (performed i (call.Ask q what)).installation) (q == p) _ _
        (λ same. own_seen q what (grind (arith, same)) (rest ends))
        (λ other. other_seen (call.Ask q what) other (rest ends))
    seen_on (call.Retire q) ends rest = if_or (SeenAlone (performed i (call.Retire q)).installation) (q == p) _ _
        (λ same. retire_seen q (grind (arith, same)) (subst (λ b. (if b then is_empty cs else nothing_after_retire p cs) ≡ true) same ends))
        (λ other. if_or (SeenAlone (performed i (call.Retire q)).installation) (q == p) _ _
        (λ same. absurd (grind (arith, same, other)))
        (λ _. other_seen (call.Retire q) other (rest (subst (λ b. (if b then is_empty cs else nothing_after_retire p cs) ≡ true) other ends))))
    seen_on (call.Span q) ends rest = other_seen (call.Span q) refl (rest ends)
    seen_on (call.FixedAddress number cell) ends rest = other_seen (call.FixedAddress number cell) refl (rest ends)

pub seen_alone : (p : ℕ) (cs : List (Call (List ℕ))) → nothing_after_retire p cs ≡ true → (i : Installation) (h : Holder) → Sound i → holder i p ≡ Ok h → seen_in (after i cs) p h.limits ≡ seen_after h.limits.length h.own (calls_in (exchanges_with p (exchanges i cs)))
unfolding exchanges exchanges_with after nothing_after_retire
seen_alone p [] ends i h sound held = seen_now i p h sound held
seen_alone p (c ∷ cs) ends i h sound held = seen_on i p h sound held cs c ends (seen_alone p cs)
