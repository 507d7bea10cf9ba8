-- Isolation: two workers that are admitted on the same terms and find equal words live alike, since each lives as it would alone.
use Rattle.std.proofs.Common.{ℕ, ◌≡◌, true, List, take, Ok, sym, ap, ◌∙◌, subst, arith}
use Rattle.store.specs.Cells.{Cell}
use Rattle.store.specs.declared.address.CellAddress.{CellAddress}
use Rattle.records.specs.Registers.{starting_at}
use Rattle.engine.specs.declared.answer.Answer.TheVariants as answer
use Rattle.engine.specs.declared.answer.State.TheVariants as state
use Rattle.engine.specs.declared.call.Call.{Call}
use Rattle.engine.specs.declared.call.Call.TheVariants as call
use Rattle.engine.specs.declared.call.Terms.{Terms}
use Rattle.engine.specs.Admission.{admit}
use Rattle.engine.specs.Exchanges.{after, answers_in, calls_in, exchanges}
use Rattle.engine.specs.Isolation.{nothing_after_retire, exchanges_with, TakenAdmit, History, Isolates, Admits, answers_to, calls_for, history, words_found, words_of, would_tell}
use Rattle.processor.specs.Limits.{words_in}
use Rattle.engine.specs.Installation.{Installation, Holder, holder, if_occupied, made, Done}
use Rattle.engine.specs.Own.{Own}
use Rattle.engine.specs.Performing.{performed}
use Rattle.engine.proofs.Split.{Splits, split}
use Rattle.engine.proofs.Passing.{admitted, of_admit}
use Rattle.engine.proofs.Alone.{alone, alone_first, Seen, seen_after}
use Rattle.engine.proofs.Histories.{of_call, performed_sound, after_sound}
use Rattle.engine.proofs.Lives.{answered_alone, seen_alone}
use Rattle.engine.proofs.Places.{holder_is, set_here}
use Rattle.engine.proofs.Results.{OkIs}
use Rattle.engine.specs.Sound.{Sound}
use Rattle.engine.proofs.Sound.{made_sound}

-- a new worker as it sees itself
abbrev new_own : Terms → List Cell → Own
new_own terms words = record { state = state.Ready; registers = starting_at terms.entry.0; words = words }

abbrev new_holder : CellAddress → Terms → List Cell → Holder
new_holder lower terms words = record { limits = record { lower = lower.0; length = terms.length }; own = new_own terms words }

-- one that was admitted is found at its place, with the words that the cells hold
module _ (i : Installation) (sound : Sound i) (p : ℕ) (lower : CellAddress) (terms : Terms) where
  abbrev Found : Done → Type 0
  Found t = t.answer ≡ answer.Admitted (Ok tt) → holder t.installation p ≡ Ok (new_holder lower terms (words_in i.row lower.0 terms.length))

  admit_found : OkIs Found (admit i p lower terms)
  admit_found = of_admit i p lower terms Found (λ passes _.
      holder_is (admitted i p lower terms).installation p passes.exists
      ∙ ap (if_occupied i.row) (set_here i.places p _ (omega (arith, passes.exists, sound.eight))))

  found : Found (performed i (call.Admit p lower terms))
  found = of_call Found i (call.Admit p lower terms) (λ e taken. absurd cc) admit_found

module _ (p : ℕ) (terms : Terms) (row : List Cell) (calls : List (Call (List ℕ))) (a : TakenAdmit) (admits : Admits p terms (history row calls) a) where
  abbrev before_admit : Installation
  before_admit = after (made row) (calls_in a.before)

  abbrev just_after : Installation
  just_after = (performed before_admit (call.Admit p a.lower terms)).installation

  splits : Splits (made row) calls a.before (call.Admit p a.lower terms) (answer.Admitted (Ok tt)) a.later
  splits = split a.before (made row) calls _ _ a.later admits

  before_sound : Sound before_admit
  before_sound = after_sound (made row) (calls_in a.before) (made_sound row)

  begins_sound : Sound just_after
  begins_sound = performed_sound before_admit before_sound (call.Admit p a.lower terms)

  -- as it is found just after its admit
  abbrev own : Own
  own = new_own terms (words_found p terms (history row calls) a)

  begins : holder just_after p ≡ Ok (record { limits = record { lower = a.lower.0; length = terms.length }; own = own })
  begins = found before_admit before_sound p a.lower terms (sym splits.answered)

  answers_first : (k : ℕ) → take k (answers_to p terms a) ≡ alone terms.length own (take k (calls_for p terms a))
  answers_first k =
      subst (λ later. take k (answers_in (exchanges_with p later)) ≡ alone terms.length own (take k (calls_in (exchanges_with p later)))) (sym splits.on)
      (ap (take k) (answered_alone p (calls_in a.later) just_after _ begins_sound begins)
      ∙ alone_first terms.length own k (calls_in (exchanges_with p (exchanges just_after (calls_in a.later)))))

  seen : Seen
  seen = record { told = would_tell p (after (made row) calls); words = words_of p terms a (after (made row) calls).row }

  is_seen : nothing_after_retire p (calls_in a.later) ≡ true → seen ≡ seen_after terms.length own (calls_for p terms a)
  unfolding seen
  is_seen ends =
      ap (λ i. record { told = would_tell p i; words = words_of p terms a i.row }) splits.left
      ∙ seen_alone p (calls_in a.later) ends just_after _ begins_sound begins
      ∙ ap (λ later. seen_after terms.length own (calls_in (exchanges_with p later))) (sym splits.on)

pub isolated : (row_s row_t : List Cell) (calls_s calls_t : List (Call (List ℕ))) → Isolates (history row_s calls_s) (history row_t calls_t)
unfolding seen
isolated row_s row_t calls_s calls_t p terms a b admits_a admits_b same_words =
    let n = terms.length in
    let same_own : own p terms row_s calls_s a admits_a ≡ own p terms row_t calls_t b admits_b = ap (new_own terms) same_words in (
      λ k same_calls.
          answers_first p terms row_s calls_s a admits_a k
          ∙ ap (λ o. alone n o (take k (calls_for p terms a))) same_own
          ∙ ap (alone n (own p terms row_t calls_t b admits_b)) same_calls
          ∙ sym (answers_first p terms row_t calls_t b admits_b k),
      λ ends_a ends_b same_calls.
          let same_seen : seen p terms row_s calls_s a admits_a ≡ seen p terms row_t calls_t b admits_b =
          is_seen p terms row_s calls_s a admits_a ends_a
          ∙ ap (λ o. seen_after n o (calls_for p terms a)) same_own
          ∙ ap (seen_after n (own p terms row_t calls_t b admits_b)) same_calls
          ∙ sym (is_seen p terms row_t calls_t b admits_b ends_b) in
          (ap (λ x. x.told) same_seen, ap (λ x. x.words) same_seen),
    )

pub isolated_as : (g h : History) (row_s row_t : List Cell) (calls_s calls_t : List (Call (List ℕ))) → g ≡ history row_s calls_s → h ≡ history row_t calls_t → Isolates g h
isolated_as g h row_s row_t calls_s calls_t first second = subst (λ x. Isolates x h) (sym first) (subst (Isolates (history row_s calls_s)) (sym second) (isolated row_s row_t calls_s calls_t))
