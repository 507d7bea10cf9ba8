-- What the steps of a run have done to the store itself.
use Rattle.std.proofs.Common.{ℕ, suc, ◌≡◌, ◌+◌, ◌-◌, ◌<◌, ◌≤◌, List, [], ◌∷◌, ◌++◌, refl, ap, ◌∙◌, subst, arith, Ok, Err}
use Rattle.store.specs.Cells.{Cell}
use Rattle.store.specs.declared.half.Half.{Half}
use Rattle.records.specs.Registers.{Registers}
use Rattle.processor.specs.declared.effect.Put.{Put}
use Rattle.processor.specs.declared.report.Report.{Report}
use Rattle.processor.specs.Beneath.{PutsDo, run_puts, step_puts, then_puts}
use Rattle.processor.specs.Limits.{Limits, Becomes, machine_in}
use Rattle.processor.specs.Machine.{Machine}
use Rattle.processor.specs.Step.{Stepped, completed, interrupted, answer_of, machine_after, step}
use Rattle.processor.proofs.Going.{machine_next}

-- what follows a step that is completed, and one that is interrupted
then_on : (s : Stepped) (rest : Machine → List Put) → answer_of s ≡ Ok tt → then_puts s rest ≡ rest (machine_after s)
then_on (completed m) rest is = refl
then_on (interrupted report m) rest is = let no : ⊥ = cc in absurd no

then_none : (s : Stepped) (rest : Machine → List Put) (report : Report) → answer_of s ≡ Err report → then_puts s rest ≡ []
then_none (completed m) rest report is = let no : ⊥ = cc in absurd no
then_none (interrupted r m) rest report is = refl

module _ {S : Type 0} (whole : S → ℕ → ℕ → S → Type 0) (half : S → ℕ → Half → ℕ → S → Type 0) (l : Limits) where
  puts_then : (ps qs : List Put) (s m t : S) → PutsDo whole half l ps s m → PutsDo whole half l qs m t → PutsDo whole half l (ps ++ qs) s t
  puts_then [] qs s m t first second = subst (λ x. PutsDo whole half l qs x t) first second
  puts_then (p ∷ ps) qs s m t first second = (first.0, first.1, puts_then ps qs first.0 m t first.2 second)

  -- from a store on, what is still to be done completes the whole
  abbrev pub Completes : (all rest : List Put) (start now : S) → Type 0
  Completes all rest start now = (t : S) → PutsDo whole half l rest now t → PutsDo whole half l all start t

  module _ (all : List Put) (start now next : S) (budget done : ℕ) (row : List Cell) (r : Registers) (before : Completes all (run_puts (budget - done) (machine_in row l r)) start now) (more : done < budget) (does : PutsDo whole half l (step_puts (machine_in row l r)) now next) where
    abbrev m : Machine
    m = machine_in row l r

    one_more : run_puts (budget - done) m ≡ step_puts m ++ then_puts (step m) (run_puts (budget - (done + 1)))
    unfolding run_puts
    one_more = let first : budget - done ≡ suc (budget - (done + 1)) = omega (arith, more) in rw first refl

    pub completes_on : (row_next : List Cell) (later : Registers) → answer_of (step m) ≡ Ok tt → later ≡ (machine_after (step m)).registers → Becomes row l (machine_after (step m)).words row_next
        → Completes all (run_puts (budget - (done + 1)) (machine_in row_next l later)) start next
    completes_on row_next later on registers words t rest =
        let follows = then_on (step m) (run_puts (budget - (done + 1))) on ∙ ap (run_puts (budget - (done + 1))) (machine_next row l r row_next later registers words) in
        before t (rw (one_more, follows) (puts_then (step_puts m) _ now next t does rest))

    pub completes_at : (report : Report) → answer_of (step m) ≡ Err report → PutsDo whole half l all start next
    completes_at report stopped =
        before next (rw (one_more, then_none (step m) (run_puts (budget - (done + 1))) report stopped) (puts_then (step_puts m) [] now next next does refl))

  pub completed_all : (all : List Put) (start now : S) (budget done : ℕ) (m : Machine) → Completes all (run_puts (budget - done) m) start now → budget ≤ done → PutsDo whole half l all start now
  unfolding run_puts
  completed_all all start now budget done m before no_more = let none : budget - done ≡ 0 = omega (arith, no_more) in before now (rw none refl)
