-- Where a run stands after some of its steps.
use Rattle.std.proofs.Common.{ℕ, suc, ◌≡◌, ◌+◌, ◌-◌, ◌<◌, ◌≤◌, List, refl, ap, sym, ◌∙◌, arith, Result, Ok, Err}
use Rattle.store.specs.Cells.{Cell}
use Rattle.records.specs.Registers.{Registers}
use Rattle.processor.specs.declared.outcome.Ending.{Ending}
use Rattle.processor.specs.declared.outcome.Ending.TheVariants.{Spent, Interrupted}
use Rattle.processor.specs.declared.report.Report.{Report}
use Rattle.processor.specs.Effects.{Effect}
use Rattle.processor.specs.Limits.{Limits, Becomes, between, machine_in}
use Rattle.processor.specs.Machine.{Machine}
use Rattle.processor.specs.Run.{Outcome, one_more, run, run_on}
use Rattle.processor.specs.Step.{Stepped, completed, interrupted, answer_of, machine_after, step, stepped, tried}

-- rows that become others, one after another
pub becomes_then : (row : List Cell) (l : Limits) (mid words after : List Cell) → Becomes row l (between mid l) mid → Becomes mid l words after → Becomes row l words after
becomes_then row l mid words after first second = record {
  there = second.there;
  below = second.below ∙ first.below;
  above = second.above ∙ first.above;
}

-- a step keeps the length
stepped_length : (m : Machine) (r : Result Effect Report) → (machine_after (stepped m r)).length ≡ m.length
stepped_length m (Ok effect) = refl
stepped_length m (Err report) = refl

step_length : (m : Machine) → (machine_after (step m)).length ≡ m.length
unfolding step
step_length m = stepped_length m (tried m)

-- the machine after a step, by the row and the registers after it
module _ (row : List Cell) (l : Limits) (r : Registers) where
  abbrev after : Machine
  after = machine_after (step (machine_in row l r))

  pub machine_next : (row_next : List Cell) (later : Registers) → later ≡ after.registers → Becomes row l after.words row_next → after ≡ machine_in row_next l later
  machine_next row_next later registers words =
      let same : after.length ≡ l.length = step_length (machine_in row l r) in
      rw (registers, words.there) (ap (λ n. record { length = n; registers = after.registers; words = after.words }) same)

-- the first step of a run
one_step : (s : Stepped) (rest : Machine → Outcome) → answer_of s ≡ Ok tt → run_on s rest ≡ one_more (rest (machine_after s))
one_step (completed m) rest is = refl
one_step (interrupted report m) rest is = let no : ⊥ = cc in absurd no

last_step : (s : Stepped) (rest : Machine → Outcome) (report : Report) → answer_of s ≡ Err report → run_on s rest ≡ record { told = record { steps = 1; ending = Interrupted report }; machine = machine_after s }
last_step (completed m) rest report is = let no : ⊥ = cc in absurd no
last_step (interrupted r m) rest report is = let same : r ≡ report = cc in rw same refl

abbrev outcome : ℕ → Ending → Machine → Outcome
outcome n e m = record { told = record { steps = n; ending = e }; machine = m }

-- an outcome with so many steps before it
abbrev after_steps : ℕ → Outcome → Outcome
after_steps n o = outcome (n + o.told.steps) o.told.ending o.machine

-- outcomes whose counts are equal
counted : (e : Ending) (m : Machine) (n k : ℕ) → n ≡ k → outcome n e m ≡ outcome k e m
counted e m n k same = ap (λ n. outcome n e m) same

-- what is still to come, with the steps that are done, is the whole run; and no cell outside the limits has changed
pub record Going (row : List Cell) (l : Limits) (r : Registers) (budget done : ℕ) (row_now : List Cell) (now : Registers) : Type 0 where
  pub to_come : after_steps done (run (budget - done) (machine_in row_now l now)) ≡ run budget (machine_in row l r)
  pub only_words : Becomes row l (between row_now l) row_now

module _ (row : List Cell) (l : Limits) (r : Registers) (budget : ℕ) where
  module _ (done : ℕ) (row_now : List Cell) (now : Registers) (going : Going row l r budget done row_now now) where
    abbrev m : Machine
    m = machine_in row_now l now

    abbrev next : Stepped
    next = step m

    pub goes_on : (row_next : List Cell) (later : Registers) → done < budget → answer_of next ≡ Ok tt → later ≡ (machine_after next).registers → Becomes row_now l (machine_after next).words row_next → Going row l r budget (done + 1) row_next later
    unfolding run
    goes_on row_next later more on registers words =
        let first : budget - done ≡ suc (budget - (done + 1)) = omega (arith, more) in
        let o = run (budget - (done + 1)) (machine_in row_next l later) in
        let same : run (budget - done) m ≡ one_more o =
        rw first (one_step next (run (budget - (done + 1))) on ∙ ap (λ n. one_more (run (budget - (done + 1)) n)) (machine_next row_now l now row_next later registers words)) in
        record { to_come = counted o.told.ending o.machine (done + 1 + o.told.steps) (done + suc o.told.steps) (omega arith) ∙ ap (after_steps done) (sym same) ∙ going.to_come; only_words = becomes_then row l row_now _ row_next going.only_words (rw words.there words) }

    pub ends : (report : Report) → done < budget → answer_of next ≡ Err report → run budget (machine_in row l r) ≡ record { told = record { steps = done + 1; ending = Interrupted report }; machine = machine_after next }
    unfolding run
    ends report more stopped =
        let first : budget - done ≡ suc (budget - (done + 1)) = omega (arith, more) in
        sym going.to_come ∙ rw (first, last_step next (run (budget - (done + 1))) report stopped) refl

    pub spent : budget ≤ done → done ≤ budget → run budget (machine_in row l r) ≡ record { told = record { steps = budget; ending = Spent }; machine = m }
    unfolding run
    spent no_more at_most =
        let none : budget - done ≡ 0 = omega (arith, no_more) in
        sym going.to_come ∙ rw none (counted _ _ _ _ (omega (arith, no_more, at_most)))
