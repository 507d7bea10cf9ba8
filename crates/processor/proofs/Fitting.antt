-- A step and a run leave registers that fit.
use Rattle.std.proofs.Common.{ℕ, zero, suc, subst, ap, refl, ◌≡◌, ◌%◌, ◌^◌, ◌<◌, ◌≤◌, nat_lt, arith, Result, Ok, Err}
use Rattle.std.proofs.lemmas.Bool.{cond_both, ltb-true}
use Rattle.records.specs.Registers.{Fits, with_p}
use Rattle.processor.specs.declared.report.ReferenceKind.{ReferenceKind}
use Rattle.processor.specs.declared.report.ReferenceKind.TheVariants.{Fetch, Read, Write}
use Rattle.processor.specs.declared.report.Report.{Report}
use Rattle.processor.specs.declared.report.Report.TheVariants.{IllegalInstruction, Protection, Parity, ExecutiveReturn, TestAndSet}
use Rattle.processor.specs.declared.effect.Next.{Next}
use Rattle.processor.specs.declared.effect.Next.TheVariants.{Onward, Skipping, Jumping}
use Rattle.processor.specs.Effects.{Effect, next_p, puts_tried}
use Rattle.processor.specs.Fields.{fields_of}
use Rattle.processor.specs.Machine.{Machine}
use Rattle.processor.specs.Reports.{p_after, p_after_protection}
use Rattle.processor.specs.Run.{Outcome, run, run_on}
use Rattle.processor.specs.Step.{Stepped, answer_of, completed, interrupted, instruction_effect, machine_after, step, stepped, tried}
use Rattle.processor.specs.Then.{◌>>=◌}
use Rattle.processor.proofs.Chosen.{then_all, then_any}
use Rattle.processor.proofs.EffectsFit.{Near, EffectFits, ResultFits, instruction_fits}
use Rattle.processor.proofs.Registered.{with_other_p}

-- P after an effect, and after an interrupt
p_after_effect : (next : Next) (p : ℕ) → Near next → p < 2 ^ 15 → next_p next p < 2 ^ 17
p_after_effect Onward p near low = omega arith
p_after_effect Skipping p near low = omega arith
p_after_effect (Jumping t) p near low = omega arith

p_after_failed : (kind : ReferenceKind) (p : ℕ) → p < 2 ^ 15 → p_after_protection kind p < 2 ^ 17
p_after_failed Fetch p low = omega arith
p_after_failed Read p low = omega arith
p_after_failed Write p low = omega arith

p_after_interrupt : (report : Report) (p : ℕ) → p < 2 ^ 15 → p_after report p < 2 ^ 17
p_after_interrupt (IllegalInstruction r) p low = omega arith
p_after_interrupt (Protection reference) p low = p_after_failed reference.kind p low
p_after_interrupt (Parity reference fault) p low = omega arith
p_after_interrupt (ExecutiveReturn r) p low = omega arith
p_after_interrupt (TestAndSet r) p low = omega arith

-- a machine of at most 32,768 words, whose registers fit
abbrev MachineFits : Machine → Type 0
MachineFits m = (m.length ≤ 32768) × Fits m.registers

abbrev StepFits : Stepped → Type 0
StepFits (completed after) = MachineFits after
StepFits (interrupted report after) = MachineFits after

-- what a step does with the word that it fetched
abbrev with_fetched : Machine → ℕ → Result Effect Report
with_fetched m w = do
  effect ← instruction_effect m (fields_of w)
  done ← puts_tried m.length m.words effect.puts
  Ok effect

module _ (m : Machine) (sound : MachineFits m) where
  fetched_fits : (w : ℕ) → ResultFits (with_fetched m w)
  fetched_fits w = then_all EffectFits EffectFits (instruction_effect m (fields_of w)) _ (instruction_fits m (fields_of w) sound.1) (λ e good. then_any EffectFits (puts_tried m.length m.words e.puts) _ (λ done. good))

  stepped_fits : (r : Result Effect Report) → m.registers.p < 2 ^ 15 → ResultFits r → StepFits (stepped m r)
  stepped_fits (Ok e) low good = (sound.0, with_other_p e.registers good.0 _ (p_after_effect e.next m.registers.p good.1 low))
  stepped_fits (Err report) low good = (sound.0, with_other_p m.registers sound.1 _ (p_after_interrupt report m.registers.p low))

  -- a fetch comes through below the length only, and elsewhere P stays
  step_fits : StepFits (step m)
  unfolding step tried
  step_fits =
      let p = m.registers.p in
      cond_both (nat_lt p m.length) _ _ (λ r. StepFits (stepped m (r >>= with_fetched m)))
      (λ within. stepped_fits _ (omega (arith, ltb-true p m.length within)) (then_any EffectFits _ _ fetched_fits))
      (λ past. sound)

-- what becomes of P fits its register
module _ (m : Machine) (short : m.length ≤ 32768) (fits : Fits m.registers) where
  registers_after : (s : Stepped) → StepFits s → Fits (machine_after s).registers
  registers_after (completed after) sound = sound.1
  registers_after (interrupted report after) sound = sound.1

  pub step_registers_fit : Fits (machine_after (step m)).registers
  step_registers_fit = registers_after (step m) (step_fits m (short, fits))

  -- by what was tried
  fit_by : (r : Result Effect Report) → tried m ≡ r → Fits (machine_after (stepped m r)).registers
  unfolding step
  fit_by r is = subst (λ r. Fits (machine_after (stepped m r)).registers) is step_registers_fit

  -- so the registers after a step that is interrupted are those from before it, with P in 17 bits
  interrupted_by : (report : Report) (r : Result Effect Report) → tried m ≡ r → Err report ≡ answer_of (stepped m r) → with_p m.registers (p_after report m.registers.p % 2 ^ 17) ≡ (machine_after (stepped m r)).registers
  interrupted_by report (Ok e) is answers = let no : ⊥ = cc in absurd no
  interrupted_by report (Err other) is answers = let same : report ≡ other = cc in rw same (ap (with_p m.registers) (omega (arith, (fit_by (Err other) is).4)))

  pub registers_if_interrupted : (report : Report) → Err report ≡ answer_of (step m) → with_p m.registers (p_after report m.registers.p % 2 ^ 17) ≡ (machine_after (step m)).registers
  unfolding step
  registers_if_interrupted report = interrupted_by report (tried m) refl

run_on_fits : (s : Stepped) (rest : Machine → Outcome) → ((n : Machine) → MachineFits n → Fits (rest n).machine.registers) → StepFits s → Fits (run_on s rest).machine.registers
run_on_fits (completed after) rest all sound = all after sound
run_on_fits (interrupted report after) rest all sound = sound.1

run_keeps : (budget : ℕ) (m : Machine) → MachineFits m → Fits (run budget m).machine.registers
unfolding run
run_keeps zero m sound = sound.1
run_keeps (suc budget) m sound = run_on_fits (step m) (run budget) (run_keeps budget) (step_fits m sound)

pub run_fits : (budget : ℕ) (m : Machine) → m.length ≤ 32768 → Fits m.registers → Fits (run budget m).machine.registers
run_fits budget m short fits = run_keeps budget m (short, fits)
