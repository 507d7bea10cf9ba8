-- A step and a run keep the number of words, and a step that is interrupted keeps all registers but P.
use Rattle.std.proofs.Common.{ℕ, zero, suc, ◌≡◌, List, [], ◌∷◌, length, refl, ◌∙◌, Result, Ok, Err}
use Rattle.std.proofs.lemmas.List.{length-set}
use Rattle.store.specs.Cells.{Cell}
use Rattle.processor.specs.declared.report.Report.{Report}
use Rattle.records.specs.Registers.{Registers, with_p}
use Rattle.processor.specs.declared.effect.Put.{Put}
use Rattle.processor.specs.declared.effect.Put.TheVariants as put
use Rattle.processor.specs.Effects.{Effect, put_done, puts_done}
use Rattle.processor.specs.Machine.{Machine}
use Rattle.processor.specs.Run.{run, run_on}
use Rattle.processor.specs.Step.{Stepped, completed, interrupted, answer_of, machine_after, step, stepped, tried}

put_kept : (words : List Cell) (p : Put) → length (put_done words p) ≡ length words
put_kept words (put.Whole r w) = length-set words _ _
put_kept words (put.Half r h x) = length-set words _ _

pub puts_kept : (words : List Cell) (ps : List Put) → length (puts_done words ps) ≡ length words
puts_kept words [] = refl
puts_kept words (p ∷ ps) = puts_kept (put_done words p) ps ∙ put_kept words p

-- a step's machine has as many words
abbrev Keeps : Machine → Stepped → Type 0
Keeps m (completed after) = length after.words ≡ length m.words
Keeps m (interrupted report after) = length after.words ≡ length m.words

stepped_kept : (m : Machine) (r : Result Effect Report) → Keeps m (stepped m r)
stepped_kept m (Ok effect) = puts_kept m.words effect.puts
stepped_kept m (Err report) = refl

step_kept : (m : Machine) → Keeps m (step m)
unfolding step
step_kept m = stepped_kept m (tried m)

kept_after : (m : Machine) (s : Stepped) → Keeps m s → length (machine_after s).words ≡ length m.words
kept_after m (completed after) kept = kept
kept_after m (interrupted report after) kept = kept

pub step_words_kept : (m : Machine) → length (machine_after (step m)).words ≡ length m.words
step_words_kept m = kept_after m (step m) (step_kept m)

-- and one that is interrupted keeps all registers but P
abbrev KeepsAllButP : Registers → Registers → Type 0
KeepsAllButP r after = after ≡ with_p r after.p

if_interrupted : (m : Machine) (r : Result Effect Report) (report : Report) → Err report ≡ answer_of (stepped m r) → KeepsAllButP m.registers (machine_after (stepped m r)).registers
if_interrupted m (Ok effect) report is = let no : ⊥ = cc in absurd no
if_interrupted m (Err other) report is = refl

pub step_interrupted : (m : Machine) (report : Report) → Err report ≡ answer_of (step m) → KeepsAllButP m.registers (machine_after (step m)).registers
unfolding step
step_interrupted m report is = if_interrupted m (tried m) report is

run_on_kept : (budget : ℕ) (m : Machine) (s : Stepped) → ((n : Machine) → length (run budget n).machine.words ≡ length n.words) → Keeps m s → length (run_on s (run budget)).machine.words ≡ length m.words
run_on_kept budget m (completed after) rest kept = rest after ∙ kept
run_on_kept budget m (interrupted report after) rest kept = kept

pub run_kept : (budget : ℕ) (m : Machine) → length (run budget m).machine.words ≡ length m.words
unfolding run
run_kept zero m = refl
run_kept (suc budget) m = run_on_kept budget m (step m) (run_kept budget) (step_kept m)
