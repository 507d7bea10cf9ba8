-- What a step and a run do to the store itself, as far as it tells that of its puts: their puts, one after another, and nothing else.
use Rattle.std.specs.Prelude.{◌≡◌, ℕ, zero, suc, ◌+◌, List, [], ◌∷◌, ◌++◌, Result, Ok, Err}
use Rattle.store.specs.declared.half.Half.{Half}
use Rattle.processor.specs.declared.effect.Put.{Put}
use Rattle.processor.specs.declared.effect.Put.TheVariants as put
use Rattle.processor.specs.declared.report.Report.{Report}
use Rattle.processor.specs.Effects.{Effect}
use Rattle.processor.specs.Limits.{Limits}
use Rattle.processor.specs.Machine.{Machine}
use Rattle.processor.specs.Step.{Stepped, completed, interrupted, step, tried}

-- one put does what the store's put to that cell does, and several do so in turn
module _ {S : Type 0} (whole : S → ℕ → ℕ → S → Type 0) (half : S → ℕ → Half → ℕ → S → Type 0) (l : Limits) where
  abbrev pub PutDoes : Put → S → S → Type 0
  PutDoes (put.Whole r w) s t = whole s (l.lower + r.0) w t
  PutDoes (put.Half r h x) s t = half s (l.lower + r.0) h x t

  abbrev pub PutsDo : List Put → S → S → Type 0
  PutsDo [] s t = t ≡ s
  PutsDo (p ∷ ps) s t = (m : S) × PutDoes p s m × PutsDo ps m t

-- the puts of a step; one that is interrupted has none
abbrev pub puts_if : Result Effect Report → List Put
puts_if (Ok effect) = effect.puts
puts_if (Err report) = []

abbrev pub step_puts : Machine → List Put
step_puts m = puts_if (tried m)

-- and those of a run
abbrev pub then_puts : Stepped → (Machine → List Put) → List Put
then_puts (completed m) rest = rest m
then_puts (interrupted report m) rest = []

unfoldable pub run_puts : ℕ → Machine → List Put
run_puts zero m = []
run_puts (suc budget) m = step_puts m ++ then_puts (step m) (run_puts budget)
