-- The fixed address call concerns no installation.
use Rattle.std.proofs.Common.{ℕ, ◌≡◌, Result, Ok, Err, refl}
use Rattle.store.specs.declared.address.CellAddress.{CellAddress}
use Rattle.processor.specs.Then.{◌>>=◌}
use Rattle.engine.specs.declared.answer.Answer.TheVariants as answer
use Rattle.engine.specs.declared.call.Call.TheVariants as call
use Rattle.engine.specs.declared.refusal.Refusal.{Refusal}
use Rattle.engine.specs.FixedAddress.{fixed_address}
use Rattle.engine.specs.Installation.{Installation}
use Rattle.engine.specs.Performing.{performed, taken_or_refused}

module _ (i : Installation) (number : ℕ) (cell : CellAddress) where
  told : (r : Result CellAddress Refusal) → taken_or_refused i (call.FixedAddress number cell) (r >>= (λ a. Ok (record { answer = answer.FixedAddress (Ok a); installation = i }))) ≡ record { answer = answer.FixedAddress r; installation = i }
  told (Ok a) = refl
  told (Err e) = refl

  pub fixed_performed : performed i (call.FixedAddress number cell) ≡ record { answer = answer.FixedAddress (fixed_address number cell.0); installation = i }
  unfolding performed
  fixed_performed = told (fixed_address number cell.0)
