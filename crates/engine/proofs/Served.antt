-- Whatever is asked of a worker, it has as many words afterwards.
use Rattle.std.proofs.Common.{ℕ, ◌≡◌, List, length, refl}
use Rattle.std.proofs.lemmas.List.{length-set}
use Rattle.processor.proofs.Kept.{run_kept}
use Rattle.engine.specs.declared.answer.State.{State}
use Rattle.engine.specs.declared.answer.State.TheVariants.{Ready, Held}
use Rattle.engine.specs.declared.call.Request.{Request}
use Rattle.engine.specs.declared.call.Request.TheVariants as request
use Rattle.engine.specs.Own.{Own}
use Rattle.engine.specs.Serving.{Served, served, machine_of, run_ready}
use Rattle.engine.proofs.Results.{OkIs, then_ok}

module _ (n : ℕ) (o : Own) where
  abbrev pub Keeps : Served → Type 0
  Keeps s = length s.own.words ≡ length o.words

  ready_kept : (state : State) (budget : ℕ) → OkIs Keeps (run_ready state n o budget)
  ready_kept Ready budget = run_kept budget (machine_of n o)
  ready_kept (Held report) budget = tt

  pub served_kept : (what : Request (List ℕ)) → OkIs Keeps (served n o what)
  unfolding served
  served_kept (request.Load r w) = search (then_ok, length-set)
  served_kept (request.Look r) = search (then_ok)
  served_kept (request.Run budget) = search (then_ok, ready_kept)
  served_kept (request.Answer a q p) = search (then_ok)
  served_kept (request.Save buffer) = search (then_ok)
  served_kept (request.Restore bytes) = search (then_ok)
  served_kept request.Tell = refl
