-- Histories of an installation: calls one after another, and what they answered.
use Rattle.std.specs.Prelude.{ℕ, List, [], ◌∷◌, map}
use Rattle.engine.specs.declared.answer.Answer.{Answer}
use Rattle.engine.specs.declared.call.Call.{Call}
use Rattle.engine.specs.Installation.{Installation}
use Rattle.engine.specs.Performing.{performed}

-- a call and its answer
pub record Exchange : Type 0 where
  pub call : Call (List ℕ)
  pub answer : Answer (List ℕ)

abbrev pub calls_in : List Exchange → List (Call (List ℕ))
calls_in es = map (λ e. e.call) es

abbrev pub answers_in : List Exchange → List (Answer (List ℕ))
answers_in es = map (λ e. e.answer) es

-- the exchanges of calls one after another
unfoldable pub exchanges : Installation → List (Call (List ℕ)) → List Exchange
exchanges i [] = []
exchanges i (c ∷ cs) = record { call = c; answer = (performed i c).answer } ∷ exchanges (performed i c).installation cs

-- and the installation after the last of them
unfoldable pub after : Installation → List (Call (List ℕ)) → Installation
after i [] = i
after i (c ∷ cs) = after (performed i c).installation cs
