-- What a replay on a new installation has done and returned.
use Rattle.std.specs.Prelude.{◌≡◌, ℕ, List, [], ◌∷◌, Vec}
use Rattle.store.specs.Cells.{Cell}
use Rattle.store.specs.declared.half.Half.{Half}
use Rattle.engine.specs.declared.answer.Answer.{Answer}
use Rattle.engine.specs.declared.call.Call.{Call}
use Rattle.engine.specs.declared.replaying.Replayed.{Replayed}
use Rattle.engine.specs.Beneath.{StoreDoesAll}
use Rattle.engine.specs.Bytes.{asked, given}
use Rattle.engine.specs.Exchanges.{Exchange, after, answers_in, exchanges}
use Rattle.engine.specs.Installation.{made}
use Rattle.engine.specs.Installed.{means}
use Rattle.engine.specs.Isolation.{History}

-- each call with its answer
abbrev pub paired : List (Call (List ℕ)) → List (Answer (List ℕ)) → List Exchange
paired [] answers = []
paired (c ∷ cs) [] = []
paired (c ∷ cs) (a ∷ answers) = record { call = c; answer = a } ∷ paired cs answers

-- the history that is told by the answers and the installation which it returned
abbrev pub returned : {S Y Z : Type 0} → (S → List Cell) → S → Vec (Call (Vec ℕ Y)) Z → Replayed S → History
returned cells store calls replayed = record { row = cells store; exchanges = paired (asked calls) (given replayed.answers); left = means cells replayed.installation }

-- it returned the answers that are defined, and no more, and the installation after the last; and it did to the store what the calls do
pub record Replays {S Y Z : Type 0} (cells : S → List Cell) (whole : S → ℕ → ℕ → S → Type 0) (half : S → ℕ → Half → ℕ → S → Type 0) (store : S) (calls : Vec (Call (Vec ℕ Y)) Z) (replayed : Replayed S) : Type 0 where
  pub answers : given replayed.answers ≡ answers_in (exchanges (made (cells store)) (asked calls))
  pub left : means cells replayed.installation ≡ after (made (cells store)) (asked calls)
  pub does : StoreDoesAll cells whole half (made (cells store)) (asked calls) store replayed.installation.store
