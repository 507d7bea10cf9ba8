use Rattle.engine.proofs.Isolated.{isolated, isolated_as}
use Rattle.engine.proofs.Split.{told_history}
use Rattle.engine.proofs.replaying.replay_both.Goals as goal

pub returns-in-Ok-clause-isolation : goal.returns-in-Ok-clause-isolation
returns-in-Ok-clause-isolation g c = λ s t. isolated (g.S.Store.cells s) (g.T.Store.cells t)

pub returns-in-Err-clause-isolation : goal.returns-in-Err-clause-isolation
returns-in-Err-clause-isolation g c = λ s t. isolated (g.S.Store.cells s) (g.T.Store.cells t)

pub returns-in-Ok-clause-histories : goal.returns-in-Ok-clause-histories
returns-in-Ok-clause-histories g c =
    let first = c.replay_new.ensures in
    let second = c.replay_new-in-Ok.ensures in
    (told_history _ _ _ _ first.answers first.left, told_history _ _ _ _ second.answers second.left)

pub returns-in-Ok-clause-isolated : goal.returns-in-Ok-clause-isolated
returns-in-Ok-clause-isolated g c =
    let first = c.replay_new.ensures in
    let second = c.replay_new-in-Ok.ensures in
    isolated_as _ _ _ _ _ _ (told_history _ _ _ _ first.answers first.left) (told_history _ _ _ _ second.answers second.left)
