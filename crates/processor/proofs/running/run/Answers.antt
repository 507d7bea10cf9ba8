use Rattle.processor.specs.Limits.{machine_in}
use Rattle.processor.proofs.Between.{all_between, becomes_row}
use Rattle.processor.proofs.Kept.{run_kept}
use Rattle.processor.proofs.Outside.{others_kept}
use Rattle.processor.proofs.Whole.{run_of_cell}
use Rattle.processor.proofs.running.run.Goals as goal

pub returns-clause-row : goal.returns-clause-row
returns-clause-row g c = becomes_row (g.S.Store.cells c.args.store.now) c.args.limits _ (g.S.Store.cells c.run_steps.new.store) c.run_steps.ensures.words

pub returns-clause-other_cells : goal.returns-clause-other_cells
returns-clause-other_cells g c =
    let m = machine_in (g.S.Store.cells c.args.store.now) c.args.limits c.args.registers.now in
    others_kept (g.S.Store.cells c.args.store.now) c.args.limits _ (g.S.Store.cells c.run_steps.new.store) c.run_steps.ensures.words (run_kept c.args.budget m)

pub returns-clause-as_many_words : goal.returns-clause-as_many_words
returns-clause-as_many_words g c =
    let m = machine_in (g.S.Store.cells c.args.store.now) c.args.limits c.args.registers.now in
    rw c.run_steps.ensures.words.there (run_kept c.args.budget m)

pub returns-clause-found : goal.returns-clause-found
returns-clause-found g c =
    let row = g.S.Store.cells c.args.store.now in
    let m = machine_in row c.args.limits c.args.registers.now in
    λ within. rw c.run_steps.ensures.told (run_of_cell c.args.budget m (all_between row c.args.limits within))
