use Rattle.processor.proofs.Between.{whole_between}
use Rattle.processor.proofs.writing.put_whole.Goals as goal

pub returns-clause-after : goal.returns-clause-after
returns-clause-after g c =
    let cell = c.in_ok-cell.ensures.within in
    rw (c.in_ok-put_whole.ensures.after, cell.1, c.get.ensures.value) (whole_between (g.S.Store.cells c.args.store.now) c.args.limits c.args.address.0 cell.0 c.args.word)
