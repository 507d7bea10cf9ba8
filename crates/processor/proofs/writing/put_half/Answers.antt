use Rattle.processor.proofs.Between.{half_between}
use Rattle.processor.proofs.writing.put_half.Goals as goal

pub returns-clause-after : goal.returns-clause-after
returns-clause-after g c =
    let cell = c.in_ok-cell.ensures.within in
    rw (c.in_ok-put_half.ensures.after, cell.1, c.get.ensures.value) (half_between (g.S.Store.cells c.args.store.now) c.args.limits c.args.address.0 cell.0 c.args.half c.args.number)
