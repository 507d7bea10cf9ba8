use Rattle.std.proofs.Common.{arith}
use Rattle.pairs.specs.Pair.{rows}
use Rattle.pairs.specs.Law.{lies}
use Rattle.pairs.proofs.pair.Pair.place.Goals as goal

pub returns : goal.returns
returns g c =
    let placed = rw c.count-2.ensures at c.place.ensures in
    let law = lies _ (rows g.F.Store.cells g.S.Store.cells c.args.self.now) _ _ (omega arith) placed in
    (law.here, (placed, law))
