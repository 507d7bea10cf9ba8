use Rattle.std.proofs.Common.{rules}
use Rattle.stores.specs.ParityRow.{row_whole}
use Rattle.stores.proofs.parity.ParityStoreStore.put_whole.Goals as goal

pub returns-clause-after : goal.returns-clause-after
returns-clause-after c = search (rules, row_whole)
