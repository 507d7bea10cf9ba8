use Rattle.stores.specs.ParityRow.{row_taken}
use Rattle.stores.proofs.parity.ParityStore.half_number.Goals as goal

pub returns : goal.returns
returns c = let found = c.in_ok-half_index.ensures in (found.0, row_taken _ _ _ _ _ found.0 found.1.0 c.number.ensures)
