use Rattle.stores.specs.WordRow.{row_taken}
use Rattle.stores.proofs.word.WordStore.cell_number.Goals as goal

pub returns : goal.returns
returns c =
    let found = c.in_ok-index_of.ensures in
    let read = row_taken _ _ _ _ found.0 found.1.0 c.number.ensures in
    (found.0, read)
