use Rattle.engine.proofs.Addressed.{words_below_length}
use Rattle.engine.proofs.Fitted.{registers_fit}
use Rattle.engine.proofs.Isolated.{isolated}
use Rattle.engine.proofs.Lawful.{no_cell_shared, row_keeps_length, workers_lie_in_row}
use Rattle.engine.proofs.Reported.{no_report_of_no_cell, no_run_ends_in_no_cell}
use Rattle.engine.proofs.installation.Installation.new.Goals as goal

pub returns-clause-apart : goal.returns-clause-apart
returns-clause-apart g c = no_cell_shared (g.S.Store.cells c.args.store)

pub returns-clause-inside : goal.returns-clause-inside
returns-clause-inside g c = workers_lie_in_row (g.S.Store.cells c.args.store)

pub returns-clause-length : goal.returns-clause-length
returns-clause-length g c = row_keeps_length (g.S.Store.cells c.args.store)

pub returns-clause-widths : goal.returns-clause-widths
returns-clause-widths g c = registers_fit (g.S.Store.cells c.args.store)

pub returns-clause-held : goal.returns-clause-held
returns-clause-held g c = no_report_of_no_cell (g.S.Store.cells c.args.store)

pub returns-clause-ran : goal.returns-clause-ran
returns-clause-ran g c = no_run_ends_in_no_cell (g.S.Store.cells c.args.store)

pub returns-clause-addressed : goal.returns-clause-addressed
returns-clause-addressed g c = words_below_length (g.S.Store.cells c.args.store)

pub returns-clause-isolation : goal.returns-clause-isolation
returns-clause-isolation g c = λ s t. isolated (g.S.Store.cells s) (g.S.Store.cells t)
