use Rattle.records.specs.Registers.{Fits}
use Rattle.std.proofs.Common.{◌-◌}
use Rattle.processor.specs.Beneath.{run_puts}
use Rattle.processor.specs.Limits.{machine_in}
use Rattle.processor.proofs.Doing.{Completes}
use Rattle.processor.proofs.Going.{Going}
use Rattle.processor.proofs.running.run_steps.Given as goal

abbrev pub invariant-loop-done : goal.invariant-loop-done
invariant-loop-done g l = Going (g.S.Store.cells l.fn.store) l.fn.limits l.fn.registers l.budget l.done (g.S.Store.cells l.store) l.registers × Completes g.S.Store.puts_whole g.S.Store.puts_half l.fn.limits (run_puts l.budget (machine_in (g.S.Store.cells l.fn.store) l.fn.limits l.fn.registers)) (run_puts (l.budget - l.done) (machine_in (g.S.Store.cells l.store) l.fn.limits l.registers)) l.fn.store l.store × (Fits l.fn.registers → Fits l.registers)
