-- What there is of the machine for one worker: how many words it has, its registers, and its words, which relative addresses count from 0.
use Rattle.std.specs.Prelude.{ℕ, List}
use Rattle.store.specs.Cells.{Cell}
use Rattle.records.specs.Registers.{Registers}

pub record Machine : Type 0 where
  pub length : ℕ
  pub registers : Registers
  pub words : List Cell
