-- An effect, by the registers as an instruction leaves them and by what it leaves to be done.
use Rattle.std.specs.Prelude.{List, [], ◌∷◌, Result, Ok, Err}
use Rattle.store.specs.Cells.{Cell}
use Rattle.records.specs.Registers.{Registers}
use Rattle.processor.specs.declared.effect.Pending.{Pending}
use Rattle.processor.specs.declared.effect.Put.{Put}
use Rattle.processor.specs.declared.effect.Put.TheVariants.{Whole}
use Rattle.processor.specs.declared.effect.Puts.{Puts}
use Rattle.processor.specs.declared.effect.Puts.TheVariants.{Nothing, One, TwoWords}
use Rattle.processor.specs.declared.report.Report.{Report}
use Rattle.processor.specs.Effects.{Effect, puts_done}

abbrev pub puts_of : Puts → List Put
puts_of Nothing = []
puts_of (One put) = put ∷ []
puts_of (TwoWords first second) = Whole first.0 first.1 ∷ Whole second.0 second.1 ∷ []

-- the puts of an instruction that does not interrupt
abbrev pub puts_left : Result Pending Report → List Put
puts_left (Ok pending) = puts_of pending.puts
puts_left (Err report) = []

-- the words with these put, if nothing interrupted
abbrev pub words_left : List Cell → Result Pending Report → List Cell
words_left words (Ok pending) = puts_done words (puts_of pending.puts)
words_left words (Err report) = words

abbrev pub effect : Registers → Pending → Effect
effect r pending = record { registers = r; puts = puts_of pending.puts; next = pending.next }

-- if it does not interrupt
abbrev pub effected : Registers → Result Pending Report → Result Effect Report
effected r (Ok pending) = Ok (effect r pending)
effected r (Err report) = Err report
