-- How halves, faults and replies are written.
use Rattle.std.specs.Prelude.{ℕ, List, ◌++◌, Ok, Err, codes, decimal}
use Rattle.words.specs.Octal.{octal_word}
use Rattle.store.specs.declared.fault.Fault.{Fault}
use Rattle.store.specs.declared.fault.Fault.TheVariants.{NoCell, Spoiled}
use Rattle.store.specs.declared.half.Half.{Half}
use Rattle.store.specs.declared.half.Half.TheVariants.{Upper, Lower}
use Rattle.store.specs.declared.operation.Reply.{Reply}
use Rattle.store.specs.declared.operation.Reply.TheVariants.{Counted, Fetched, Put}

abbrev pub half_text : Half → List ℕ
half_text Upper = codes "upper"
half_text Lower = codes "lower"

abbrev pub fault_text : Fault → List ℕ
fault_text NoCell = codes "no cell"
fault_text (Spoiled h) = codes "spoiled " ++ half_text h

abbrev pub reply_text : Reply → List ℕ
reply_text (Counted n) = decimal n
reply_text (Fetched (Ok w)) = octal_word w
reply_text (Fetched (Err f)) = fault_text f
reply_text (Put (Ok u)) = codes "ok"
reply_text (Put (Err f)) = fault_text f
