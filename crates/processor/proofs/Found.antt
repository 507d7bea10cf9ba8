-- What an instruction reads is a word, and so is its operand.
use Rattle.std.proofs.Common.{ℕ, ◌^◌, ◌<◌, nat_lt, List, length, arith, Result, Ok, Err}
use Rattle.std.specs.Prelude.{IfOk}
use Rattle.store.specs.Cells.{Cell, cell_at}
use Rattle.store.specs.declared.fault.Fault.{Fault}
use Rattle.store.specs.Functions.{fetched, word_of}
use Rattle.words.proofs.Widths.{joined_fit, extended_fit}
use Rattle.records.specs.Registers.{Fits}
use Rattle.processor.specs.declared.report.Reference.{Reference}
use Rattle.processor.specs.declared.report.Report.{Report}
use Rattle.processor.specs.Fields.{Fields}
use Rattle.processor.specs.Machine.{Machine}
use Rattle.processor.specs.Operands.{effective, lower_read, upper_read, extension, operand}
use Rattle.processor.specs.References.{read, parity_tried}
use Rattle.processor.proofs.Chosen.{of_two, of_eight, then_any}

-- a word has 30 bits
abbrev pub Small : ℕ → Type 0
Small w = w < 2 ^ 30

parity_small : (reference : Reference) (r : Result ℕ Fault) → IfOk r Small → IfOk (parity_tried reference r) Small
parity_small reference (Ok w) small = small
parity_small reference (Err fault) small = tt

fetched_small : (words : List Cell) (a : ℕ) → IfOk (fetched words a) Small
fetched_small words a =
    let c = cell_at words a in
    let P : Result ℕ Fault → Type 0 = λ r. IfOk r Small in
    of_two P (nat_lt a (length words)) (word_of c) _
    (of_two P c.upper.good _ _ (of_two P c.lower.good _ _ (joined_fit c.upper.value c.lower.value) tt) tt)
    tt

module _ (m : Machine) where
  pub read_small : (r : ℕ) → IfOk (read m r) Small
  read_small r = of_two (λ (x : Result ℕ Report). IfOk x Small) (nat_lt r m.length) _ _ (parity_small _ (fetched m.words r) (fetched_small m.words r)) tt

  lower_small : (r : ℕ) → IfOk (lower_read m r) Small
  lower_small r = then_any Small (read m r) _ (λ w. omega arith)

  upper_small : (r : ℕ) → IfOk (upper_read m r) Small
  upper_small r = then_any Small (read m r) _ (λ w. omega arith)

extension_small : (half : Result ℕ Report) → IfOk (extension half) Small
extension_small half = then_any Small half _ (λ x. extended_fit 15 x)

pub operand_small : (m : Machine) (i : Fields) → Fits m.registers → IfOk (operand m i) Small
operand_small m i fits =
    let y = effective m.registers i in
    of_eight (λ (x : Result ℕ Report). IfOk x Small) i.k _ _ _ _ _ _ _ _
    (omega arith) (lower_small m y) (upper_small m y) (read_small m y) (extended_fit 15 y) (extension_small (lower_read m y)) (extension_small (upper_read m y)) fits.0
