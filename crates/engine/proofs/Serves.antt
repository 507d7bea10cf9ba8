-- What a worker is served, by the cells in which its words lie.
use Rattle.std.proofs.Common.{ℕ, ◌≡◌, ◌+◌, ◌<◌, ◌^◌, List, Ok, refl, nat_lt, ◌&&◌, true, arith}
use Rattle.store.specs.Cells.{Cell}
use Rattle.store.specs.Functions.{fetched, put_whole_answer, whole_put}
use Rattle.processor.specs.declared.report.Report.{Report}
use Rattle.processor.specs.Limits.{words_in}
use Rattle.processor.proofs.Between.{fetched_between, exists_between}
use Rattle.records.specs.Record.{record_read, write_answer, written}
use Rattle.records.specs.Registers.{Registers}
use Rattle.engine.specs.declared.answer.Answer.TheVariants as answer
use Rattle.engine.specs.declared.answer.State.{State}
use Rattle.engine.specs.declared.answer.State.TheVariants.{Ready, Held}
use Rattle.engine.specs.declared.call.Request.TheVariants as request
use Rattle.engine.specs.declared.place.Worker.{Worker}
use Rattle.engine.specs.Own.{Own}
use Rattle.engine.specs.Serving.{served, serving}

module _ (row : List Cell) (w : Worker) (s : State) where
  abbrev own : Own
  own = record { state = s; registers = w.registers; words = words_in row w.limits.lower w.limits.length }

  module _ (r : ℕ) (below : r < w.limits.length) where
    is_below : nat_lt r w.limits.length ≡ true
    is_below = grind (arith, below)

    pub looks : (word : ℕ) → fetched row (w.limits.lower + r) ≡ Ok word → served w.limits.length own (request.Look (record { 0 = r })) ≡ Ok (serving (answer.Looked (Ok word)) own)
    unfolding served
    looks word found = rw (is_below, fetched_between row w.limits r below, found) refl

    pub loads : (word : ℕ) → word < 2 ^ 30 → put_whole_answer row (w.limits.lower + r) ≡ Ok tt → served w.limits.length own (request.Load (record { 0 = r }) word) ≡ Ok (serving (answer.Loaded (Ok tt)) (record own { words = whole_put own.words r word }))
    unfolding served
    loads word fits put =
        let fits_is : nat_lt word (2 ^ 30) ≡ true = grind (arith, fits) in
        rw (is_below, fits_is, exists_between row w.limits r below, put) refl

  pub saves : (buffer : List ℕ) → write_answer buffer ≡ Ok tt → served w.limits.length own (request.Save buffer) ≡ Ok (serving (answer.Saved (Ok tt) (written w.registers buffer)) own)
  unfolding served
  saves buffer wrote = rw wrote refl

  pub restores : (bytes : List ℕ) (r : Registers) → record_read bytes ≡ Ok r → served w.limits.length own (request.Restore bytes) ≡ Ok (serving (answer.Restored (Ok tt)) (record own { state = Ready; registers = r }))
  unfolding served
  restores bytes r read = rw read refl

  pub tells : served w.limits.length own request.Tell ≡ Ok (serving (answer.Told (Ok (record { state = s; registers = w.registers }))) own)
  unfolding served
  tells = refl

-- a held worker is answered
pub answers : (row : List Cell) (w : Worker) (report : Report) (a q p : ℕ) → (nat_lt a (2 ^ 30) && nat_lt q (2 ^ 30) && nat_lt p (2 ^ 17)) ≡ true → served w.limits.length (own row w (Held report)) (request.Answer a q p)
    ≡ Ok (serving (answer.Answered (Ok tt)) (record (own row w (Held report)) { state = Ready; registers = record { a = a; q = q; b = w.registers.b; p = p } }))
unfolding served
answers row w report a q p fit = rw fit refl
