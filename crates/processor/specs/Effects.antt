-- What comes of an instruction that does not interrupt: the registers, what it puts, and where the program goes on. All puts are tried before any is done.
use Rattle.std.specs.Prelude.{ℕ, ◌+◌, Bool, if◌then◌else◌, List, [], ◌∷◌, Result, Ok}
use Rattle.words.specs.Words.{lower_half}
use Rattle.store.specs.Cells.{Cell}
use Rattle.store.specs.declared.half.Half.{Half}
use Rattle.store.specs.declared.half.Half.TheVariants.{Upper, Lower}
use Rattle.store.specs.Functions.{put_whole_answer, put_half_answer, whole_put, half_put}
use Rattle.records.specs.Registers.{Registers}
use Rattle.processor.specs.declared.effect.Next.{Next}
use Rattle.processor.specs.declared.effect.Next.TheVariants.{Onward, Skipping, Jumping}
use Rattle.processor.specs.declared.effect.Put.{Put}
use Rattle.processor.specs.declared.effect.Put.TheVariants as put
use Rattle.processor.specs.declared.report.ReferenceKind.TheVariants.{Write}
use Rattle.processor.specs.declared.report.Report.{Report}
use Rattle.processor.specs.Digits.{by_digit}
use Rattle.processor.specs.References.{refer}
use Rattle.processor.specs.Reports.{relative}
use Rattle.processor.specs.Then.{◌>>=◌}

-- a word, and a number in one half of a word, put at an address
abbrev pub whole : ℕ → ℕ → Put
whole r w = put.Whole (relative r) w

abbrev pub half : ℕ → Half → ℕ → Put
half r h x = put.Half (relative r) h x

-- the registers' own P counts for nothing: `next` decides
pub record Effect : Type 0 where
  pub registers : Registers
  pub puts : List Put
  pub next : Next

abbrev pub next_p : Next → ℕ → ℕ
next_p Onward p = p + 1
next_p Skipping p = p + 2
next_p (Jumping target) p = target

-- P + 2 if a test holds, and otherwise P + 1
abbrev pub skip_if : Bool → Next
skip_if test = if test then Skipping else Onward

-- these registers, nothing put
abbrev pub leaving : Registers → Next → Effect
leaving r next = record { registers = r; puts = []; next = next }

-- a put is tried as a reference that writes
abbrev pub put_tried : (length : ℕ) → List Cell → Put → Result (Unit {0}) Report
put_tried n words (put.Whole r w) = refer n Write r.0 (put_whole_answer words r.0)
put_tried n words (put.Half r h x) = refer n Write r.0 (put_half_answer words r.0 h)

-- all of them, in order
abbrev pub puts_tried : (length : ℕ) → List Cell → List Put → Result (Unit {0}) Report
puts_tried n words [] = Ok tt
puts_tried n words (p ∷ ps) = do
  done ← put_tried n words p
  puts_tried n words ps

-- the words with one put done
abbrev pub put_done : List Cell → Put → List Cell
put_done words (put.Whole r w) = whole_put words r.0 w
put_done words (put.Half r h x) = half_put words r.0 h x

-- and with all of them done, in order
abbrev pub puts_done : List Cell → List Put → List Cell
puts_done words [] = words
puts_done words (p ∷ ps) = puts_done (put_done words p) ps

-- what an instruction stores at an address by k: 1, 2 and 3 put a word, by its lower half in the lower half or in the upper half, or whole; 5, 6 and 7 put another word so
abbrev pub stored : ℕ → ℕ → (word other : ℕ) → List Put
stored k r word other = by_digit k
    []
    (half r Lower (lower_half word) ∷ [])
    (half r Upper (lower_half word) ∷ [])
    (whole r word ∷ [])
    []
    (half r Lower (lower_half other) ∷ [])
    (half r Upper (lower_half other) ∷ [])
    (whole r other ∷ [])
