-- How refusals and what calls answer are written.
use Rattle.std.specs.Prelude.{ℕ, ◌-◌, ◌/◌, ◌%◌, false, List, [], ◌∷◌, ◌++◌, length, replicate, Option, Some, None, Result, Ok, Err, codes, decimal}
use Rattle.std.specs.Fmt.{digits, digit_glyph}
use Rattle.std.specs.List.{flat_map}
use Rattle.words.specs.Octal.{octal_word}
use Rattle.store.specs.Text.{half_text}
use Rattle.store.specs.declared.half.Half.{Half}
use Rattle.records.specs.Registers.{Registers}
use Rattle.records.specs.Text.{registers_text}
use Rattle.processor.specs.Text.{ran_text, report_text}
use Rattle.engine.specs.declared.answer.Answer.{Answer}
use Rattle.engine.specs.declared.answer.Answer.TheVariants as answer
use Rattle.engine.specs.declared.answer.State.{State}
use Rattle.engine.specs.declared.answer.State.TheVariants.{Ready, Held}
use Rattle.engine.specs.declared.answer.Told.{Told}
use Rattle.engine.specs.declared.place.Span.{Span}
use Rattle.engine.specs.declared.refusal.Refusal.{Refusal}
use Rattle.engine.specs.Refusals.{number_of, offset_of, half_of}

-- what a refusal names besides its number
abbrev pub offset_told : Option ℕ → List ℕ
offset_told None = []
offset_told (Some offset) = codes ", offset " ++ decimal offset

abbrev pub half_told : Option Half → List ℕ
half_told None = []
half_told (Some half) = codes ", " ++ half_text half

abbrev pub refusal_text : Refusal → List ℕ
refusal_text refusal = codes "refused " ++ (decimal (number_of refusal) ++ (offset_told (offset_of refusal) ++ half_told (half_of refusal)))

abbrev pub state_text : State → Registers → List ℕ
state_text Ready registers = codes "ready, " ++ registers_text registers
state_text (Held report) registers = codes "held, " ++ (registers_text registers ++ (codes ", " ++ report_text report))

abbrev pub told_text : Told → List ℕ
told_text told = state_text told.state told.registers

abbrev pub span_text : Span → List ℕ
span_text span = codes "lower " ++ (decimal span.lower.0 ++ (codes ", length " ++ decimal span.length))

-- two hexadecimal digits, with small letters
abbrev pub byte_text : ℕ → List ℕ
byte_text byte = digit_glyph false (byte / 16) ∷ digit_glyph false (byte % 16) ∷ []

unfoldable pub bytes_text : List ℕ → List ℕ
bytes_text bytes = flat_map byte_text bytes

-- octal digits, at least two
abbrev pub address_text : ℕ → List ℕ
address_text n = replicate (2 - length (digits 8 false n)) 48 ++ digits 8 false n

-- the text of what a call answers that is taken, or the refusal's
abbrev pub result_text : {X : Type 0} → (X → List ℕ) → Result X Refusal → List ℕ
result_text text (Ok x) = text x
result_text text (Err refusal) = refusal_text refusal

abbrev pub taken_text : Unit {0} → List ℕ
taken_text done = codes "taken"

abbrev pub answer_text : Answer (List ℕ) → List ℕ
answer_text (answer.Admitted r) = result_text taken_text r
answer_text (answer.Loaded r) = result_text taken_text r
answer_text (answer.Looked r) = result_text octal_word r
answer_text (answer.Ran r) = result_text ran_text r
answer_text (answer.Answered r) = result_text taken_text r
answer_text (answer.Saved r buffer) = result_text (λ done. bytes_text buffer) r
answer_text (answer.Restored r) = result_text taken_text r
answer_text (answer.Told r) = result_text told_text r
answer_text (answer.Retired r) = result_text taken_text r
answer_text (answer.Spanned r) = result_text span_text r
answer_text (answer.FixedAddress r) = result_text (λ a. address_text a.0) r
