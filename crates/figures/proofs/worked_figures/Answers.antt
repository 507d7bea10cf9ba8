use Rattle.std.proofs.Common.{refl, sym, ◌∙◌}
use Rattle.std.specs.Int.Count.{ones}
use Rattle.words.specs.Bits.{of_bits}
use Rattle.words.specs.Extension.{extended}
use Rattle.records.specs.Record.{record_of, record_read, registers_in, too_wide}
use Rattle.words.specs.Logic.{product, has_odd_ones, ones_among}
use Rattle.processor.specs.Computations.{computed}
use Rattle.processor.specs.Repertoire.{operation_of}
use Rattle.processor.specs.Run.{run}
use Rattle.processor.specs.Skips.{skip_met, product_skip_met}
use Rattle.processor.specs.Step.{step, tried, instruction_effect}
use Rattle.engine.specs.Exchanges.{after, exchanges}
use Rattle.engine.specs.Isolation.{nothing_after_retire, exchanges_with}
use Rattle.engine.specs.FixedAddress.{fixed_address}
use Rattle.engine.specs.Performing.{performed}
use Rattle.engine.specs.Serving.{served}
use Rattle.words.specs.Scale.{scale_factor, turns_within}
use Rattle.words.specs.Shifts.{shifted_right_with_sign, turned_left}
use Rattle.words.specs.Sums.{difference, sum}
use Rattle.figures.specs.Histories.{alone_admit, alone_calls, alone_row, its_terms}
use Rattle.figures.proofs.worked_figures.Goals as goal

pub returns-clause-three_minus_five : goal.returns-clause-three_minus_five
unfolding difference
returns-clause-three_minus_five c = refl

pub returns-clause-five_and_minus_five : goal.returns-clause-five_and_minus_five
unfolding sum difference
returns-clause-five_and_minus_five c = refl

pub returns-clause-minus_zero_twice : goal.returns-clause-minus_zero_twice
unfolding sum difference
returns-clause-minus_zero_twice c = refl

pub returns-clause-largest_and_one : goal.returns-clause-largest_and_one
unfolding sum difference
returns-clause-largest_and_one c = refl

pub returns-clause-scale_factor_of_one : goal.returns-clause-scale_factor_of_one
unfolding scale_factor turns_within turned_left of_bits
returns-clause-scale_factor_of_one c = refl

pub returns-clause-one_scaled : goal.returns-clause-one_scaled
unfolding scale_factor turns_within turned_left of_bits
returns-clause-one_scaled c = refl

pub returns-clause-sign_filled : goal.returns-clause-sign_filled
unfolding shifted_right_with_sign of_bits
returns-clause-sign_filled c = refl

pub returns-clause-spoiled_three : goal.returns-clause-spoiled_three
unfolding ones
returns-clause-spoiled_three c = refl

pub returns-clause-good_zero : goal.returns-clause-good_zero
unfolding ones
returns-clause-good_zero c = refl

pub returns-clause-good_three : goal.returns-clause-good_three
unfolding ones
returns-clause-good_three c = refl

pub returns-clause-adding : goal.returns-clause-adding
unfolding exchanges performed served run step tried instruction_effect operation_of skip_met product_skip_met computed sum difference extended of_bits
returns-clause-adding c = refl

pub returns-clause-adding_in_7_words : goal.returns-clause-adding_in_7_words
unfolding exchanges performed served run step tried instruction_effect operation_of skip_met product_skip_met computed sum difference extended of_bits
returns-clause-adding_in_7_words c = refl

pub returns-clause-two_steps : goal.returns-clause-two_steps
unfolding exchanges performed served run step tried instruction_effect operation_of skip_met product_skip_met computed sum difference extended of_bits
returns-clause-two_steps c = refl

pub returns-clause-two_steps_in_7_words : goal.returns-clause-two_steps_in_7_words
unfolding exchanges performed served run step tried instruction_effect operation_of skip_met product_skip_met computed sum difference extended of_bits
returns-clause-two_steps_in_7_words c = refl

pub returns-clause-jumping : goal.returns-clause-jumping
unfolding exchanges performed served run step tried instruction_effect operation_of skip_met product_skip_met computed sum difference extended of_bits
returns-clause-jumping c = refl

pub returns-clause-illegal : goal.returns-clause-illegal
unfolding exchanges performed served run step tried instruction_effect operation_of skip_met product_skip_met computed sum difference extended of_bits
returns-clause-illegal c = refl

pub returns-clause-saved : goal.returns-clause-saved
unfolding exchanges performed served record_of
returns-clause-saved c = refl

pub returns-clause-to_the_last_cell : goal.returns-clause-to_the_last_cell
unfolding exchanges performed
returns-clause-to_the_last_cell c = refl

pub returns-clause-side_by_side : goal.returns-clause-side_by_side
unfolding exchanges performed
returns-clause-side_by_side c = refl

pub returns-clause-scaling : goal.returns-clause-scaling
unfolding exchanges performed served run step tried instruction_effect operation_of skip_met product_skip_met computed sum difference extended of_bits scale_factor turns_within turned_left
returns-clause-scaling c = refl

pub returns-clause-shifting : goal.returns-clause-shifting
unfolding exchanges performed served run step tried instruction_effect operation_of skip_met product_skip_met computed sum difference extended of_bits shifted_right_with_sign
returns-clause-shifting c = refl

pub returns-clause-counting : goal.returns-clause-counting
unfolding exchanges performed served run step tried instruction_effect operation_of skip_met product_skip_met computed sum difference extended of_bits product has_odd_ones ones_among
returns-clause-counting c = refl

pub returns-clause-wide_field : goal.returns-clause-wide_field
unfolding exchanges performed served record_of record_read registers_in too_wide
returns-clause-wide_field c = refl

pub returns-clause-spoiled_look : goal.returns-clause-spoiled_look
unfolding exchanges performed served
returns-clause-spoiled_look c = refl

pub returns-clause-life : goal.returns-clause-life
unfolding exchanges performed served fixed_address run step tried instruction_effect operation_of skip_met product_skip_met record_of record_read registers_in too_wide
returns-clause-life c = refl

pub returns-clause-refusals : goal.returns-clause-refusals
unfolding exchanges performed served fixed_address run step tried instruction_effect operation_of skip_met product_skip_met record_of record_read registers_in too_wide
returns-clause-refusals c = refl

pub returns-clause-fixed_addresses : goal.returns-clause-fixed_addresses
unfolding exchanges performed served fixed_address run step tried instruction_effect operation_of skip_met product_skip_met record_of record_read registers_in too_wide
returns-clause-fixed_addresses c = refl

pub returns-clause-alone : goal.returns-clause-alone
unfolding exchanges fixed_address performed served run step tried instruction_effect operation_of skip_met product_skip_met computed extended of_bits record_of record_read registers_in too_wide
returns-clause-alone c = refl

pub returns-clause-beside : goal.returns-clause-beside
unfolding exchanges fixed_address performed served run step tried instruction_effect operation_of skip_met product_skip_met computed extended of_bits record_of record_read registers_in too_wide
returns-clause-beside c = refl

pub returns-clause-goes_on : goal.returns-clause-goes_on
unfolding exchanges fixed_address performed served run step tried instruction_effect operation_of skip_met product_skip_met computed extended of_bits record_of record_read registers_in too_wide
returns-clause-goes_on c = refl

pub returns-clause-with_it : goal.returns-clause-with_it
unfolding exchanges_with
returns-clause-with_it c = refl

pub returns-clause-calls_for : goal.returns-clause-calls_for
unfolding exchanges_with
returns-clause-calls_for c = refl

pub returns-clause-answers_to : goal.returns-clause-answers_to
unfolding exchanges_with
returns-clause-answers_to c = refl

pub returns-clause-found_alone : goal.returns-clause-found_alone
unfolding after performed served
returns-clause-found_alone c = refl

pub returns-clause-found_beside : goal.returns-clause-found_beside
unfolding after performed served
returns-clause-found_beside c = refl

pub returns-clause-told_alone : goal.returns-clause-told_alone
unfolding after fixed_address performed served run step tried instruction_effect operation_of skip_met product_skip_met computed extended of_bits record_of record_read registers_in too_wide
returns-clause-told_alone c = refl

pub returns-clause-told_beside : goal.returns-clause-told_beside
unfolding after fixed_address performed served run step tried instruction_effect operation_of skip_met product_skip_met computed extended of_bits record_of record_read registers_in too_wide
returns-clause-told_beside c = refl

pub returns-clause-words_alone : goal.returns-clause-words_alone
unfolding after fixed_address performed served run step tried instruction_effect operation_of skip_met product_skip_met computed extended of_bits record_of record_read registers_in too_wide
returns-clause-words_alone c = refl

pub returns-clause-words_beside : goal.returns-clause-words_beside
unfolding after fixed_address performed served run step tried instruction_effect operation_of skip_met product_skip_met computed extended of_bits record_of record_read registers_in too_wide
returns-clause-words_beside c = refl

pub returns-clause-isolated : goal.returns-clause-isolated
unfolding exchanges_with nothing_after_retire
returns-clause-isolated c = λ h b isolates admits found.
    let both = isolates 0 its_terms alone_admit b (returns-clause-alone c) admits (returns-clause-found_alone c ∙ sym found) in (
      λ k same. sym (both.0 k (sym same)),
      λ ends same.
          let seen = both.1 refl ends (sym same) in
          (sym seen.0 ∙ returns-clause-told_alone c, sym seen.1 ∙ returns-clause-words_alone c),
    )

pub returns-clause-isolation : goal.returns-clause-isolation
returns-clause-isolation c = λ cells store calls law. law alone_row store alone_calls calls

pub returns-clause-ends : goal.returns-clause-ends
unfolding nothing_after_retire
returns-clause-ends c = refl

pub returns-clause-ends_at_retire : goal.returns-clause-ends_at_retire
unfolding nothing_after_retire
returns-clause-ends_at_retire c = refl

pub returns-clause-goes_on_after_retire : goal.returns-clause-goes_on_after_retire
unfolding nothing_after_retire
returns-clause-goes_on_after_retire c = refl
