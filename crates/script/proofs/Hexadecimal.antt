-- Words that decode are those of pairs of hexadecimal digits.
use Rattle.std.proofs.Common.{◌≡◌, ℕ, ◌%◌, Bool, true, false, List, length, Ok, Err, Result, refl, sym, ap, ◌∙◌, arith}
use Rattle.std.specs.Char.{is_ascii_hexdigit}
use Rattle.std.specs.List.{list_all}
use Rattle.std.specs.Prelude.{is_ok}
use Rattle.std.proofs.lemmas.Bool.Decides.{nat_tests}
use Rattle.std.proofs.lemmas.List.Sums.{AllPass-from_list_all, list_all-from_AllPass}
use Rattle.hex.specs.Hex.{decode_of, is_hex_digit}
use Rattle.hex.specs.declared.error.FromHexError.{FromHexError}
use Rattle.hex.proofs.HexLemmas.{decode_of-ok, decode_of-digits}

pub same_digits : (c : ℕ) → is_ascii_hexdigit c ≡ is_hex_digit c
same_digits c = grind (arith, nat_tests)

decodes : (w : List ℕ) → length w % 2 ≡ 0 → list_all is_hex_digit w ≡ true → is_ok (decode_of w) ≡ true
decodes w even h = let r = decode_of-digits w even (AllPass-from_list_all is_hex_digit w h) in ap is_ok r.1

only_digits : (w : List ℕ) (r : Result (List ℕ) FromHexError) → decode_of w ≡ r → list_all is_hex_digit w ≡ false → is_ok r ≡ false
only_digits w (Ok bytes) e h = cc (sym h ∙ list_all-from_AllPass is_hex_digit w (decode_of-ok w bytes e).1)
only_digits w (Err error) e h = refl

-- an even number of bytes decodes where each is a digit
pub even : (w : List ℕ) (b : Bool) → length w % 2 ≡ 0 → list_all is_hex_digit w ≡ b → b ≡ is_ok (decode_of w)
even w true h all = sym (decodes w h all)
even w false h all = sym (only_digits w (decode_of w) refl all)
