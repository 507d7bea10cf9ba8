-- What the formats of bytes and of addresses write.
use Rattle.std.proofs.Common.{ℕ, ◌≡◌, ◌+◌, ◌-◌, ◌^◌, ◌<◌, false, List, [], ◌++◌, length, get_or, take, refl, sym, ap, ◌∙◌, append-nil, arith}
use Rattle.std.proofs.lemmas.Fmt.{hex_byte}
use Rattle.std.proofs.lemmas.List.{flat_map_more, take_more}
use Rattle.std.specs.Fmt.{digits, char_count, padded_integral, format_spec}
use Rattle.engine.specs.Text.{address_text, byte_text, bytes_text}

pub padded_address : (n : ℕ) → padded_integral (format_spec 32 0 4 2 (2 ^ 64 - 1)) false [] (digits 8 false n) ≡ address_text n
unfolding padded_integral char_count
padded_address n =
    let text : List ℕ = digits 8 false n in
    let same : 2 - length text - 0 - 0 ≡ 2 - length text = omega arith in
    rw (append-nil text, same)

pub no_bytes : bytes_text [] ≡ []
unfolding bytes_text
no_bytes = refl

pub one_byte_more : (bytes : List ℕ) (i : ℕ) → i < length bytes → get_or bytes i 0 < 256
    → bytes_text (take i bytes) ++ padded_integral (format_spec 32 0 4 2 (2 ^ 64 - 1)) false [] (digits 16 false (get_or bytes i 0)) ≡ bytes_text (take (i + 1) bytes)
unfolding bytes_text
one_byte_more bytes i within fits =
    ap (λ l. bytes_text (take i bytes) ++ l) (hex_byte false (get_or bytes i 0) fits)
    ∙ flat_map_more byte_text [] (take i bytes) (get_or bytes i 0)
    ∙ ap bytes_text (sym (take_more bytes i 0 within))
