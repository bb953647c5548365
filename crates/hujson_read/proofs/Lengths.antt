-- The standard text has the length of the text.
use Rattle.std.proofs.Common.{◌≡◌, ℕ, ◌+◌, List, [], ◌∷◌, length, Option, refl, ap, sym, ◌∙◌, length-append}
use Rattle.std.proofs.lemmas.List.{length-map}
use Rattle.hujson_read.specs.Tokens.{Token, Other, Quoted, LineComment, BlockComment, OpenString, OpenComment, token_bytes, text_of, tokens}
use Rattle.hujson_read.specs.Standard.{blanked, next_of, written, standard, standard_of}
use Rattle.hujson_read.proofs.Reading.{text_of-tokens}

length-written : (t : Token) (next : Option ℕ) → length (written t next) ≡ length (token_bytes t)
length-written (Other b) next = refl
length-written (Quoted ps) next = refl
length-written (LineComment body) next = length-map (token_bytes (LineComment body)) blanked
length-written (BlockComment body) next = length-map (token_bytes (BlockComment body)) blanked
length-written (OpenString ps cut) next = refl
length-written (OpenComment body) next = length-map (token_bytes (OpenComment body)) blanked

length-standard : (ts : List Token) → length (standard ts) ≡ length (text_of ts)
length-standard [] = refl
length-standard (t ∷ ts) =
    length-append (written t (next_of ts)) (standard ts)
    ∙ ap (λ n. n + length (standard ts)) (length-written t (next_of ts))
    ∙ ap (λ n. length (token_bytes t) + n) (length-standard ts)
    ∙ sym (length-append (token_bytes t) (text_of ts))

-- the standard text of a text has its length
pub standard_length : (text : List ℕ) → length (standard_of text) ≡ length text
unfolding standard_of
standard_length text = length-standard (tokens text) ∙ ap length (text_of-tokens text)
