-- The texts of rows that are made here.
use Rattle.std.specs.Prelude.{ℕ, List, [], ◌∷◌, ◌++◌, codes, take}
use Rattle.std.specs.Fmt.{decimal}
use Rattle.std.specs.Int.{w64, to_be_bytes}
use Rattle.hex.specs.Hex.{encode_lower}

-- a word of 64 bits in sixteen hexadecimal digits, the highest first
abbrev pub word_digits : ℕ → List ℕ
word_digits word = encode_lower (to_be_bytes w64 word)

-- each word so, one after the other
abbrev pub digits_of : List ℕ → List ℕ
digits_of [] = []
digits_of (word ∷ words) = word_digits word ++ digits_of words

-- a head, a number in decimal digits, a hyphen, and words
abbrev pub numbered_text : List ℕ → ℕ → List ℕ → List ℕ
numbered_text head number words = head ++ decimal number ++ codes "-" ++ digits_of words

-- the text of a row: its number is the row's id, and the words are random
abbrev pub row_text : List ℕ → ℕ → List ℕ → List ℕ
row_text head id words = numbered_text head id words

-- the handle of a session: its number, and the first of the random words
abbrev pub session_handle : ℕ → List ℕ → List ℕ
session_handle number words = numbered_text (codes "s") number (take 1 words)
