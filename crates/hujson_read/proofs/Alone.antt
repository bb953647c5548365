-- No other tokens that may stand in a text spell it.
use Rattle.std.proofs.Common.{◌≡◌, ℕ, Bool, true, false, List, [], ◌∷◌, ◌++◌, refl, ap, sym, ◌∙◌, subst, append_assoc, append-nil}
use Rattle.hujson_read.specs.Tokens.{Piece, Plain, Escaped, Token, Other, Quoted, LineComment, BlockComment, OpenString, OpenComment, Nothing, InString, InLine, InBlock, quote, slash, star, line_feed, pieces_bytes, cut_bytes, token_bytes, text_of, ends_block, IsOther, ArePieces, IsInLine, EndsLine, IsInBlock, IsToken, AreTokens, tokens_from, tokens, IsSpelled}
use Rattle.hujson_read.specs.Standard.{standard, first_fault, standard_of, fault_of}
use Rattle.hujson_read.proofs.Reading.{tokens_stand, text_of-tokens}

other_first : (b : ℕ) (rest : List ℕ) → IsOther b rest → tokens_from Nothing (b ∷ rest) ≡ Other b ∷ tokens_from Nothing rest
unfolding tokens_from
other_first b [] h = rw h.no_string refl
other_first b (c ∷ rest) h = rw (h.no_string, h.no_line, h.no_block) refl

string_first : (rest : List ℕ) → tokens_from Nothing (quote ∷ rest) ≡ tokens_from (InString [] false) rest
unfolding tokens_from
string_first [] = refl
string_first (c ∷ rest) = refl

in_string : (before ps : List Piece) (rest : List ℕ) → ArePieces ps →
    tokens_from (InString before false) ((pieces_bytes ps ++ quote ∷ []) ++ rest) ≡ Quoted (before ++ ps) ∷ tokens_from Nothing rest
unfolding tokens_from
in_string before [] rest h = sym (ap (λ x. Quoted x ∷ tokens_from Nothing rest) (append-nil before))
in_string before (Plain b ∷ ps) rest h =
    rw (h.0.0, h.0.1) (in_string (before ++ Plain b ∷ []) ps rest h.1 ∙ ap (λ x. Quoted x ∷ tokens_from Nothing rest) (append_assoc before (Plain b ∷ []) ps))
in_string before (Escaped b ∷ ps) rest h =
    in_string (before ++ Escaped b ∷ []) ps rest h.1 ∙ ap (λ x. Quoted x ∷ tokens_from Nothing rest) (append_assoc before (Escaped b ∷ []) ps)

in_open_string : (before ps : List Piece) (cut : Bool) → ArePieces ps →
    tokens_from (InString before false) ((pieces_bytes ps ++ cut_bytes cut) ++ []) ≡ OpenString (before ++ ps) cut ∷ []
unfolding tokens_from
in_open_string before [] true h = sym (ap (λ x. OpenString x true ∷ []) (append-nil before))
in_open_string before [] false h = sym (ap (λ x. OpenString x false ∷ []) (append-nil before))
in_open_string before (Plain b ∷ ps) cut h =
    rw (h.0.0, h.0.1) (in_open_string (before ++ Plain b ∷ []) ps cut h.1 ∙ ap (λ x. OpenString x cut ∷ []) (append_assoc before (Plain b ∷ []) ps))
in_open_string before (Escaped b ∷ ps) cut h =
    in_open_string (before ++ Escaped b ∷ []) ps cut h.1 ∙ ap (λ x. OpenString x cut ∷ []) (append_assoc before (Escaped b ∷ []) ps)

line_over : (body rest : List ℕ) → EndsLine rest → tokens_from (InLine body) rest ≡ LineComment body ∷ tokens_from Nothing rest
unfolding tokens_from
line_over body [] h = refl
line_over body (b ∷ rest) h =
    let P : ℕ → Type 0 = λ c. tokens_from (InLine body) (c ∷ rest) ≡ LineComment body ∷ tokens_from Nothing (c ∷ rest) in
    let other : IsOther line_feed rest = record { no_string = refl; no_line = refl; no_block = refl } in
    subst P (sym h) (sym (ap (λ ts. LineComment body ∷ ts) (other_first line_feed rest other)))

in_line : (before body rest : List ℕ) → IsInLine body → EndsLine rest →
    tokens_from (InLine before) (body ++ rest) ≡ LineComment (before ++ body) ∷ tokens_from Nothing rest
unfolding tokens_from
in_line before [] rest h l = line_over before rest l ∙ sym (ap (λ x. LineComment x ∷ tokens_from Nothing rest) (append-nil before))
in_line before (b ∷ body) rest h l =
    rw h.0 (in_line (before ++ b ∷ []) body rest h.1 l ∙ ap (λ x. LineComment x ∷ tokens_from Nothing rest) (append_assoc before (b ∷ []) body))

block_more : (before : List ℕ) (b : ℕ) (rest : List ℕ) → ends_block b rest ≡ false → tokens_from (InBlock before) (b ∷ rest) ≡ tokens_from (InBlock (before ++ b ∷ [])) rest
unfolding tokens_from
block_more before b [] h = refl
block_more before b (c ∷ rest) h = rw h refl

in_block : (before body rest : List ℕ) → IsInBlock body (star ∷ slash ∷ rest) →
    tokens_from (InBlock before) (body ++ star ∷ slash ∷ rest) ≡ BlockComment (before ++ body) ∷ tokens_from Nothing rest
unfolding tokens_from
in_block before [] rest h = sym (ap (λ x. BlockComment x ∷ tokens_from Nothing rest) (append-nil before))
in_block before (b ∷ body) rest h =
    block_more before b (body ++ star ∷ slash ∷ rest) h.0
    ∙ in_block (before ++ b ∷ []) body rest h.1
    ∙ ap (λ x. BlockComment x ∷ tokens_from Nothing rest) (append_assoc before (b ∷ []) body)

in_open_block : (before body : List ℕ) → IsInBlock body [] → tokens_from (InBlock before) (body ++ []) ≡ OpenComment (before ++ body) ∷ []
unfolding tokens_from
in_open_block before [] h = sym (ap (λ x. OpenComment x ∷ []) (append-nil before))
in_open_block before (b ∷ body) h =
    block_more before b (body ++ []) h.0
    ∙ in_open_block (before ++ b ∷ []) body h.1
    ∙ ap (λ x. OpenComment x ∷ []) (append_assoc before (b ∷ []) body)

-- a token that may stand there is the first of the text's
token_first : (t : Token) (rest : List ℕ) → IsToken t rest → tokens_from Nothing (token_bytes t ++ rest) ≡ t ∷ tokens_from Nothing rest
unfolding tokens_from
token_first (Other b) rest h = other_first b rest h
token_first (Quoted ps) rest h = string_first ((pieces_bytes ps ++ quote ∷ []) ++ rest) ∙ in_string [] ps rest h
token_first (LineComment body) rest h = in_line [] body rest h.0 h.1
token_first (BlockComment body) rest h =
    ap (tokens_from (InBlock [])) (append_assoc body (star ∷ slash ∷ []) rest) ∙ in_block [] body rest h
token_first (OpenString ps cut) rest h =
    let P : List ℕ → Type 0 = λ r. tokens_from Nothing (token_bytes (OpenString ps cut) ++ r) ≡ OpenString ps cut ∷ tokens_from Nothing r in
    subst P (sym h.1) (string_first ((pieces_bytes ps ++ cut_bytes cut) ++ []) ∙ in_open_string [] ps cut h.0)
token_first (OpenComment body) rest h =
    let P : List ℕ → Type 0 = λ r. tokens_from Nothing (token_bytes (OpenComment body) ++ r) ≡ OpenComment body ∷ tokens_from Nothing r in
    subst P (sym h.1) (in_open_block [] body h.0)

tokens-text_of : (ts : List Token) → AreTokens ts → tokens (text_of ts) ≡ ts
unfolding tokens tokens_from
tokens-text_of [] h = refl
tokens-text_of (t ∷ ts) h = token_first t (text_of ts) h.0 ∙ ap (λ x. t ∷ x) (tokens-text_of ts h.1)

-- a text is spelled by its tokens and by no others
pub text_is_spelled : (text : List ℕ) → IsSpelled text
text_is_spelled text = record {
  may_stand = tokens_stand text;
  spelled = text_of-tokens text;
  alone = λ ts h e. sym (ap tokens e) ∙ tokens-text_of ts h;
}

-- what tokens result in, the text that they spell results in
pub standard_of-text_of : (ts : List Token) → AreTokens ts → standard_of (text_of ts) ≡ standard ts
unfolding standard_of
standard_of-text_of ts h = ap standard (tokens-text_of ts h)

pub fault_of-text_of : (ts : List Token) → AreTokens ts → fault_of (text_of ts) ≡ first_fault ts
unfolding fault_of
fault_of-text_of ts h = ap first_fault (tokens-text_of ts h)
