-- The marks of a text that tokens spell.
use Rattle.std.proofs.Common.{◌≡◌, ℕ, ◌+◌, Bool, true, false, List, [], ◌∷◌, ◌++◌, length, Some, None, arith, refl, ap, sym, ◌∙◌, subst, append_assoc, length-append}
use Rattle.hujson_read.specs.declared.fault.HujsonFault.TheVariants as fault
use Rattle.hujson_read.specs.declared.mode.Mode.TheVariants as mode
use Rattle.hujson_read.specs.declared.mark.Mark.{Mark}
use Rattle.hujson_read.specs.declared.mark.Mark.TheVariants as mark
use Rattle.hujson_read.specs.Tokens.{Piece, Plain, Escaped, Token, Other, Quoted, LineComment, BlockComment, OpenString, OpenComment, quote, backslash, slash, star, pieces_bytes, cut_bytes, token_bytes, text_of, ArePieces, IsInLine, EndsLine, IsInBlock, IsToken, AreTokens}
use Rattle.hujson_read.proofs.Marks.{Marked, Ends, Next, marked}

-- all the bytes with marks of one kind
abbrev pub each : (ℕ → Mark) → List ℕ → Marked → Marked
each kind [] ms = ms
each kind (b ∷ bs) ms = Next (kind b) (each kind bs ms)

-- the marks of a token's bytes, and then of what comes after it
abbrev pub marks_of : ℕ → Token → Marked → Marked
marks_of at (Other b) ms = Next (mark.Other b) ms
marks_of at (Quoted ps) ms = each mark.Quoted (token_bytes (Quoted ps)) ms
marks_of at (LineComment body) ms = each mark.Comment (token_bytes (LineComment body)) ms
marks_of at (BlockComment body) ms = each mark.Comment (token_bytes (BlockComment body)) ms
marks_of at (OpenString ps cut) ms = each mark.Quoted (token_bytes (OpenString ps cut)) (Ends (Some (fault.OpenString at)))
marks_of at (OpenComment body) ms = each mark.Comment (token_bytes (OpenComment body)) (Ends (Some (fault.OpenComment at)))

-- the marks of the bytes of tokens from an offset on
abbrev pub token_marks : ℕ → List Token → Marked
token_marks at [] = Ends None
token_marks at (t ∷ ts) = marks_of at t (token_marks (at + length (token_bytes t)) ts)

each-append : (kind : ℕ → Mark) (xs ys : List ℕ) (ms : Marked) → each kind (xs ++ ys) ms ≡ each kind xs (each kind ys ms)
each-append kind [] ys ms = refl
each-append kind (x ∷ xs) ys ms = ap (Next (kind x)) (each-append kind xs ys ms)

in_string : (k n s : ℕ) (ps : List Piece) (rest : List ℕ) → ArePieces ps → k + length (pieces_bytes ps ++ quote ∷ []) ≡ n →
    marked k (mode.InString s) ((pieces_bytes ps ++ quote ∷ []) ++ rest) ≡ each mark.Quoted (pieces_bytes ps ++ quote ∷ []) (marked n mode.Outside rest)
in_string k n s [] rest h e = ap (λ j. Next (mark.Quoted quote) (marked j mode.Outside rest)) e
in_string k n s (Plain b ∷ ps) rest h e = rw (h.0.0, h.0.1) (ap (Next (mark.Quoted b)) (in_string (k + 1) n s ps rest h.1 (omega arith)))
in_string k n s (Escaped b ∷ ps) rest h e =
    ap (λ ms. Next (mark.Quoted backslash) (Next (mark.Quoted b) ms)) (in_string (k + 1 + 1) n s ps rest h.1 (omega arith))

in_open_string : (k s : ℕ) (ps : List Piece) (cut : Bool) → ArePieces ps →
    marked k (mode.InString s) ((pieces_bytes ps ++ cut_bytes cut) ++ []) ≡ each mark.Quoted (pieces_bytes ps ++ cut_bytes cut) (Ends (Some (fault.OpenString s)))
in_open_string k s [] true h = refl
in_open_string k s [] false h = refl
in_open_string k s (Plain b ∷ ps) cut h = rw (h.0.0, h.0.1) (ap (Next (mark.Quoted b)) (in_open_string (k + 1) s ps cut h.1))
in_open_string k s (Escaped b ∷ ps) cut h =
    ap (λ ms. Next (mark.Quoted backslash) (Next (mark.Quoted b) ms)) (in_open_string (k + 1 + 1) s ps cut h.1)

line_over : (k : ℕ) (rest : List ℕ) → EndsLine rest → marked k mode.InLine rest ≡ marked k mode.Outside rest
line_over k [] h = refl
line_over k (b ∷ rest) h =
    let P : ℕ → Type 0 = λ c. marked k mode.InLine (c ∷ rest) ≡ marked k mode.Outside (c ∷ rest) in
    subst P (sym h) refl

in_line : (k n : ℕ) (body rest : List ℕ) → IsInLine body → EndsLine rest → k + length body ≡ n →
    marked k mode.InLine (body ++ rest) ≡ each mark.Comment body (marked n mode.Outside rest)
in_line k n [] rest h l e =
    let same : k ≡ n = omega arith in
    line_over k rest l ∙ ap (λ j. marked j mode.Outside rest) same
in_line k n (b ∷ body) rest h l e = rw h.0 (ap (Next (mark.Comment b)) (in_line (k + 1) n body rest h.1 l (omega arith)))

in_block : (k n s : ℕ) (body rest : List ℕ) → IsInBlock body (star ∷ slash ∷ rest) → k + length body + 2 ≡ n →
    marked k (mode.InBlock s) (body ++ star ∷ slash ∷ rest) ≡ each mark.Comment body (each mark.Comment (star ∷ slash ∷ []) (marked n mode.Outside rest))
in_block k n s [] rest h e =
    let same : k + 1 + 1 ≡ n = omega arith in
    ap (λ j. Next (mark.Comment star) (Next (mark.Comment slash) (marked j mode.Outside rest))) same
in_block k n s (b ∷ body) rest h e = rw h.0 (ap (Next (mark.Comment b)) (in_block (k + 1) n s body rest h.1 (omega arith)))

in_open_block : (k s : ℕ) (body : List ℕ) → IsInBlock body [] →
    marked k (mode.InBlock s) (body ++ []) ≡ each mark.Comment body (Ends (Some (fault.OpenComment s)))
in_open_block k s [] h = refl
in_open_block k s (b ∷ body) h = rw h.0 (ap (Next (mark.Comment b)) (in_open_block (k + 1) s body h.1))

-- a token that may stand there gives its marks
token_marked : (at : ℕ) (t : Token) (rest : List ℕ) → IsToken t rest →
    marked at mode.Outside (token_bytes t ++ rest) ≡ marks_of at t (marked (at + length (token_bytes t)) mode.Outside rest)
token_marked at (Other b) rest h = rw (h.no_string, h.no_line, h.no_block) refl
token_marked at (Quoted ps) rest h = ap (Next (mark.Quoted quote)) (in_string (at + 1) _ at ps rest h (omega arith))
token_marked at (LineComment body) rest h =
    ap (λ ms. Next (mark.Comment slash) (Next (mark.Comment slash) ms)) (in_line (at + 1 + 1) _ body rest h.0 h.1 (omega arith))
token_marked at (BlockComment body) rest h =
    let e : at + 1 + 1 + length body + 2 ≡ at + length (slash ∷ star ∷ (body ++ star ∷ slash ∷ [])) = omega (arith, length-append body (star ∷ slash ∷ [])) in
    ap (λ ms. Next (mark.Comment slash) (Next (mark.Comment star) ms))
    (ap (marked (at + 1 + 1) (mode.InBlock at)) (append_assoc body (star ∷ slash ∷ []) rest)
    ∙ in_block (at + 1 + 1) _ at body rest h e
    ∙ sym (each-append mark.Comment body (star ∷ slash ∷ []) _))
token_marked at (OpenString ps cut) rest h =
    ap (λ r. marked at mode.Outside (token_bytes (OpenString ps cut) ++ r)) h.1
    ∙ ap (Next (mark.Quoted quote)) (in_open_string (at + 1) at ps cut h.0)
token_marked at (OpenComment body) rest h =
    ap (λ r. marked at mode.Outside (token_bytes (OpenComment body) ++ r)) h.1
    ∙ ap (λ ms. Next (mark.Comment slash) (Next (mark.Comment star) ms)) (in_open_block (at + 1 + 1) at body h.0)

-- the marks of a text that tokens spell are theirs
pub marked-text_of : (at : ℕ) (ts : List Token) → AreTokens ts → marked at mode.Outside (text_of ts) ≡ token_marks at ts
marked-text_of at [] h = refl
marked-text_of at (t ∷ ts) h =
    token_marked at t (text_of ts) h.0
    ∙ ap (marks_of at t) (marked-text_of (at + length (token_bytes t)) ts h.1)
