-- The tokens of a text may stand in it, and spell it.
use Rattle.std.proofs.Common.{◌≡◌, ℕ, ◌==◌, ◌&&◌, Bool, true, false, cond, List, [], ◌∷◌, ◌++◌, refl, ap, sym, ◌∙◌, subst, append_assoc, append-nil}
use Rattle.std.proofs.lemmas.Bool.{and_parts, eqb-true}
use Rattle.hujson_read.specs.Tokens.{Piece, Plain, Escaped, Token, Other, Quoted, LineComment, BlockComment, Begun, Nothing, InString, InLine, InBlock, quote, backslash, slash, star, line_feed, piece_bytes, pieces_bytes, cut_bytes, text_of, ends_block, IsOther, IsPiece, ArePieces, IsInLine, IsInBlock, AreTokens, tokens_from, tokens}

-- a choice of two values has what both have
pub chosen : {X : Type 0} (P : X → Type 0) (b : Bool) (x y : X) → (b ≡ true → P x) → (b ≡ false → P y) → P (cond b x y)
chosen P true x y f g = f refl
chosen P false x y f g = g refl

pieces_bytes-push : (ps : List Piece) (p : Piece) → pieces_bytes (ps ++ p ∷ []) ≡ pieces_bytes ps ++ piece_bytes p
pieces_bytes-push [] p = append-nil (piece_bytes p)
pieces_bytes-push (q ∷ ps) p = ap (λ bs. piece_bytes q ++ bs) (pieces_bytes-push ps p) ∙ sym (append_assoc (piece_bytes q) (pieces_bytes ps) (piece_bytes p))

pieces_push : (ps : List Piece) (p : Piece) → ArePieces ps → IsPiece p → ArePieces (ps ++ p ∷ [])
pieces_push [] p h k = (k, tt)
pieces_push (q ∷ ps) p h k = (h.0, pieces_push ps p h.1 k)

line_push : (body : List ℕ) (b : ℕ) → IsInLine body → (b == line_feed) ≡ false → IsInLine (body ++ b ∷ [])
line_push [] b h k = (k, tt)
line_push (c ∷ body) b h k = (h.0, line_push body b h.1 k)

block_push : (body : List ℕ) (b : ℕ) (after : List ℕ) → IsInBlock body (b ∷ after) → ends_block b after ≡ false → IsInBlock (body ++ b ∷ []) after
block_push [] b after h k = (k, tt)
block_push (c ∷ body) b after h k = (rw (append_assoc body (b ∷ []) after) h.0, block_push body b after h.1 k)

-- what has begun, as it is spelled
abbrev begun_bytes : Begun → List ℕ
begun_bytes Nothing = []
begun_bytes (InString ps cut) = quote ∷ (pieces_bytes ps ++ cut_bytes cut)
begun_bytes (InLine body) = slash ∷ slash ∷ body
begun_bytes (InBlock body) = slash ∷ star ∷ body

-- what has begun may stand before the rest
abbrev IsBegun : Begun → List ℕ → Type 0
IsBegun Nothing rest = Unit {0}
IsBegun (InString ps cut) rest = ArePieces ps
IsBegun (InLine body) rest = IsInLine body
IsBegun (InBlock body) rest = IsInBlock body rest

-- the tokens may stand in a text, and spell what has begun and the rest
record Reads (begun : Begun) (rest : List ℕ) (ts : List Token) : Type 0 where
  whole : text_of ts ≡ begun_bytes begun ++ rest
  stand : AreTokens ts

block_other : (b : ℕ) → ends_block b [] ≡ false
block_other b = elim (b == star) as (λ k. (k && false) ≡ false) [ true ↦ refl | false ↦ refl ]

-- each step of the reading, at the byte that it tests
string_begins : (rest : List ℕ) (ts : List Token) (b : ℕ) → quote ≡ b → Reads (InString [] false) rest ts → Reads Nothing (b ∷ rest) ts
string_begins rest ts b e r = subst (λ k. Reads Nothing (k ∷ rest) ts) e (record { whole = r.whole; stand = r.stand })

string_ends : (ps : List Piece) (rest : List ℕ) (ts : List Token) (b : ℕ) → quote ≡ b → ArePieces ps → Reads Nothing rest ts → Reads (InString ps false) (b ∷ rest) (Quoted ps ∷ ts)
string_ends ps rest ts b e h r =
    let P : ℕ → Type 0 = λ k. Reads (InString ps false) (k ∷ rest) (Quoted ps ∷ ts) in
    subst P e (record {
      whole = ap (λ x. quote ∷ ((pieces_bytes ps ++ quote ∷ []) ++ x)) r.whole
          ∙ ap (λ x. quote ∷ x) (append_assoc (pieces_bytes ps) (quote ∷ []) rest)
          ∙ sym (ap (λ x. quote ∷ (x ++ quote ∷ rest)) (append-nil (pieces_bytes ps)));
      stand = (h, r.stand);
    })

backslash_begins : (ps : List Piece) (rest : List ℕ) (ts : List Token) (b : ℕ) → backslash ≡ b → Reads (InString ps true) rest ts → Reads (InString ps false) (b ∷ rest) ts
backslash_begins ps rest ts b e r =
    let P : ℕ → Type 0 = λ k. Reads (InString ps false) (k ∷ rest) ts in
    subst P e (record { whole = r.whole ∙ simp (append_assoc, append-nil); stand = r.stand })

line_ends : (body rest : List ℕ) (ts : List Token) (b : ℕ) → line_feed ≡ b → IsInLine body → Reads Nothing rest ts → Reads (InLine body) (b ∷ rest) (LineComment body ∷ Other b ∷ ts)
line_ends body rest ts b e h r =
    let P : ℕ → Type 0 = λ k. Reads (InLine body) (k ∷ rest) (LineComment body ∷ Other k ∷ ts) in
    let other : IsOther line_feed (text_of ts) = record { no_string = refl; no_line = refl; no_block = refl } in
    subst P e (record { whole = ap (λ x. slash ∷ slash ∷ (body ++ line_feed ∷ x)) r.whole; stand = ((h, refl), (other, r.stand)) })

other_stands : (b : ℕ) (rest : List ℕ) (ts : List Token) → IsOther b rest → Reads Nothing rest ts → Reads Nothing (b ∷ rest) (Other b ∷ ts)
other_stands b rest ts h r = record { whole = ap (λ x. b ∷ x) r.whole; stand = (subst (IsOther b) (sym r.whole) h, r.stand) }

block_ends : (body rest : List ℕ) (ts : List Token) (b c : ℕ) → star ≡ b → slash ≡ c → IsInBlock body (b ∷ c ∷ rest) → Reads Nothing rest ts → Reads (InBlock body) (b ∷ c ∷ rest) (BlockComment body ∷ ts)
block_ends body rest ts b c e f h r =
    let P : ℕ → Type 0 = λ k. IsInBlock body (k ∷ c ∷ rest) → Reads (InBlock body) (k ∷ c ∷ rest) (BlockComment body ∷ ts) in
    let Q : ℕ → Type 0 = λ k. IsInBlock body (star ∷ k ∷ rest) → Reads (InBlock body) (star ∷ k ∷ rest) (BlockComment body ∷ ts) in
    subst P e (subst Q f (λ d. record {
      whole = ap (λ x. slash ∷ star ∷ ((body ++ star ∷ slash ∷ []) ++ x)) r.whole
          ∙ ap (λ x. slash ∷ star ∷ x) (append_assoc body (star ∷ slash ∷ []) rest);
      stand = (subst (λ x. IsInBlock body (star ∷ slash ∷ x)) (sym r.whole) d, r.stand);
    })) h

comment_begins : (rest : List ℕ) (ts : List Token) (b c m n : ℕ) (begun : Begun) → begun_bytes begun ≡ m ∷ n ∷ [] → m ≡ b → n ≡ c → Reads begun rest ts → Reads Nothing (b ∷ c ∷ rest) ts
comment_begins rest ts b c m n begun s e f r =
    record { whole = r.whole ∙ ap (λ x. x ++ rest) s ∙ cc; stand = r.stand }

-- what is read may stand there, and spells the text
reads : (begun : Begun) (rest : List ℕ) → IsBegun begun rest → Reads begun rest (tokens_from begun rest)
unfolding tokens_from
reads Nothing [] h = record { whole = refl; stand = tt }
reads Nothing (b ∷ []) h =
    chosen (Reads Nothing (b ∷ [])) (b == quote) _ _
    (λ e. string_begins [] _ b (sym (eqb-true b quote e)) (record { whole = refl; stand = ((tt, refl), tt) }))
    (λ e. other_stands b [] [] (record { no_string = e; no_line = nothing_after b; no_block = nothing_after b }) (record { whole = refl; stand = tt }))
  where
    nothing_after : (k : ℕ) → (k == slash && false) ≡ false
    nothing_after k = elim (k == slash) as (λ t. (t && false) ≡ false) [ true ↦ refl | false ↦ refl ]
reads Nothing (b ∷ c ∷ rest) h =
    chosen (Reads Nothing (b ∷ c ∷ rest)) (b == quote) _ _
    (λ e. string_begins (c ∷ rest) _ b (sym (eqb-true b quote e)) (reads (InString [] false) (c ∷ rest) tt))
    (λ no_string. chosen (Reads Nothing (b ∷ c ∷ rest)) (b == slash && c == slash) _ _
    (λ e. let f = and_parts (b == slash) (c == slash) e in comment_begins rest _ b c slash slash (InLine []) refl (sym (eqb-true b slash f.0)) (sym (eqb-true c slash f.1)) (reads (InLine []) rest tt))
    (λ no_line. chosen (Reads Nothing (b ∷ c ∷ rest)) (b == slash && c == star) _ _
    (λ e. let f = and_parts (b == slash) (c == star) e in comment_begins rest _ b c slash star (InBlock []) refl (sym (eqb-true b slash f.0)) (sym (eqb-true c star f.1)) (reads (InBlock []) rest tt))
    (λ no_block. other_stands b (c ∷ rest) _ (record { no_string = no_string; no_line = no_line; no_block = no_block }) (reads Nothing (c ∷ rest) tt))))
reads (InString ps cut) [] h = record { whole = refl; stand = ((h, refl), tt) }
reads (InString ps true) (b ∷ rest) h =
    let r = reads (InString (ps ++ Escaped b ∷ []) false) rest (pieces_push ps (Escaped b) h tt) in
    record { whole = r.whole ∙ simp (pieces_bytes-push, append_assoc, append-nil); stand = r.stand }
reads (InString ps false) (b ∷ rest) h =
    chosen (Reads (InString ps false) (b ∷ rest)) (b == quote) _ _
    (λ e. string_ends ps rest _ b (sym (eqb-true b quote e)) h (reads Nothing rest tt))
    (λ no_quote. chosen (Reads (InString ps false) (b ∷ rest)) (b == backslash) _ _
    (λ e. backslash_begins ps rest _ b (sym (eqb-true b backslash e)) (reads (InString ps true) rest h))
    (λ no_backslash.
    let r = reads (InString (ps ++ Plain b ∷ []) false) rest (pieces_push ps (Plain b) h (no_quote, no_backslash)) in
    record { whole = r.whole ∙ simp (pieces_bytes-push, append_assoc, append-nil); stand = r.stand }))
reads (InLine body) [] h = record { whole = refl; stand = ((h, tt), tt) }
reads (InLine body) (b ∷ rest) h =
    chosen (Reads (InLine body) (b ∷ rest)) (b == line_feed) _ _
    (λ e. line_ends body rest _ b (sym (eqb-true b line_feed e)) h (reads Nothing rest tt))
    (λ e.
    let r = reads (InLine (body ++ b ∷ [])) rest (line_push body b h e) in
    record { whole = r.whole ∙ simp append_assoc; stand = r.stand })
reads (InBlock body) [] h = record { whole = refl; stand = ((h, refl), tt) }
reads (InBlock body) (b ∷ []) h = record { whole = simp (append_assoc, append-nil); stand = ((block_push body b [] h (block_other b), refl), tt) }
reads (InBlock body) (b ∷ c ∷ rest) h =
    chosen (Reads (InBlock body) (b ∷ c ∷ rest)) (b == star && c == slash) _ _
    (λ e. let f = and_parts (b == star) (c == slash) e in block_ends body rest _ b c (sym (eqb-true b star f.0)) (sym (eqb-true c slash f.1)) h (reads Nothing rest tt))
    (λ e.
    let r = reads (InBlock (body ++ b ∷ [])) (c ∷ rest) (block_push body b (c ∷ rest) h e) in
    record { whole = r.whole ∙ simp append_assoc; stand = r.stand })

-- the tokens of a text may stand in it
pub tokens_stand : (text : List ℕ) → AreTokens (tokens text)
unfolding tokens
tokens_stand text = (reads Nothing text tt).stand

-- and they spell it
pub text_of-tokens : (text : List ℕ) → text_of (tokens text) ≡ text
unfolding tokens
text_of-tokens text = (reads Nothing text tt).whole
