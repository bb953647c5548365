-- The tokens of a HuJSON text, JSON with comments and trailing commas: its strings, its comments,
-- and every other byte by itself. They are a tree, the bytes that spell it, a fact that says which
-- trees stand in a text, and the one tree of each text.
use Rattle.std.specs.Prelude.{◌≡◌, ℕ, ◌==◌, ◌&&◌, Bool, true, false, List, [], ◌∷◌, ◌++◌, slice_index, if◌then◌else◌}

-- `"`
abbrev pub quote : ℕ
quote = 34

-- `\`
abbrev pub backslash : ℕ
backslash = 92

-- `/`
abbrev pub slash : ℕ
slash = 47

-- `*`
abbrev pub star : ℕ
star = 42

-- the byte that ends a line
abbrev pub line_feed : ℕ
line_feed = 10

-- a byte of a string, or a backslash with the byte that it takes along
pub data Piece : Type 0 where
  Plain : ℕ → Piece
  Escaped : ℕ → Piece

-- the last two run to the end of the text: a string, maybe with a backslash that takes nothing, and
-- a comment from `/*`
pub data Token : Type 0 where
  Other : ℕ → Token
  Quoted : List Piece → Token
  LineComment : List ℕ → Token
  BlockComment : List ℕ → Token
  OpenString : List Piece → Bool → Token
  OpenComment : List ℕ → Token

-- the bytes of a piece
abbrev pub piece_bytes : Piece → List ℕ
piece_bytes (Plain b) = b ∷ []
piece_bytes (Escaped b) = backslash ∷ b ∷ []

-- the bytes between a string's quotes
abbrev pub pieces_bytes : List Piece → List ℕ
pieces_bytes [] = []
pieces_bytes (p ∷ ps) = piece_bytes p ++ pieces_bytes ps

-- a backslash, if one stands there
abbrev pub cut_bytes : Bool → List ℕ
cut_bytes cut = if cut then backslash ∷ [] else []

-- the bytes of a token
abbrev pub token_bytes : Token → List ℕ
token_bytes (Other b) = b ∷ []
token_bytes (Quoted ps) = quote ∷ (pieces_bytes ps ++ quote ∷ [])
token_bytes (LineComment body) = slash ∷ slash ∷ body
token_bytes (BlockComment body) = slash ∷ star ∷ (body ++ star ∷ slash ∷ [])
token_bytes (OpenString ps cut) = quote ∷ (pieces_bytes ps ++ cut_bytes cut)
token_bytes (OpenComment body) = slash ∷ star ∷ body

-- the text that the tokens spell
abbrev pub text_of : List Token → List ℕ
text_of [] = []
text_of (t ∷ ts) = token_bytes t ++ text_of ts

-- the byte and the one after it are `//`
abbrev pub begins_line : ℕ → List ℕ → Bool
begins_line b after = b == slash && slice_index after 0 == slash

-- they are `/*`
abbrev pub begins_block : ℕ → List ℕ → Bool
begins_block b after = b == slash && slice_index after 0 == star

-- they are `*/`
abbrev pub ends_block : ℕ → List ℕ → Bool
ends_block b after = b == star && slice_index after 0 == slash

-- a byte by itself begins neither a string nor a comment
pub record IsOther (b : ℕ) (after : List ℕ) : Type 0 where
  pub no_string : (b == quote) ≡ false
  pub no_line : begins_line b after ≡ false
  pub no_block : begins_block b after ≡ false

-- a byte of a string by itself is neither a quote nor a backslash
abbrev pub IsPiece : Piece → Type 0
IsPiece (Plain b) = ((b == quote) ≡ false) × ((b == backslash) ≡ false)
IsPiece (Escaped b) = Unit {0}

-- each piece is one
abbrev pub ArePieces : List Piece → Type 0
ArePieces [] = Unit {0}
ArePieces (p ∷ ps) = IsPiece p × ArePieces ps

-- none of the bytes is a line feed
abbrev pub IsInLine : List ℕ → Type 0
IsInLine [] = Unit {0}
IsInLine (b ∷ body) = ((b == line_feed) ≡ false) × IsInLine body

-- the text is at its end, or a line feed comes
abbrev pub EndsLine : List ℕ → Type 0
EndsLine [] = Unit {0}
EndsLine (b ∷ after) = b ≡ line_feed

-- at none of the bytes begins a `*/`
abbrev pub IsInBlock : List ℕ → List ℕ → Type 0
IsInBlock [] after = Unit {0}
IsInBlock (b ∷ body) after = (ends_block b (body ++ after) ≡ false) × IsInBlock body after

-- the token may stand in a text, with that text after it
abbrev pub IsToken : Token → List ℕ → Type 0
IsToken (Other b) after = IsOther b after
IsToken (Quoted ps) after = ArePieces ps
IsToken (LineComment body) after = IsInLine body × EndsLine after
IsToken (BlockComment body) after = IsInBlock body (star ∷ slash ∷ after)
IsToken (OpenString ps cut) after = ArePieces ps × (after ≡ [])
IsToken (OpenComment body) after = IsInBlock body [] × (after ≡ [])

-- each token may stand in the text that they spell
abbrev pub AreTokens : List Token → Type 0
AreTokens [] = Unit {0}
AreTokens (t ∷ ts) = IsToken t (text_of ts) × AreTokens ts

-- what has begun and not ended at a place of a text, with what stands of it before that place
pub data Begun : Type 0 where
  Nothing : Begun
  InString : List Piece → Bool → Begun
  InLine : List ℕ → Begun
  InBlock : List ℕ → Begun

-- the tokens of the text from such a place on
unfoldable pub tokens_from : Begun → List ℕ → List Token
tokens_from Nothing [] = []
tokens_from Nothing (b ∷ []) = if b == quote then OpenString [] false ∷ [] else Other b ∷ []
tokens_from Nothing (b ∷ c ∷ rest) =
    if b == quote then tokens_from (InString [] false) (c ∷ rest)
    else if b == slash && c == slash then tokens_from (InLine []) rest
    else if b == slash && c == star then tokens_from (InBlock []) rest
    else Other b ∷ tokens_from Nothing (c ∷ rest)
tokens_from (InString ps cut) [] = OpenString ps cut ∷ []
tokens_from (InString ps true) (b ∷ rest) = tokens_from (InString (ps ++ Escaped b ∷ []) false) rest
tokens_from (InString ps false) (b ∷ rest) =
    if b == quote then Quoted ps ∷ tokens_from Nothing rest
    else if b == backslash then tokens_from (InString ps true) rest
    else tokens_from (InString (ps ++ Plain b ∷ []) false) rest
tokens_from (InLine body) [] = LineComment body ∷ []
tokens_from (InLine body) (b ∷ rest) =
    if b == line_feed then LineComment body ∷ Other b ∷ tokens_from Nothing rest
    else tokens_from (InLine (body ++ b ∷ [])) rest
tokens_from (InBlock body) [] = OpenComment body ∷ []
tokens_from (InBlock body) (b ∷ []) = OpenComment (body ++ b ∷ []) ∷ []
tokens_from (InBlock body) (b ∷ c ∷ rest) =
    if b == star && c == slash then BlockComment body ∷ tokens_from Nothing rest
    else tokens_from (InBlock (body ++ b ∷ [])) (c ∷ rest)

-- the tokens of a text
unfoldable pub tokens : List ℕ → List Token
tokens text = tokens_from Nothing text

-- a text is spelled by its tokens and by no others
pub record IsSpelled (text : List ℕ) : Type 0 where
  pub may_stand : AreTokens (tokens text)
  pub spelled : text_of (tokens text) ≡ text
  pub alone : (ts : List Token) → AreTokens ts → text_of ts ≡ text → tokens text ≡ ts
