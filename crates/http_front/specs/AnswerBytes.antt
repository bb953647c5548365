-- The bytes of an answer with a length (RFC 9112, section 4).
use Rattle.std.specs.Prelude.{ℕ, List, [], ◌++◌, length, Bool, if◌then◌else◌, codes, decimal, unwrap_or}
use Rattle.http.specs.StatusCode.{reason_phrase}

-- the last field line of a head that ends the connection
abbrev pub close_line : Bool → List ℕ
close_line close = if close then codes "Connection: close\r\n" else []

-- the status line, the field lines, of which `last` is the last, and the empty line
abbrev pub answer_head : ℕ → List ℕ → ℕ → List ℕ → List ℕ
answer_head status phrase size last =
    codes "HTTP/1.1 " ++ decimal status ++ codes " " ++ phrase
    ++ codes "\r\nContent-Type: application/json\r\nContent-Length: " ++ decimal size ++ codes "\r\n" ++ last ++ codes "\r\n"

-- a status with its phrase, a body with its length, and whether the connection ends
unfoldable pub answer : ℕ → List ℕ → Bool → List ℕ
answer status body close = answer_head status (unwrap_or (reason_phrase status) []) (length body) (close_line close) ++ body
