-- The bytes of a request.
use Rattle.std.specs.Prelude.{ℕ, Bool, ◌&&◌, nat_le, List, [], ◌++◌, length, Option, Some, None, codes}
use Rattle.std.specs.Fmt.{decimal}
use Rattle.percent_encoding.specs.Percent.{percent_encode}
use Rattle.http_client.specs.declared.asking.TheConstants.{TOKEN_ESCAPED}

-- the field lines of a body of that length: that it is JSON, and the length
abbrev pub lines_of_length : ℕ → List ℕ
lines_of_length size = codes "Content-Type: application/json\r\nContent-Length: " ++ decimal size ++ codes "\r\n"

abbrev pub body_lines : Option (List ℕ) → List ℕ
body_lines None = []
body_lines (Some body) = lines_of_length (length body)

abbrev pub bytes_or_none : Option (List ℕ) → List ℕ
bytes_or_none None = []
bytes_or_none (Some body) = body

-- a byte of a token that stands in its field line as it is: visible ASCII
abbrev pub is_token_byte : ℕ → Bool
is_token_byte b = nat_le 33 b && nat_le b 126

-- A request with an operator's token (RFC 6750, section 2.1). A byte of the token that is no visible ASCII is percent-encoded.
unfoldable pub ask_of : List ℕ → List ℕ → List ℕ → Option (List ℕ) → List ℕ
ask_of method path token body =
    method ++ codes " " ++ path ++ codes " HTTP/1.1\r\nHost: tailnetd\r\nAuthorization: Bearer "
    ++ percent_encode TOKEN_ESCAPED token ++ codes "\r\nConnection: close\r\n"
    ++ body_lines body ++ codes "\r\n" ++ bytes_or_none body
