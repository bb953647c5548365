-- Bodies in chunks (RFC 9112, section 7.1).
use Rattle.std.specs.Prelude.{◌<◌, ◌^◌, ℕ, false, List, [], ◌∷◌, ◌++◌, codes, length}
use Rattle.std.specs.Fmt.{digits}

-- the head of an answer whose body comes in chunks
abbrev pub stream_head : List ℕ
stream_head = codes "HTTP/1.1 200 OK\r\nContent-Type: application/json\r\nTransfer-Encoding: chunked\r\n\r\n"

-- the size in hexadecimal, in lower case and without leading zeros, a line end, the bytes, and a line end
abbrev pub chunk_of : List ℕ → List ℕ
chunk_of bytes = digits 16 false (length bytes) ++ codes "\r\n" ++ bytes ++ codes "\r\n"

-- the chunk of size 0, which ends the body, and no trailer
abbrev pub last_chunk : List ℕ
last_chunk = codes "0\r\n\r\n"

-- a chunk for each frame
abbrev pub chunks_of : List (List ℕ) → List ℕ
chunks_of [] = []
chunks_of (frame ∷ frames) = chunk_of frame ++ chunks_of frames

-- the whole answer that carries these frames
abbrev pub stream_of : List (List ℕ) → List ℕ
stream_of frames = stream_head ++ (chunks_of frames ++ last_chunk)

-- The frame isn't empty, since a chunk of size 0 is the last one; and its size is a number of the machine.
pub record IsFrame (frame : List ℕ) : Type 0 where
  pub some : 0 < length frame
  pub sized : length frame < 2 ^ 64
