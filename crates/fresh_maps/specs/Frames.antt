-- Responses as frames: the length of the JSON text in four bytes, the lowest first, and then the text.
use Rattle.std.specs.Prelude.{ℕ, List, ◌++◌, length}
use Rattle.std.specs.Int.{w32, to_le_bytes}
use Rattle.tailcfg.specs.declared.response.Response.{Response}
use Rattle.wire_write.specs.Responses.{response_text}

-- a text with its length before it
abbrev pub framed : List ℕ → List ℕ
framed text = to_le_bytes w32 (length text) ++ text

-- the frame of a response
abbrev pub frame_of : Response → List ℕ
frame_of response = framed (response_text response)
