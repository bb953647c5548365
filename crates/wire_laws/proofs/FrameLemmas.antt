-- Frames, and the streams of them, tell responses.
use Rattle.std.proofs.Common.{◌≡◌, ℕ, List, [], ◌∷◌, ◌++◌, arith, ap, ap₂, drop, refl}
use Rattle.std.specs.Prelude.{map}
use Rattle.std.specs.List.{All}
use Rattle.std.proofs.lemmas.List.Elements.{All-cons}
use Rattle.http_front.specs.Streams.{IsFrame, chunks_of, last_chunk, stream_of}
use Rattle.http_front.proofs.ChunkLemmas.{same_bodies, same_streams}
use Rattle.tailcfg.specs.declared.response.Response.{Response}
use Rattle.fresh_maps.specs.Frames.{frame_of}
use Rattle.wire_laws.specs.Frames.{AreFramed, IsFramed}
use Rattle.wire_laws.specs.Responses.{IsWritten}
use Rattle.wire_laws.proofs.ResponseForms.{texts_tell_responses}

-- behind its four bytes stands the text
pub frames_tell : (a b : Response) → IsWritten a → IsWritten b → frame_of a ≡ frame_of b → a ≡ b
frames_tell a b p q e = texts_tell_responses a b p q (ap (drop 4) e)

is_frame : (r : Response) → IsFramed r → IsFrame (frame_of r)
is_frame r h = record { some = omega arith; sized = h.sized }

are_frames : (rs : List Response) → AreFramed rs → All IsFrame (map frame_of rs)
are_frames [] h = λ k d inside. absurd (omega arith)
are_frames (r ∷ rs) h = All-cons IsFrame (frame_of r) (map frame_of rs) (is_frame r h.0) (are_frames rs h.1)

each_told : (rs ss : List Response) → AreFramed rs → AreFramed ss → map frame_of rs ≡ map frame_of ss → rs ≡ ss
each_told [] [] p q e = refl
each_told [] (s ∷ ss) p q e = absurd (cc (e))
each_told (r ∷ rs) [] p q e = absurd (cc (e))
each_told (r ∷ rs) (s ∷ ss) p q e =
    let first : frame_of r ≡ frame_of s = cc (e) in
    let rest : map frame_of rs ≡ map frame_of ss = cc (e) in
    ap₂ (λ t ts. t ∷ ts) (frames_tell r s p.0.written q.0.written first) (each_told rs ss p.1 q.1 rest)

pub streams_tell : (rs ss : List Response) → AreFramed rs → AreFramed ss → stream_of (map frame_of rs) ≡ stream_of (map frame_of ss) → rs ≡ ss
streams_tell rs ss p q e = each_told rs ss p q (same_streams (map frame_of rs) (map frame_of ss) (are_frames rs p) (are_frames ss q) e)

pub bodies_tell : (rs ss : List Response) (rest behind : List ℕ) → AreFramed rs → AreFramed ss
    → chunks_of (map frame_of rs) ++ (last_chunk ++ rest) ≡ chunks_of (map frame_of ss) ++ (last_chunk ++ behind) → (rs ≡ ss) × (rest ≡ behind)
bodies_tell rs ss rest behind p q e =
    let both = same_bodies (map frame_of rs) (map frame_of ss) rest behind (are_frames rs p) (are_frames ss q) e in
    (each_told rs ss p q both.0, both.1)

-- what was written before the last chunk
pub chunks_tell : (rs ss : List Response) → AreFramed rs → AreFramed ss → chunks_of (map frame_of rs) ≡ chunks_of (map frame_of ss) → rs ≡ ss
chunks_tell rs ss p q e = (bodies_tell rs ss [] [] p q (ap (λ bytes. bytes ++ (last_chunk ++ [])) e)).0
