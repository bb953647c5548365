-- A stream tells its frames.
use Rattle.std.proofs.Common.{◌≡◌, ◌<◌, ◌^◌, ◌++◌, ℕ, false, List, [], ◌∷◌, length, arith, refl, sym, ap, ◌∙◌, append_assoc}
use Rattle.std.specs.Prelude.{All}
use Rattle.std.specs.Char.{digit_value}
use Rattle.std.specs.Fmt.{digits}
use Rattle.std.specs.Str.Parse.{AllDigits, digits_value}
use Rattle.std.proofs.lemmas.Fmt.{digits_is_IsNumeral, hex_one_digit}
use Rattle.std.proofs.lemmas.List.{append_cancel_left}
use Rattle.std.proofs.lemmas.List.Elements.{All-head, All-tail}
use Rattle.http_front.specs.Streams.{IsFrame, chunk_of, chunks_of, last_chunk, stream_head, stream_of}

-- hexadecimal digits end where the line does
same_digits : (xs ys ms ns : List ℕ) → AllDigits 16 xs → AllDigits 16 ys → xs ++ (13 ∷ ms) ≡ ys ++ (13 ∷ ns) → (xs ≡ ys) × (ms ≡ ns)
same_digits [] [] ms ns p q e = (refl, cc)
same_digits [] (y ∷ ys) ms ns p q e =
    let first : y ≡ 13 = cc in
    let small : digit_value y < 16 = q.0 in
    let bad : 36 < 16 = rw first at small in
    absurd (omega arith)
same_digits (x ∷ xs) [] ms ns p q e =
    let first : x ≡ 13 = cc in
    let small : digit_value x < 16 = p.0 in
    let bad : 36 < 16 = rw first at small in
    absurd (omega arith)
same_digits (x ∷ xs) (y ∷ ys) ms ns p q e =
    let first : x ≡ y = cc in
    let more : xs ++ (13 ∷ ms) ≡ ys ++ (13 ∷ ns) = cc in
    let rest = same_digits xs ys ms ns p.1 q.1 more in
    let digits_are : xs ≡ ys = rest.0 in
    (cc, rest.1)

-- a size line tells the size
same_sizes : (m n : ℕ) (ms ns : List ℕ) → m < 2 ^ 64 → n < 2 ^ 64 → digits 16 false m ++ (13 ∷ ms) ≡ digits 16 false n ++ (13 ∷ ns) → (m ≡ n) × (ms ≡ ns)
same_sizes m n ms ns small other e =
    let a = digits_is_IsNumeral 16 false (omega arith) (omega arith) m (omega arith) in
    let b = digits_is_IsNumeral 16 false (omega arith) (omega arith) n (omega arith) in
    let parts = same_digits (digits 16 false m) (digits 16 false n) ms ns a.0.1 b.0.1 e in
    (sym a.1 ∙ ap (digits_value 16) parts.0 ∙ b.1, parts.1)

-- so many bytes, whatever comes behind
same_front : (xs ys ms ns : List ℕ) → length xs ≡ length ys → xs ++ ms ≡ ys ++ ns → (xs ≡ ys) × (ms ≡ ns)
same_front [] [] ms ns h e = (refl, e)
same_front [] (y ∷ ys) ms ns h e = absurd (omega (arith, h))
same_front (x ∷ xs) [] ms ns h e = absurd (omega (arith, h))
same_front (x ∷ xs) (y ∷ ys) ms ns h e =
    let first : x ≡ y = cc in
    let more : xs ++ ms ≡ ys ++ ns = cc in
    let rest = same_front xs ys ms ns (omega (arith, h)) more in
    let bytes : xs ≡ ys = rest.0 in
    (cc, rest.1)

chunk_is : (frame rest : List ℕ) → chunk_of frame ++ rest ≡ digits 16 false (length frame) ++ (13 ∷ 10 ∷ (frame ++ (13 ∷ 10 ∷ rest)))
chunk_is frame rest = simp append_assoc

last_is : (rest : List ℕ) → last_chunk ++ rest ≡ digits 16 false 0 ++ (13 ∷ 10 ∷ 13 ∷ 10 ∷ rest)
last_is rest = ap (λ (ds : List ℕ). ds ++ (13 ∷ 10 ∷ 13 ∷ 10 ∷ rest)) (sym (hex_one_digit false 0 (omega arith)))

-- a chunk with bytes isn't the last one
not_last : (frame rest behind : List ℕ) → IsFrame frame → last_chunk ++ rest ≡ chunk_of frame ++ behind → ⊥
not_last frame rest behind is e =
    let lines = same_sizes 0 (length frame) (10 ∷ 13 ∷ 10 ∷ rest) (10 ∷ (frame ++ (13 ∷ 10 ∷ behind))) (omega arith) is.sized (sym (last_is rest) ∙ e ∙ chunk_is frame behind) in
    omega (arith, lines.0, is.some)

-- a chunk tells its bytes and what comes behind
same_chunks : (frame other rest behind : List ℕ) → IsFrame frame → IsFrame other → chunk_of frame ++ rest ≡ chunk_of other ++ behind → (frame ≡ other) × (rest ≡ behind)
same_chunks frame other rest behind is also e =
    let lines = same_sizes (length frame) (length other) (10 ∷ (frame ++ (13 ∷ 10 ∷ rest))) (10 ∷ (other ++ (13 ∷ 10 ∷ behind))) is.sized also.sized (sym (chunk_is frame rest) ∙ e ∙ chunk_is other behind) in
    let line : 10 ∷ (frame ++ (13 ∷ 10 ∷ rest)) ≡ 10 ∷ (other ++ (13 ∷ 10 ∷ behind)) = lines.1 in
    let bytes : frame ++ (13 ∷ 10 ∷ rest) ≡ other ++ (13 ∷ 10 ∷ behind) = cc in
    let parts = same_front frame other (13 ∷ 10 ∷ rest) (13 ∷ 10 ∷ behind) lines.0 bytes in
    let ends : 13 ∷ 10 ∷ rest ≡ 13 ∷ 10 ∷ behind = parts.1 in
    (parts.0, cc)

pub same_bodies : (frames others : List (List ℕ)) (rest behind : List ℕ) → All IsFrame frames → All IsFrame others
    → chunks_of frames ++ (last_chunk ++ rest) ≡ chunks_of others ++ (last_chunk ++ behind) → (frames ≡ others) × (rest ≡ behind)
same_bodies [] [] rest behind p q e = (refl, append_cancel_left last_chunk rest behind e)
same_bodies [] (g ∷ gs) rest behind p q e =
    absurd (not_last g rest (chunks_of gs ++ (last_chunk ++ behind)) (All-head IsFrame g gs q) (e ∙ append_assoc (chunk_of g) (chunks_of gs) (last_chunk ++ behind)))
same_bodies (f ∷ fs) [] rest behind p q e =
    absurd (not_last f behind (chunks_of fs ++ (last_chunk ++ rest)) (All-head IsFrame f fs p) (sym e ∙ append_assoc (chunk_of f) (chunks_of fs) (last_chunk ++ rest)))
same_bodies (f ∷ fs) (g ∷ gs) rest behind p q e =
    let first = same_chunks f g (chunks_of fs ++ (last_chunk ++ rest)) (chunks_of gs ++ (last_chunk ++ behind)) (All-head IsFrame f fs p) (All-head IsFrame g gs q)
    (sym (append_assoc (chunk_of f) (chunks_of fs) (last_chunk ++ rest)) ∙ e ∙ append_assoc (chunk_of g) (chunks_of gs) (last_chunk ++ behind)) in
    let more = same_bodies fs gs rest behind (All-tail IsFrame f fs p) (All-tail IsFrame g gs q) first.1 in
    let head : f ≡ g = first.0 in
    let tail : fs ≡ gs = more.0 in
    (cc, more.1)

pub same_streams : (frames others : List (List ℕ)) → All IsFrame frames → All IsFrame others → stream_of frames ≡ stream_of others → frames ≡ others
same_streams frames others p q e =
    (same_bodies frames others [] [] p q
    (ended frames ∙ append_cancel_left stream_head (chunks_of frames ++ last_chunk) (chunks_of others ++ last_chunk) e ∙ sym (ended others))).0
  where
    ended : (fs : List (List ℕ)) → chunks_of fs ++ (last_chunk ++ []) ≡ chunks_of fs ++ last_chunk
    ended fs = refl
