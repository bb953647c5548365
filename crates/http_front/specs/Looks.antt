-- What one look at the bytes held tells of them.
use Rattle.std.specs.Prelude.{◌≡◌, ℕ, ◌+◌, ◌<◌, ◌≤◌, List, length, take, drop, map, Ok}
use Rattle.httparse.specs.declared.spans.HeaderSpan.{HeaderSpan}
use Rattle.httparse.specs.declared.spans.RequestSpans.{RequestSpans}
use Rattle.httparse.specs.Grammar.{RequestHead}
use Rattle.httparse.specs.Spans.{span_bytes, header_bytes}
use Rattle.http_front.specs.Lines.{body_limit, values_of}
use Rattle.http_front.specs.Requests.{Head, head_of, length_of, head_limit, HasHead, IsUnfinished, IsBad}
use Rattle.http_front.specs.declared.looking.Look.{Look}
use Rattle.http_front.specs.declared.looking.Look.TheVariants as look

-- the head that the parser's spans show
abbrev pub spanned_head : List ℕ → List HeaderSpan → RequestSpans → Head
spanned_head buffer headers r = record {
  method = span_bytes buffer r.method;
  target = span_bytes buffer r.path;
  minor = r.version;
  lines = map (header_bytes buffer) (take r.headers headers);
}

-- the values of the lines of that name that the spans show
abbrev pub spanned_values : List ℕ → List HeaderSpan → List ℕ → List (List ℕ)
spanned_values buffer headers name = values_of name (map (header_bytes buffer) headers)

-- the spans are those of a head whose body is of that size, and all of it is there
pub record IsSpanned (bytes : List ℕ) (headers : List HeaderSpan) (r : RequestSpans) (size : ℕ) : Type 0 where
  pub head : RequestHead
  pub has : HasHead bytes head (drop r.len bytes)
  pub head_is : spanned_head (take head_limit bytes) headers r ≡ head_of head
  pub length_is : length_of (head_of head) ≡ Ok size
  pub there : r.len + size ≤ length bytes
  pub count : r.headers ≤ length headers

-- one byte more than the longest request that isn't whole: 16 KiB, 1 MiB and 1
abbrev pub most : ℕ
most = head_limit + body_limit + 1

-- what the look says of the bytes
abbrev pub IsLook : List ℕ → List HeaderSpan → Look → Type 0
IsLook bytes headers (look.Whole r size) = IsSpanned bytes headers r size
IsLook bytes headers look.More = (0 < length bytes → IsUnfinished bytes) × (length bytes < most)
IsLook bytes headers (look.Bad fault) = IsBad bytes fault
