-- Where the paths of the table lead, with a segment in the braces' place.
use Rattle.std.proofs.Common.{◌≡◌, ◌<◌, ◌≤◌, ◌+◌, ◌/◌, ◌^◌, ℕ, List, [], ◌∷◌, ◌++◌, length, drop, take, get_or, map, Option, Some, None, Bool, true, false, ◌&&◌, cond, ltb, leb, ◌==◌, arith, refl, sym, ap, ◌∙◌, inl, inr, is_some, option_map, nat_eq}
use Rattle.std.proofs.Math.Seq.{drop-append_seam, drop-length}
use Rattle.std.proofs.Math.Utf8.{encode, encodes, next, scalar, scalar_cases, scalars}
use Rattle.std.proofs.lemmas.Bool.{and_from, and_parts, cond-true, le-leb, ltb-true}
use Rattle.std.proofs.lemmas.Bool.Decides.{nat_tests}
use Rattle.std.proofs.lemmas.Fmt.{IsAscii-decimal, decimal_nonempty}
use Rattle.std.proofs.lemmas.List.Elements.{All-cons, All-nil, All-weaker}
use Rattle.std.proofs.lemmas.Str.{IsUtf8-append, IsUtf8-from_ascii, IsUtf8-from_is_utf8, is_utf8-from_IsUtf8}
use Rattle.std.specs.Char.{is_ascii_digit}
use Rattle.std.specs.Fmt.{decimal}
use Rattle.std.specs.List.{All, list_all}
use Rattle.std.specs.Str.{chars, is_utf8}
use Rattle.matchit.proofs.OnLiterals.{matchit_on_literals}
use Rattle.matchit.specs.Rows.{RowsOf}
use Rattle.matchit.specs.Seek.{first, has_slash, seek}
use Rattle.net_addr.proofs.DecimalLemmas.{number_of_decimal}
use Rattle.net_rows.specs.declared.limits.TheConstants.{COUNTER_LIMIT}
use Rattle.tail_base.proofs.Bools.{all5}
use Rattle.tail_base.proofs.NumberLemmas.{decimal_digits}
use Rattle.tail_base.proofs.NumeralLemmas.{pick_some}
use Rattle.tail_base.specs.Numerals.{in_range, leads_with_zero, short_numeral}
use Rattle.path_routes.specs.Finds.{with_id}
use Rattle.path_routes.specs.Leads.{IsSegment, behind_brace, filled, filled_at, leads}
use Rattle.path_routes.specs.Segments.{before_slash, id_of, segment_from}
use Rattle.path_routes.specs.Table.{brace_in, entry_at, entry_in, entry_of, names_id, names_id_at, paths, table}
use Rattle.path_routes.specs.declared.found.Found.{Found}
use Rattle.path_routes.specs.declared.route.Route.{Route}
use Rattle.path_routes.specs.declared.table.Entry.{Entry}
use Rattle.path_routes.proofs.SeekLemmas.{is_plain, is_ready, lands, rows_behind, seek_plain, seek_segment, segment_again}
use Rattle.path_routes.proofs.TableLemmas.{Kept}

-- the first byte of a text is a byte
first_small : (x y z : Bool) (c : ℕ) (rest : List ℕ) → ltb c 128 ≡ x → ltb c 2048 ≡ y → ltb c 65536 ≡ z → c < 1114112
    → get_or (cond x (c ∷ []) (cond y ((192 + c / 64) ∷ next c ∷ []) (cond z ((224 + c / 4096) ∷ next (c / 64) ∷ next c ∷ []) ((240 + c / 262144) ∷ next (c / 4096) ∷ next (c / 64) ∷ next c ∷ []))) ++ rest) 0 0 < 256
first_small true y z c rest p q r small = omega (arith, ltb-true c 128 p)
first_small false true z c rest p q r small = omega (arith, ltb-true c 2048 q)
first_small false false true c rest p q r small = omega (arith, ltb-true c 65536 r)
first_small false false false c rest p q r small = omega arith

pub scalar_small : (c : ℕ) → scalar c ≡ true → c < 1114112
scalar_small c h = elim (scalar_cases c h) [ inl low ↦ omega arith | inr high ↦ high.1 ]

encode_small : (c : ℕ) (rest : List ℕ) → c < 1114112 → get_or (encode c ++ rest) 0 0 < 256
unfolding encode
encode_small c rest small = first_small (ltb c 128) (ltb c 2048) (ltb c 65536) c rest refl refl refl small

text_small : (b : ℕ) (bs cs : List ℕ) → scalars cs ≡ true → encodes cs ≡ b ∷ bs → b < 256
text_small b bs [] s e = absurd (cc)
text_small b bs (c ∷ cs) s e =
    let small = encode_small c (encodes cs) (scalar_small c (and_parts (scalar c) (scalars cs) s).0) in
    rw e at small

-- what the rows say of a path of the table: what it is made of is as the lemmas ask, and where it leads
abbrev pub reach_with : RowsOf Kept → ℕ → List ℕ → List ℕ → Bool × Option Entry
reach_with rows start front back = (
  nat_eq (length front) start && is_utf8 front && is_utf8 back && is_plain front rows && is_ready back (rows_behind front rows),
  option_map (λ (r : Kept). r.value) (lands back (rows_behind front rows)),
)

abbrev pub reach_at : RowsOf Kept → List ℕ → Option ℕ → Bool × Option Entry
reach_at rows text None = (is_utf8 text, option_map (λ (r : Kept). r.value) (first rows text))
reach_at rows text (Some start) = reach_with rows start (take start text) (behind_brace (drop start text))

abbrev pub reach : RowsOf Kept → List ℕ × Route → Bool × Option Entry
reach rows path = reach_at rows path.0 (brace_in path.0)

abbrev pub Reaches : RowsOf Kept → Type 0
Reaches rows = map (reach rows) paths ≡ map (λ path. (true, Some (entry_of path.0 path.1))) paths

all_reach : Reaches table
unfolding table matchit_on_literals is_utf8 chars encode
all_reach = refl

each_same : {X Y : Type 0} (f g : X → Y) (xs : List X) → map f xs ≡ map g xs → All (λ x. f x ≡ g x) xs
each_same f g [] h = All-nil (λ x. f x ≡ g x)
each_same f g (x ∷ xs) h =
    let head : f x ≡ g x = cc in
    let tail : map f xs ≡ map g xs = cc in
    All-cons (λ x. f x ≡ g x) x xs head (each_same f g xs tail)

abbrev IsReached : List ℕ × Route → Type 0
IsReached path = reach table path ≡ (true, Some (entry_of path.0 path.1))

each_reached : All IsReached paths
each_reached = each_same (reach table) (λ path. (true, Some (entry_of path.0 path.1))) paths all_reach

abbrev pub told : List ℕ → Found → Route × ℕ × List ℕ
told path found = (found.route, found.id, segment_from path found.start)

-- a path of UTF-8 with an entry leads where the entry says
pub leads_by : (path : List ℕ) (e : Entry) → is_utf8 path ≡ true → entry_in path ≡ Some e
    → leads path ≡ option_map (told path) (with_id path e)
leads_by path e text here = rw (text, here) refl

-- a path without braces
fixed_at : (text : List ℕ) (r : Route) (o : Option ℕ) → reach_at table text o ≡ (true, Some (entry_at text r o)) → is_some o ≡ false → leads text ≡ Some (r, 0, [])
fixed_at text r (Some start) h none = absurd (cc)
fixed_at text r None h none =
    let utf8 : is_utf8 text ≡ true = ap (λ p. p.0) h in
    let here : entry_in text ≡ Some (entry_at text r None) = ap (λ p. p.1) h in
    leads_by text (entry_at text r None) utf8 here ∙ ap (λ rest. Some (r, 0, before_slash rest)) (drop-length text)

fixed_leads : (path : List ℕ × Route) → IsReached path → is_some (brace_in path.0) ≡ false → leads path.0 ≡ Some (path.1, 0, [])
fixed_leads path h none = fixed_at path.0 path.1 (brace_in path.0) h none

-- a path with braces and a segment in their place: its text, its entry and its segment
pub record IsFilled (path seg : List ℕ) (e : Entry) : Type 0 where
  pub text : is_utf8 path ≡ true
  pub entry : entry_in path ≡ Some e
  pub segment : segment_from path e.start ≡ seg

fill_with : (start : ℕ) (front back seg : List ℕ) (e : Entry) → e.start ≡ start → reach_with table start front back ≡ (true, Some e) → IsSegment seg
    → IsFilled (front ++ (seg ++ back)) seg e
fill_with start front back [] e same h segment = absurd (omega (arith, segment.0))
fill_with start front back (b ∷ seg) e same h segment =
    let checks = all5 (nat_eq (length front) start) (is_utf8 front) (is_utf8 back) (is_plain front table) (is_ready back (rows_behind front table)) (ap (λ p. p.0) h) in
    let here : length front ≡ start = grind (arith, nat_tests) in
    let small = text_small b seg segment.1.0 segment.1.1.0 segment.1.1.1 in
    let whole : seek 0 table (front ++ ((b ∷ seg) ++ back)) ≡ lands back (rows_behind front table) =
    seek_plain front ((b ∷ seg) ++ back) table checks.3 ∙ seek_segment b seg back (rows_behind front table) small segment.2 checks.4 in
    let split : drop e.start (front ++ ((b ∷ seg) ++ back)) ≡ (b ∷ seg) ++ back =
    ap (λ n. drop n (front ++ ((b ∷ seg) ++ back))) (same ∙ sym here) ∙ drop-append_seam front ((b ∷ seg) ++ back) in
    record {
      text =
          is_utf8-from_IsUtf8 (front ++ ((b ∷ seg) ++ back))
          (IsUtf8-append front ((b ∷ seg) ++ back) (IsUtf8-from_is_utf8 front checks.1)
          (IsUtf8-append (b ∷ seg) back segment.1 (IsUtf8-from_is_utf8 back checks.2)));
      entry = ap (option_map (λ (r : Kept). r.value)) whole ∙ ap (λ p. p.1) h;
      segment = ap before_slash split ∙ segment_again (b ∷ seg) back (rows_behind front table) segment.2 checks.4;
    }

fill_at : (text seg : List ℕ) (r : Route) (o : Option ℕ) → reach_at table text o ≡ (true, Some (entry_at text r o)) → is_some o ≡ true → IsSegment seg
    → IsFilled (filled_at text seg o) seg (entry_at text r o)
fill_at text seg r None h some segment = absurd (cc)
fill_at text seg r (Some start) h some segment =
    fill_with start (take start text) (behind_brace (drop start text)) seg (entry_at text r (Some start)) refl h segment

entry_route : (text : List ℕ) (r : Route) (o : Option ℕ) → (entry_at text r o).route ≡ r
entry_route text r None = refl
entry_route text r (Some start) = refl

entry_id : (text : List ℕ) (r : Route) (o : Option ℕ) → (entry_at text r o).has_id ≡ names_id_at text o
entry_id text r None = refl
entry_id text r (Some start) = refl

has_brace : (text : List ℕ) (o : Option ℕ) → names_id_at text o ≡ true → is_some o ≡ true
has_brace text None h = absurd (cc)
has_brace text (Some start) h = refl

with_id_plain : (path seg : List ℕ) (e : Entry) (r : Route) → e.route ≡ r → e.has_id ≡ false → segment_from path e.start ≡ seg
    → option_map (told path) (with_id path e) ≡ Some (r, 0, seg)
with_id_plain path seg e r route none here = rw (none, route, here) refl

with_id_read : (path seg : List ℕ) (e : Entry) (r : Route) (id : ℕ) → e.route ≡ r → e.has_id ≡ true → segment_from path e.start ≡ seg → id_of seg ≡ Some id
    → option_map (told path) (with_id path e) ≡ Some (r, id, seg)
with_id_read path seg e r id route some here read =
    let spelled : id_of (segment_from path e.start) ≡ Some id = ap id_of here ∙ read in
    rw (some, spelled, route, here) refl

-- a path whose braces name a row, with a segment in their place
row_leads : (seg : List ℕ) (path : List ℕ × Route) → IsSegment seg → IsReached path → is_some (brace_in path.0) ≡ true → names_id path.0 ≡ false
    → leads (filled path.0 seg) ≡ Some (path.1, 0, seg)
row_leads seg path segment h some none =
    let text = path.0 in
    let o = brace_in text in
    let here = fill_at text seg path.1 o h some segment in
    leads_by (filled_at text seg o) (entry_at text path.1 o) here.text here.entry
    ∙ with_id_plain (filled_at text seg o) seg (entry_at text path.1 o) path.1 (entry_route text path.1 o) (entry_id text path.1 o ∙ none) here.segment

-- decimal digits are a segment, and spell the id
digits_free : (bs : List ℕ) → list_all is_ascii_digit bs ≡ true → has_slash bs ≡ false
digits_free [] h = refl
digits_free (b ∷ bs) h =
    let parts = and_parts (is_ascii_digit b) (list_all is_ascii_digit bs) h in
    let other : (b == 47) ≡ false = grind (arith, nat_tests) in
    rw other (digits_free bs parts.1)

decimal_segment : (n : ℕ) → n < 2 ^ 64 → IsSegment (decimal n)
decimal_segment n small = (decimal_nonempty n small, IsUtf8-from_ascii (decimal n) (IsAscii-decimal n small), digits_free (decimal n) (decimal_digits n small))

from_one : (n most : ℕ) (t : Bool) (o : Option ℕ) → 1 ≤ n → cond t None (in_range 0 most o) ≡ Some n → cond t None (in_range 1 most o) ≡ Some n
from_one n most true o some h = absurd (cc)
from_one n most false None some h = absurd (cc)
from_one n most false (Some m) some h =
    let parts = pick_some (leb 0 m && leb m most) (Some m) n h in
    let same : m ≡ n = cc (parts.1) in
    let tests = and_parts (leb 0 m) (leb m most) parts.0 in
    cond-true (leb 1 m && leb m most) (Some m) None (and_from _ _ (le-leb 1 m (omega arith)) tests.1) ∙ parts.1

id_read : (id : ℕ) → 1 ≤ id → id ≤ COUNTER_LIMIT → id_of (decimal id) ≡ Some id
id_read id some small =
    from_one id COUNTER_LIMIT (leads_with_zero (decimal id)) (short_numeral 10 10 (decimal id)) some
    (number_of_decimal 10 COUNTER_LIMIT id (omega arith) (omega arith) small (omega arith))

-- a path whose braces name an id, with an id in their place
id_leads : (id : ℕ) (path : List ℕ × Route) → 1 ≤ id → id ≤ COUNTER_LIMIT → IsReached path → names_id path.0 ≡ true
    → leads (filled path.0 (decimal id)) ≡ Some (path.1, id, decimal id)
id_leads id path some small h names =
    let text = path.0 in
    let o = brace_in text in
    let here = fill_at text (decimal id) path.1 o h (has_brace text o names) (decimal_segment id (omega arith)) in
    leads_by (filled_at text (decimal id) o) (entry_at text path.1 o) here.text here.entry
    ∙ with_id_read (filled_at text (decimal id) o) (decimal id) (entry_at text path.1 o) path.1 id (entry_route text path.1 o) (entry_id text path.1 o ∙ names) here.segment (id_read id some small)

pub fixed_lead : All (λ path. is_some (brace_in path.0) ≡ false → leads path.0 ≡ Some (path.1, 0, [])) paths
fixed_lead = All-weaker IsReached (λ path. is_some (brace_in path.0) ≡ false → leads path.0 ≡ Some (path.1, 0, [])) fixed_leads paths each_reached

pub ids_lead : (id : ℕ) → 1 ≤ id → id ≤ COUNTER_LIMIT → All (λ path. names_id path.0 ≡ true → leads (filled path.0 (decimal id)) ≡ Some (path.1, id, decimal id)) paths
ids_lead id some small =
    All-weaker IsReached (λ path. names_id path.0 ≡ true → leads (filled path.0 (decimal id)) ≡ Some (path.1, id, decimal id))
    (λ path h names. id_leads id path some small h names) paths each_reached

pub rows_lead : (segment : List ℕ) → IsSegment segment
    → All (λ path. is_some (brace_in path.0) ≡ true → names_id path.0 ≡ false → leads (filled path.0 segment) ≡ Some (path.1, 0, segment)) paths
rows_lead segment is =
    All-weaker IsReached (λ path. is_some (brace_in path.0) ≡ true → names_id path.0 ≡ false → leads (filled path.0 segment) ≡ Some (path.1, 0, segment))
    (λ path h some none. row_leads segment path is h some none) paths each_reached
