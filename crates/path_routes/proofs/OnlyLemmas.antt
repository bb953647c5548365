-- Nothing but the paths of the table leads anywhere.
use Rattle.std.proofs.Common.{◌≡◌, ◌<◌, ◌≤◌, ◌+◌, ◌/◌, ◌%◌, ◌^◌, ◌⊎◌, ℕ, List, [], ◌∷◌, ◌++◌, length, length-append, length-take, take-append-drop, drop, take, map, Option, Some, None, Bool, true, false, ◌&&◌, cond, ltb, leb, ◌==◌, nat_eq, Result, Ok, Err, Any, IsUtf8, arith, refl, sym, ap, subst, ◌∙◌, inl, inr, is_some, option_map, get_or, rules}
use Rattle.std.proofs.Math.Nat.{pow-le-pow_right}
use Rattle.std.proofs.Math.Seq.{drop-append_seam, drop-length, take-append_seam}
use Rattle.std.proofs.Math.Utf8.{encode, encodes, next, scalar, scalars}
use Rattle.std.proofs.lemmas.Bool.{and_parts, cases_Bool, leb-true, ltb-true}
use Rattle.std.proofs.lemmas.Bool.Decides.{nat_tests}
use Rattle.std.proofs.lemmas.Fmt.{decimal-digits_value}
use Rattle.std.proofs.lemmas.Int.Digits.{digits_value-lt}
use Rattle.std.proofs.lemmas.Str.{IsCharBoundary-at_seam, IsCharBoundary-from_take, IsUtf8-drop, IsUtf8-from_is_utf8, IsUtf8-take}
use Rattle.std.proofs.lemmas.Str.Parse.{IsNumeralModel, numerals_by_value}
use Rattle.std.specs.Fmt.{decimal}
use Rattle.std.specs.List.{AllByRecursion, list_all}
use Rattle.std.specs.Str.{chars, is_utf8}
use Rattle.std.specs.Str.Parse.{AllDigits, digits_value}
use Rattle.matchit.proofs.OnLiterals.{matchit_on_literals}
use Rattle.matchit.specs.Route.{Scan, parse_route}
use Rattle.matchit.specs.Seek.{first, has_slash}
use Rattle.matchit.specs.declared.error.InsertError.{InsertError}
use Rattle.net_addr.proofs.DecimalLemmas.{numeral_some}
use Rattle.net_rows.specs.declared.limits.TheConstants.{COUNTER_LIMIT}
use Rattle.tail_base.proofs.Bools.{all5}
use Rattle.tail_base.proofs.NumeralLemmas.{number_in_fits, pick_some}
use Rattle.tail_base.specs.Numerals.{digits_in, in_range, leads_with_zero, number_in, numeral, short_numeral}
use Rattle.path_routes.specs.Finds.{with_id}
use Rattle.path_routes.specs.Leads.{IsLed, IsReadAt, IsSegment, behind_brace, filled, filled_at, leads}
use Rattle.path_routes.specs.Segments.{before_slash, id_of, segment_from}
use Rattle.path_routes.specs.Table.{brace_in, entry_at, entry_in, entry_of, names_id, names_id_at, paths, table}
use Rattle.path_routes.specs.declared.found.Found.{Found}
use Rattle.path_routes.specs.declared.route.Route.{Route}
use Rattle.path_routes.specs.declared.table.Entry.{Entry}
use Rattle.path_routes.proofs.LeadLemmas.{leads_by, scalar_small, told}
use Rattle.path_routes.proofs.SoughtLemmas.{AreBytes, Has, IsFound, IsRow, Takes, rows_of_paths, sought}
use Rattle.path_routes.proofs.TableLemmas.{Kept}

-- ---- a text in UTF-8 is bytes

next_small : (n : ℕ) → next n < 256
next_small n = omega arith

bytes_of : (x y z : Bool) (c : ℕ) → ltb c 128 ≡ x → ltb c 2048 ≡ y → ltb c 65536 ≡ z → c < 1114112
    → AreBytes (cond x (c ∷ []) (cond y ((192 + c / 64) ∷ next c ∷ []) (cond z ((224 + c / 4096) ∷ next (c / 64) ∷ next c ∷ []) ((240 + c / 262144) ∷ next (c / 4096) ∷ next (c / 64) ∷ next c ∷ []))))
bytes_of true y z c p q r small = (omega (arith, ltb-true c 128 p), tt)
bytes_of false true z c p q r small = (omega (arith, ltb-true c 2048 q), (next_small c, tt))
bytes_of false false true c p q r small = (omega (arith, ltb-true c 65536 r), (next_small (c / 64), (next_small c, tt)))
bytes_of false false false c p q r small = (omega arith, (next_small (c / 4096), (next_small (c / 64), (next_small c, tt))))

encode_bytes : (c : ℕ) → c < 1114112 → AreBytes (encode c)
unfolding encode
encode_bytes c small = bytes_of (ltb c 128) (ltb c 2048) (ltb c 65536) c refl refl refl small

bytes_more : (a b : List ℕ) → AreBytes a → AreBytes b → AreBytes (a ++ b)
bytes_more [] b h k = k
bytes_more (x ∷ a) b h k = (h.0, bytes_more a b h.1 k)

encodes_bytes : (cs : List ℕ) → scalars cs ≡ true → AreBytes (encodes cs)
encodes_bytes [] h = tt
encodes_bytes (c ∷ cs) h =
    let parts = and_parts (scalar c) (scalars cs) h in
    bytes_more (encode c) (encodes cs) (encode_bytes c (scalar_small c parts.0)) (encodes_bytes cs parts.1)

text_bytes : (path : List ℕ) → IsUtf8 path → AreBytes path
text_bytes path text = subst AreBytes text.1.1 (encodes_bytes text.0 text.1.0)

all_bytes : (text : List ℕ) → list_all (λ b. ltb b 256) text ≡ true → AreBytes text
all_bytes [] h = tt
all_bytes (b ∷ text) h =
    let parts = and_parts (ltb b 256) (list_all (λ x. ltb x 256) text) h in
    (ltb-true b 256 parts.0, all_bytes text parts.1)

-- ---- the patterns of the table

abbrev pattern_of : Result Scan InsertError → Option (List ℕ)
pattern_of (Ok scan) = Some scan.pattern
pattern_of (Err e) = None

abbrev shape_at : List ℕ → Option ℕ → List ℕ
shape_at text None = text
shape_at text (Some start) = take start text ++ 256 ∷ behind_brace (drop start text)

-- nothing, or a slash first
abbrev ends_segment : List ℕ → Bool
ends_segment [] = true
ends_segment (b ∷ bs) = b == 47

abbrev is_cut_well : ℕ → List ℕ → List ℕ → Bool
is_cut_well start front back =
    nat_eq (length front) start && (is_utf8 front && list_all (λ b. ltb b 256) front) && (is_utf8 back && list_all (λ b. ltb b 256) back) && ends_segment back && true

abbrev is_well_at : List ℕ → Option ℕ → Bool
is_well_at text None = list_all (λ b. ltb b 256) text
is_well_at text (Some start) = is_cut_well start (take start text) (behind_brace (drop start text))

abbrev seen : List ℕ × Route → Option (List ℕ) × Bool
seen path = (pattern_of (parse_route path.0), is_well_at path.0 (brace_in path.0))

abbrev IsWell : List ℕ × Route → Type 0
IsWell path = seen path ≡ (Some (shape_at path.0 (brace_in path.0)), true)

all_seen : map seen paths ≡ map (λ path. (Some (shape_at path.0 (brace_in path.0)), true)) paths
unfolding matchit_on_literals is_utf8 chars encode
all_seen = refl

each_is : {X Y : Type 0} (f g : X → Y) (xs : List X) → map f xs ≡ map g xs → AllByRecursion (λ x. f x ≡ g x) xs
each_is f g [] h = tt
each_is f g (x ∷ xs) h =
    let head : f x ≡ g x = cc in
    let tail : map f xs ≡ map g xs = cc in
    (head, each_is f g xs tail)

each_well : AllByRecursion IsWell paths
each_well = each_is seen (λ path. (Some (shape_at path.0 (brace_in path.0)), true)) paths all_seen

-- a row of the table is that of a path of the list
table_rows : (t : List ℕ) (k : Kept) → Has table t k → Any (λ path. IsWell path × IsRow path t k) paths
unfolding table
table_rows t k h = elim (rows_of_paths IsWell paths [] t k each_well h) [ inl any ↦ any | inr none ↦ absurd none ]

shape_is : (text t : List ℕ) (o : Option ℕ) (b : Bool) (s : Result Scan InsertError) (scan : Scan) → ◌≡◌ {A = Option (List ℕ) × Bool} (pattern_of s, b) (Some (shape_at text o), true) → s ≡ Ok scan → scan.pattern ≡ t → t ≡ shape_at text o
shape_is text t o b s scan well is row =
    let shown : pattern_of s ≡ Some (shape_at text o) = ap (λ p. p.0) well in
    let kept : pattern_of s ≡ Some scan.pattern = ap pattern_of is in
    let same : scan.pattern ≡ shape_at text o = cc in
    sym row ∙ same

-- ---- what such a pattern takes

no_bytes : (b : ℕ) (bs rest path : List ℕ) → AreBytes path → path ≡ b ∷ rest → b ≡ 256 → ⊥
no_bytes b bs rest path small is wild =
    let low : b < 256 = (subst AreBytes is small).0 in
    absurd (omega arith)

-- bytes are taken as they stand
takes_front : (front ts path : List ℕ) → AreBytes front → Takes (front ++ ts) path → (rest : List ℕ) × (path ≡ front ++ rest) × Takes ts rest
takes_front [] ts path small h = (path, refl, h)
takes_front (b ∷ front) ts path small h =
    let low = small.0 in
    elim h [
      | inl byte ↦ (
          let more = takes_front front ts byte.1 small.1 byte.3 in
          (more.0, byte.2 ∙ ap (λ r. b ∷ r) more.1, more.2)
          )
      | inr wild ↦ elim wild [
        | inl param ↦ absurd (let is = param.0 in omega arith)
        | inr all ↦ absurd (omega (arith, all))
      ]
    ]

takes_text : (text path : List ℕ) → AreBytes text → Takes text path → path ≡ text
takes_text [] path small h = h
takes_text (b ∷ text) path small h =
    let low = small.0 in
    elim h [
      | inl byte ↦ byte.2 ∙ ap (λ r. b ∷ r) (takes_text text byte.1 small.1 byte.3)
      | inr wild ↦ elim wild [
        | inl param ↦ absurd (let is = param.0 in omega arith)
        | inr all ↦ absurd (omega (arith, all))
      ]
    ]

-- some text without a slash stands in the braces' place
record IsCut (front back path : List ℕ) : Type 0 where
  segment : List ℕ
  is : path ≡ front ++ (segment ++ back)
  some : 0 < length segment
  free : has_slash segment ≡ false

split_at : (n : ℕ) (path : List ℕ) → take n path ++ drop n path ≡ path
split_at n path = take-append-drop n path

bytes_behind : (front rest path : List ℕ) → AreBytes path → path ≡ front ++ rest → AreBytes rest
bytes_behind [] rest path small is = subst AreBytes is small
bytes_behind (b ∷ front) rest [] small is = absurd (cc)
bytes_behind (b ∷ front) rest (x ∷ path) small is =
    let tail : path ≡ front ++ rest = cc in
    bytes_behind front rest path small.1 tail

taken_size : (n : ℕ) (path : List ℕ) → 0 < n → n ≤ length path → 0 < length (take n path)
taken_size n path some within = omega (arith, length-take n path)

cut_param : (front back rest path : List ℕ) → AreBytes back → AreBytes rest → path ≡ front ++ rest → Takes (256 ∷ back) rest → IsCut front back path
cut_param front back rest path small bytes is h = elim h [
  | inl byte ↦ absurd (let low = byte.0 in omega arith)
  | inr wild ↦ elim wild [
    | inl param ↦ (
        let n = param.1 in
        let behind : drop n rest ≡ back = takes_text back (drop n rest) small param.5 in
        record {
          segment = take n rest;
          is = is ∙ ap (λ r. front ++ r) (sym (split_at n rest) ∙ ap (λ r. take n rest ++ r) behind);
          some = taken_size n rest param.2 param.3;
          free = param.4;
        }
        )
    | inr all ↦ absurd (omega (arith, all))
  ]
]

cut_at : (front back path : List ℕ) → AreBytes front → AreBytes back → AreBytes path → Takes (front ++ 256 ∷ back) path → IsCut front back path
cut_at front back path small low bytes h =
    let f = takes_front front (256 ∷ back) path small h in
    cut_param front back f.0 path low (bytes_behind front f.0 path bytes f.1) f.1 f.2

-- ---- the segment, and the id in it

before_free : (seg : List ℕ) → has_slash seg ≡ false → before_slash seg ≡ seg
before_free [] free = refl
before_free (b ∷ seg) free = free_byte (b == 47) (λ e. before_free seg e) free
  where
    free_byte : (v : Bool) → (has_slash seg ≡ false → before_slash seg ≡ seg) → cond v true (has_slash seg) ≡ false → cond v [] (b ∷ before_slash seg) ≡ b ∷ seg
    free_byte true more free = absurd (cc)
    free_byte false more free = ap (λ t. b ∷ t) (more free)

before_back : (seg back : List ℕ) → has_slash seg ≡ false → ends_segment back ≡ true → before_slash (seg ++ back) ≡ seg
before_back [] [] free ends = refl
before_back [] (b ∷ back) free ends = rw ends refl
before_back (b ∷ seg) back free ends = behind_byte (b == 47) (λ e. before_back seg back e ends) free
  where
    behind_byte : (v : Bool) → (has_slash seg ≡ false → before_slash (seg ++ back) ≡ seg) → cond v true (has_slash seg) ≡ false → cond v [] (b ∷ before_slash (seg ++ back)) ≡ b ∷ seg
    behind_byte true more free = absurd (cc)
    behind_byte false more free = ap (λ t. b ∷ t) (more free)

own_digits : IsNumeralModel (λ ds. AllDigits 10 ds) (digits_value 10)
own_digits = numerals_by_value _ (search rules)

zero_alone : (bs : List ℕ) → leads_with_zero bs ≡ false → get_or bs 0 0 ≡ 48 → length bs ≡ 1
zero_alone [] h first = absurd (omega arith)
zero_alone (b ∷ bs) h first = grind (arith, nat_tests)

else_some : (t : Bool) (o : Option ℕ) (n : ℕ) → cond t None o ≡ Some n → (t ≡ false) × (o ≡ Some n)
else_some true o n h = absurd (cc)
else_some false o n h = (refl, h)

ranged : (least most n : ℕ) (o : Option ℕ) → in_range least most o ≡ Some n → o ≡ Some n
ranged least most n (Some m) h = (pick_some (leb least m && leb m most) (Some m) n h).1
ranged least most n None h = absurd (cc)

-- the id that a segment spells is written so
id_text : (n : ℕ) (bs : List ℕ) → number_in 10 1 COUNTER_LIMIT bs ≡ Some n → bs ≡ decimal n
id_text n bs h =
    let form = else_some (leads_with_zero bs) (digits_in 10 1 COUNTER_LIMIT bs) n h in
    let picked = pick_some (leb 1 (length bs) && leb (length bs) 10) (numeral 10 bs) n (ranged 1 COUNTER_LIMIT n (short_numeral 10 10 bs) form.1) in
    let sized = and_parts (leb 1 (length bs)) (leb (length bs) 10) picked.0 in
    let some = leb-true 1 (length bs) sized.0 in
    let short = leb-true (length bs) 10 sized.1 in
    let read = numeral_some 10 0 n bs picked.1 in
    let below = digits_value-lt 10 bs read.0 in
    let top : 10 ^ length bs ≤ 10 ^ 10 = pow-le-pow_right {n = 10} (omega arith) {i = length bs} {j = 10} (omega arith) in
    sym (decimal-digits_value own_digits bs read.0 some (zero_alone bs form.0) (omega arith)) ∙ ap decimal read.1

-- ---- what leads somewhere

no_text : (path : List ℕ) → is_utf8 path ≡ false → leads path ≡ None
no_text path none = rw none refl

no_entry : (path : List ℕ) → is_utf8 path ≡ true → entry_in path ≡ None → leads path ≡ None
no_entry path text none = rw (text, none) refl

-- a path that leads somewhere is text, and its row's entry says where
record IsEntered (path : List ℕ) (led : Route × ℕ × List ℕ) : Type 0 where
  text : IsUtf8 path
  kept : Kept
  row : first table path ≡ Some kept
  told_is : option_map (told path) (with_id path kept.value) ≡ Some led

kept_of : (path : List ℕ) (led : Route × ℕ × List ℕ) → is_utf8 path ≡ true → leads path ≡ Some led → (o : Option Kept) → first table path ≡ o → IsEntered path led
kept_of path led text h None row =
    let none : entry_in path ≡ None = ap (option_map (λ (r : Kept). r.value)) row in
    absurd (let nowhere = no_entry path text none in cc)
kept_of path led text h (Some k) row =
    let here : entry_in path ≡ Some k.value = ap (option_map (λ (r : Kept). r.value)) row in
    record {
      text = IsUtf8-from_is_utf8 path text;
      kept = k;
      row = row;
      told_is = sym (leads_by path k.value text here) ∙ h;
    }

entered_of : (path : List ℕ) (led : Route × ℕ × List ℕ) → leads path ≡ Some led → IsEntered path led
entered_of path led h = elim (cases_Bool (is_utf8 path)) [
  | inl text ↦ kept_of path led text h (first table path) refl
  | inr none ↦ absurd (let nowhere = no_text path none in cc)
]

-- what an entry says, field by field
record IsTold (path : List ℕ) (e : Entry) (route : Route) (id : ℕ) (segment : List ℕ) : Type 0 where
  route_is : route ≡ e.route
  segment_is : segment ≡ segment_from path e.start
  with : e.has_id ≡ true → id_of (segment_from path e.start) ≡ Some id
  without : e.has_id ≡ false → id ≡ 0

read_id : (path : List ℕ) (e : Entry) (route : Route) (id : ℕ) (segment : List ℕ) (o : Option ℕ) → e.has_id ≡ true → id_of (segment_from path e.start) ≡ o
    → option_map (told path) (option_map (λ n. record { route = e.route; id = n; start = e.start }) o) ≡ Some (route, id, segment) → IsTold path e route id segment
read_id path e route id segment None has is h = absurd (cc)
read_id path e route id segment (Some n) has is h =
    let same : ◌≡◌ {A = Route × ℕ × List ℕ} (e.route, n, segment_from path e.start) (route, id, segment) = cc in
    let number : n ≡ id = ap (λ p. p.1) same in
    record {
      route_is = sym (ap (λ p. p.0) same);
      segment_is = sym (ap (λ p. p.2) same);
      with = λ _. is ∙ ap Some number;
      without = λ none. absurd (cc);
    }

told_of : (path : List ℕ) (e : Entry) (route : Route) (id : ℕ) (segment : List ℕ) (v : Bool) → e.has_id ≡ v
    → option_map (told path) (cond v (option_map (λ n. record { route = e.route; id = n; start = e.start }) (id_of (segment_from path e.start))) (Some (record { route = e.route; id = 0; start = e.start }))) ≡ Some (route, id, segment)
    → IsTold path e route id segment
told_of path e route id segment true has h = read_id path e route id segment (id_of (segment_from path e.start)) has refl h
told_of path e route id segment false has h =
    let same : ◌≡◌ {A = Route × ℕ × List ℕ} (e.route, 0, segment_from path e.start) (route, id, segment) = cc in
    record {
      route_is = sym (ap (λ p. p.0) same);
      segment_is = sym (ap (λ p. p.2) same);
      with = λ some. absurd (cc);
      without = λ _. sym (ap (λ p. p.1) same);
    }

-- a segment of a text is text
segment_text : (front segment back path : List ℕ) → IsUtf8 path → IsUtf8 front → IsUtf8 back → path ≡ front ++ (segment ++ back) → IsUtf8 segment
segment_text front segment back path text before behind is =
    let whole : IsUtf8 (front ++ (segment ++ back)) = subst IsUtf8 is text in
    let fits : length front ≤ length (front ++ (segment ++ back)) = omega (arith, length-append front (segment ++ back)) in
    let first : IsUtf8 (take (length front) (front ++ (segment ++ back))) = subst IsUtf8 (sym (take-append_seam front (segment ++ back))) before in
    let rest : IsUtf8 (segment ++ back) =
    subst IsUtf8 (drop-append_seam front (segment ++ back))
    (IsUtf8-drop (front ++ (segment ++ back)) (length front) whole (IsCharBoundary-from_take (front ++ (segment ++ back)) (length front) whole fits first)) in
    subst IsUtf8 (take-append_seam segment back)
    (IsUtf8-take (segment ++ back) (length segment) rest (IsCharBoundary-at_seam (segment ++ back) segment back refl behind))

-- the path with braces, as it was read
read_at : (text path front back : List ℕ) (route r : Route) (id start : ℕ) (segment : List ℕ) → front ≡ take start text → back ≡ behind_brace (drop start text)
    → is_cut_well start front back ≡ true → names_id text ≡ names_id_at text (Some start) → IsUtf8 path → IsCut front back path
    → IsTold path (entry_at text r (Some start)) route id segment → (path ≡ filled_at text segment (Some start)) × IsReadAt text (Some start) id segment
read_at text path front back route r id start segment front_is back_is well names utf8 cut told =
    let checks = all5 (nat_eq (length front) start) (is_utf8 front && list_all (λ b. ltb b 256) front) (is_utf8 back && list_all (λ b. ltb b 256) back) (ends_segment back) true well in
    let here : length front ≡ start = grind (arith, nat_tests) in
    let behind : drop start path ≡ cut.segment ++ back =
    ap (λ n. drop n path) (sym here) ∙ ap (drop (length front)) cut.is ∙ drop-append_seam front (cut.segment ++ back) in
    let found : segment_from path start ≡ cut.segment = ap before_slash behind ∙ before_back cut.segment back cut.free checks.3 in
    let same : segment ≡ cut.segment = told.segment_is ∙ found in
    let utf8_front = IsUtf8-from_is_utf8 front (and_parts (is_utf8 front) (list_all (λ b. ltb b 256) front) checks.1).0 in
    let utf8_back = IsUtf8-from_is_utf8 back (and_parts (is_utf8 back) (list_all (λ b. ltb b 256) back) checks.2).0 in
    let is_segment : IsSegment cut.segment = (cut.some, segment_text front cut.segment back path utf8 utf8_front utf8_back cut.is, cut.free) in (
      cut.is ∙ ap (λ s. front ++ (s ++ back)) (sym same) ∙ ap (λ f. f ++ (segment ++ back)) front_is ∙ ap (λ b. take start text ++ (segment ++ b)) back_is,
      (
        subst IsSegment (sym same) is_segment,
        λ has.
            (let read = told.with (sym names ∙ has) in
            let fits = number_in_fits 10 1 COUNTER_LIMIT id (segment_from path start) read in
            (fits.0, fits.1, told.segment_is ∙ id_text id (segment_from path start) read)),
        λ has. told.without (sym names ∙ has),
      ),
    )

-- the path without braces, as it was read
fixed_at : (text path : List ℕ) (route r : Route) (id : ℕ) (segment : List ℕ) → path ≡ text → IsTold path (entry_at text r None) route id segment
    → (path ≡ filled_at text segment None) × IsReadAt text None id segment
fixed_at text path route r id segment is told =
    (is, (told.without refl, told.segment_is ∙ ap (λ p. before_slash (drop (length text) p)) is ∙ ap before_slash (drop-length text)))

entry_route : (text : List ℕ) (r : Route) (o : Option ℕ) → (entry_at text r o).route ≡ r
entry_route text r None = refl
entry_route text r (Some start) = refl

read_of : (text path : List ℕ) (route r : Route) (id : ℕ) (segment : List ℕ) (o : Option ℕ) → brace_in text ≡ o → is_well_at text o ≡ true → IsUtf8 path
    → Takes (shape_at text o) path → IsTold path (entry_at text r o) route id segment → (path ≡ filled_at text segment o) × IsReadAt text o id segment
read_of text path route r id segment None brace well utf8 takes told =
    fixed_at text path route r id segment (takes_text text path (all_bytes text well) takes) told
read_of text path route r id segment (Some start) brace well utf8 takes told =
    let front = take start text in
    let back = behind_brace (drop start text) in
    let checks = all5 (nat_eq (length front) start) (is_utf8 front && list_all (λ b. ltb b 256) front) (is_utf8 back && list_all (λ b. ltb b 256) back) (ends_segment back) true well in
    let cut = cut_at front back path (all_bytes front (and_parts (is_utf8 front) (list_all (λ b. ltb b 256) front) checks.1).1)
    (all_bytes back (and_parts (is_utf8 back) (list_all (λ b. ltb b 256) back) checks.2).1) (text_bytes path utf8) takes in
    read_at text path front back route r id start segment refl refl well (ap (names_id_at text) brace) utf8 cut told

led_row : (path : List ℕ) (route : Route) (id : ℕ) (segment t : List ℕ) (k : Kept) (row : List ℕ × Route) → IsUtf8 path → Takes t path
    → option_map (told path) (with_id path k.value) ≡ Some (route, id, segment) → IsWell row × IsRow row t k → IsLed path route id segment row
led_row path route id segment t k row utf8 takes h is =
    let o = brace_in row.0 in
    let shape = shape_is row.0 t o (is_well_at row.0 o) (parse_route row.0) is.1.0 is.0 is.1.1 is.1.2 in
    let well : is_well_at row.0 o ≡ true = ap (λ p. p.1) is.0 in
    let e = entry_of row.0 row.1 in
    let told_is : option_map (told path) (with_id path e) ≡ Some (route, id, segment) = ap (λ v. option_map (told path) (with_id path v)) (sym is.1.3) ∙ h in
    let says = told_of path e route id segment e.has_id refl told_is in
    let read = read_of row.0 path route row.1 id segment o refl well utf8 (subst (λ p. Takes p path) shape takes) says in
    record { path_is = read.0; route_is = says.route_is ∙ entry_route row.0 row.1 o; read = read.1 }

any_weaker : {X : Type 0} (P Q : X → Type 0) (xs : List X) → ((x : X) → P x → Q x) → Any P xs → Any Q xs
any_weaker P Q xs step a = (a.0, a.1, a.2, a.3, step a.1 a.4)

pub only_lead : (path : List ℕ) (route : Route) (id : ℕ) (segment : List ℕ) → leads path ≡ Some (route, id, segment) → Any (IsLed path route id segment) paths
only_lead path route id segment h =
    let e = entered_of path (route, id, segment) h in
    let f = sought 0 path table e.kept (text_bytes path e.text) e.row in
    any_weaker (λ row. IsWell row × IsRow row f.0 e.kept) (IsLed path route id segment) paths
    (λ row is. led_row path route id segment f.0 e.kept row e.text f.2 e.told_is is) (table_rows f.0 e.kept f.1)

pub leads_nowhere : (path : List ℕ) → ((route : Route) (id : ℕ) (segment : List ℕ) → Any (IsLed path route id segment) paths → ⊥) → leads path ≡ None
leads_nowhere path none = by_answer (leads path) refl
  where
    by_answer : (o : Option (Route × ℕ × List ℕ)) → leads path ≡ o → o ≡ None
    by_answer None is = refl
    by_answer (Some led) is = absurd (none led.0 led.1 led.2 (only_lead path led.0 led.1 led.2 is))
