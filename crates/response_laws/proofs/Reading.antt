-- JSON that was written is read again: members go in one after another, and so stand as they stood where their
-- names rise.
use Rattle.std.proofs.Common.{◌≡◌, ◌≤◌, ℕ, true, Option, List, [], ◌∷◌, Some, None, refl, sym, ap, subst, ◌∙◌, arith, append-nil}
use Rattle.std.specs.Prelude.{⊤, IfSome, map, option_map, option_and_then}
use Rattle.std.specs.List.{AllByRecursion}
use Rattle.std.specs.Ordering.{nat_cmp, match_ordering, ordering_reverse}
use Rattle.std.specs.declared.cmp.Ordering.TheVariants.{Less, Greater}
use Rattle.std.specs.Cmp.Lexicographic.{slice_cmp}
use Rattle.std.proofs.lemmas.Bool.{and_parts}
use Rattle.std.proofs.lemmas.Cmp.{nat_list_cmp_total}
use Rattle.json.specs.Token.{Token}
use Rattle.json.specs.Json as json
use Rattle.json.specs.Tree.{json_tokens}
use Rattle.json.proofs.Printed.Tokens.{tokens-print}
use Rattle.json.proofs.Printed.Trees.{ArePrintable-json_tokens, value-json_tokens}
use Rattle.serde_json.specs.Data.{Data, number, array, object, Members, no_members, member, put}
use Rattle.serde_json.specs.Read.{max_depth, of_json, of_items, of_members, read}
use Rattle.serde_json.specs.View.{items_of}
use Rattle.serde_json.specs.Written.{compact_text, items_outline, members_outline, outline}
use Rattle.serde_json.proofs.Numbers.{number_of-decimal}
use Rattle.serde_json.proofs.Texts.{print-outline}
use Rattle.response_values.specs.Values.{FitsWord}
use Rattle.wire_write.specs.Parts.{array_data, number_data, some_array, some_member}
use Rattle.wire_write.proofs.MemberLemmas.{AllBehind, before_all, optional_members, put_first}
use Rattle.wire_laws.specs.Trees.{IsTree}
use Rattle.wire_laws.proofs.MemberLemmas.{Named, behind, in_order}
use Rattle.wire_laws.proofs.TreeLemmas.{has_numbers, shallow}

-- the JSON that is written of a value is read as it
abbrev pub Reads : Data → Type 0
Reads d = of_json (outline d) ≡ Some d

pub number_reads : (n : ℕ) → FitsWord n → Reads (number_data n)
number_reads n h = ap (option_map number) (number_of-decimal n h)

items_read : {X : Type 0} (f : X → Data) (P : X → Type 0) → ((x : X) → P x → Reads (f x)) → (xs : List X) → AllByRecursion P xs → of_items (items_outline (items_of (map f xs))) ≡ Some (items_of (map f xs))
items_read f P reads [] h = refl
items_read f P reads (x ∷ xs) h = rw (reads x h.0, items_read f P reads xs h.1)

pub arrays_read : {X : Type 0} (f : X → Data) (P : X → Type 0) → ((x : X) → P x → Reads (f x)) → (xs : List X) → AllByRecursion P xs → Reads (array_data f xs)
arrays_read f P reads xs h = ap (option_map array) (items_read f P reads xs h)

pub options_read : {X : Type 0} (f : X → Data) (P : X → Type 0) → ((x : X) → P x → Reads (f x)) → (o : Option X) → IfSome o P → IfSome (option_map f o) Reads
options_read f P reads None h = tt
options_read f P reads (Some x) h = reads x h

pub lists_read : {X : Type 0} (f : X → Data) (P : X → Type 0) → ((x : X) → P x → Reads (f x)) → (xs : List X) → AllByRecursion P xs → IfSome (some_array f xs) Reads
lists_read f P reads [] h = tt
lists_read f P reads (x ∷ xs) h = arrays_read f P reads (x ∷ xs) h

-- ---- members

-- the members, and others behind them
abbrev joined : Members → Members → Members
joined no_members ms = ms
joined (member k d fs) ms = member k d (joined fs ms)

joined_none : (fs : Members) → joined fs no_members ≡ fs
joined_none no_members = refl
joined_none (member k d fs) = ap (member k d) (joined_none fs)

joined_twice : (fs : Members) (k : List ℕ) (d : Data) (ms : Members) → joined (joined fs (member k d no_members)) ms ≡ joined fs (member k d ms)
joined_twice no_members k d ms = refl
joined_twice (member l e fs) k d ms = ap (member l e) (joined_twice fs k d ms)

-- the name comes behind each of theirs
abbrev AllAhead : List ℕ → Members → Type 0
AllAhead k no_members = ⊤
AllAhead k (member l e fs) = (slice_cmp nat_cmp k l ≡ Greater) × AllAhead k fs

put_last : (k : List ℕ) (d : Data) (fs : Members) → AllAhead k fs → put k d fs ≡ joined fs (member k d no_members)
put_last k d no_members h = refl
put_last k d (member l e fs) h =
    ap (λ o. match_ordering o (member k d (member l e fs)) (member l d fs) (member l e (put k d fs))) h.0
    ∙ ap (member l e) (put_last k d fs h.1)

ahead_more : (l k : List ℕ) (d : Data) (fs : Members) → AllAhead l fs → slice_cmp nat_cmp l k ≡ Greater → AllAhead l (joined fs (member k d no_members))
ahead_more l k d no_members h more = (more, tt)
ahead_more l k d (member n e fs) h more = (h.0, ahead_more l k d fs h.1 more)

-- each of these comes behind all of those
abbrev Ahead : Members → Members → Type 0
Ahead fs no_members = ⊤
Ahead fs (member k d ms) = AllAhead k fs × Ahead fs ms

turned : (k l : List ℕ) → slice_cmp nat_cmp k l ≡ Less → slice_cmp nat_cmp l k ≡ Greater
turned k l less = nat_list_cmp_total.antisymm l k ∙ ap ordering_reverse less

all_ahead : (k : List ℕ) (d : Data) (fs ms : Members) → Ahead fs ms → AllBehind k ms → Ahead (joined fs (member k d no_members)) ms
all_ahead k d fs no_members h less = tt
all_ahead k d fs (member l e ms) h less = (ahead_more l k d fs h.0 (turned k l less.0), all_ahead k d fs ms h.1 less.1)

-- the names rise
abbrev pub Rising : Members → Type 0
Rising no_members = ⊤
Rising (member k d ms) = AllBehind k ms × Rising ms

-- each value is read again
abbrev pub HaveReads : Members → Type 0
HaveReads no_members = ⊤
HaveReads (member k d ms) = Reads d × HaveReads ms

members_read : (fs ms : Members) → Ahead fs ms → Rising ms → HaveReads ms → of_members (members_outline ms) fs ≡ Some (joined fs ms)
members_read fs no_members ahead rise reads = ap Some (sym (joined_none fs))
members_read fs (member k d ms) ahead rise reads =
    let more : Members = joined fs (member k d no_members) in
    ap (option_and_then (λ e. of_members (members_outline ms) (put k e fs))) reads.0
    ∙ ap (of_members (members_outline ms)) (put_last k d fs ahead.0)
    ∙ members_read more ms (all_ahead k d fs ms ahead.1 rise.0) rise.1 reads.1
    ∙ ap Some (joined_twice fs k d ms)

none_ahead : (ms : Members) → Ahead no_members ms
none_ahead no_members = tt
none_ahead (member k d ms) = (tt, none_ahead ms)

pub objects_read : (ms : Members) → Rising ms → HaveReads ms → Reads (object ms)
objects_read ms rise reads = ap (option_map object) (members_read no_members ms (none_ahead ms) rise reads)

-- ---- members that needn't be there

-- each value that there is, is read again
abbrev pub AllRead : List Named → Type 0
AllRead [] = ⊤
AllRead (m ∷ ms) = IfSome m.1 Reads × AllRead ms

one_rises : (k : List ℕ) (o : Option Data) (ms : Members) → AllBehind k ms → Rising ms → Rising (some_member k o ms)
one_rises k None ms h rise = rise
one_rises k (Some d) ms h rise = subst Rising (sym (put_first k d ms h)) (h, rise)

one_reads : (k : List ℕ) (o : Option Data) (ms : Members) → AllBehind k ms → IfSome o Reads → HaveReads ms → HaveReads (some_member k o ms)
one_reads k None ms h read reads = reads
one_reads k (Some d) ms h read reads = subst HaveReads (sym (put_first k d ms h)) (read, reads)

optional_rise : (ms : List Named) → in_order ms ≡ true → Rising (optional_members ms)
optional_rise [] h = tt
optional_rise (m ∷ ms) h =
    let parts = and_parts (before_all m.0 ms) (in_order ms) h in
    one_rises m.0 m.1 (optional_members ms) (behind m.0 ms parts.0) (optional_rise ms parts.1)

optional_have : (ms : List Named) → in_order ms ≡ true → AllRead ms → HaveReads (optional_members ms)
optional_have [] h reads = tt
optional_have (m ∷ ms) h reads =
    let parts = and_parts (before_all m.0 ms) (in_order ms) h in
    one_reads m.0 m.1 (optional_members ms) (behind m.0 ms parts.0) reads.0 (optional_have ms parts.1 reads.1)

pub optional_read : (ms : List Named) → in_order ms ≡ true → AllRead ms → Reads (object (optional_members ms))
optional_read ms h reads = objects_read (optional_members ms) (optional_rise ms h) (optional_have ms h reads)

-- ---- texts

-- the value of all tokens of a text
abbrev whole : Option (json.Json × List Token) → Option Data
whole o = option_and_then of_json (option_and_then (λ p. json.if_last p.0 p.1) o)

-- the text of a tree that is read again is read as it
pub text_read : (n : ℕ) (d : Data) → n ≤ max_depth → IsTree n d → Reads d → read (compact_text d) ≡ Some d
text_read n d small tree reads =
    let j : json.Json = outline d in
    ap read (sym (print-outline d))
    ∙ ap whole (ap (json.value max_depth) (tokens-print (json_tokens j) (ArePrintable-json_tokens j (has_numbers n d tree)) ∙ sym (append-nil (json_tokens j)))
    ∙ value-json_tokens j max_depth [] (omega (arith, shallow n d tree)))
    ∙ reads
