-- Which value a name has among members that needn't be there, where their names rise.
use Rattle.std.proofs.Common.{◌≡◌, ℕ, true, List, [], ◌∷◌, Option, Some, None, refl, sym, ap, ◌∙◌}
use Rattle.std.specs.Prelude.{option_and_then}
use Rattle.std.specs.Ordering.{nat_cmp, match_ordering}
use Rattle.std.specs.declared.cmp.Ordering.{Ordering}
use Rattle.std.specs.declared.cmp.Ordering.TheVariants.{Less, Equal, Greater}
use Rattle.std.specs.Cmp.Lexicographic.{slice_cmp}
use Rattle.std.proofs.lemmas.Bool.{and_parts}
use Rattle.std.proofs.lemmas.Cmp.{nat_list_cmp_total, tied_itself}
use Rattle.std.proofs.lemmas.Map.Lookups.{exact_bytes}
use Rattle.serde_json.specs.Data.{Data, Members, no_members, member, object}
use Rattle.serde_json.specs.Find.{get_member}
use Rattle.serde_json.proofs.Views.{get_member-put, get_member-put_other}
use Rattle.wire_json.specs.Body.{member_of, unless_null}
use Rattle.wire_write.specs.Parts.{some_member}
use Rattle.wire_write.proofs.MemberLemmas.{AllBehind, before_all, optional_members}
use Rattle.wire_laws.proofs.MemberLemmas.{Named, behind, in_order}

-- the value of that name
abbrev pub value_of : List ℕ → List Named → Option Data
value_of k [] = None
value_of k (m ∷ ms) = match_ordering (slice_cmp nat_cmp k m.0) (value_of k ms) m.1 (value_of k ms)

none_behind : (k : List ℕ) (ms : Members) → AllBehind k ms → get_member k ms ≡ None
none_behind k no_members h = refl
none_behind k (member l e ms) h = ap (λ o. match_ordering o (get_member k ms) (Some e) (get_member k ms)) h.0 ∙ none_behind k ms h.1

less_differs : (k l : List ℕ) → slice_cmp nat_cmp k l ≡ Less → k ≡ l → ⊥
less_differs k l less same =
    let tied : slice_cmp nat_cmp k l ≡ Equal = ap (slice_cmp nat_cmp k) (sym same) ∙ tied_itself nat_list_cmp_total k in
    let bad = sym less ∙ tied in
    cc (bad)

greater_differs : (k l : List ℕ) → slice_cmp nat_cmp k l ≡ Greater → k ≡ l → ⊥
greater_differs k l greater same =
    let tied : slice_cmp nat_cmp k l ≡ Equal = ap (slice_cmp nat_cmp k) (sym same) ∙ tied_itself nat_list_cmp_total k in
    let bad = sym greater ∙ tied in
    cc (bad)

other_found : (k l : List ℕ) (o : Option Data) (ms : Members) → (k ≡ l → ⊥) → get_member k (some_member l o ms) ≡ get_member k ms
other_found k l None ms other = refl
other_found k l (Some d) ms other = get_member-put_other k l d ms other

same_found : (k : List ℕ) (o : Option Data) (ms : Members) → AllBehind k ms → get_member k (some_member k o ms) ≡ o
same_found k None ms h = none_behind k ms h
same_found k (Some d) ms h = get_member-put k d ms

one_found : (k l : List ℕ) (o : Option Data) (ms : Members) (rest : Option Data) → AllBehind l ms → get_member k ms ≡ rest → (r : Ordering) → slice_cmp nat_cmp k l ≡ r
    → get_member k (some_member l o ms) ≡ match_ordering r rest o rest
one_found k l o ms rest h later Less is = other_found k l o ms (less_differs k l is) ∙ later
one_found k l o ms rest h later Equal is = ap (λ n. get_member n (some_member l o ms)) (exact_bytes k l is) ∙ same_found l o ms h
one_found k l o ms rest h later Greater is = other_found k l o ms (greater_differs k l is) ∙ later

found : (k : List ℕ) (ms : List Named) → in_order ms ≡ true → get_member k (optional_members ms) ≡ value_of k ms
found k [] h = refl
found k (m ∷ ms) h =
    let parts = and_parts (before_all m.0 ms) (in_order ms) h in
    one_found k m.0 m.1 (optional_members ms) (value_of k ms) (behind m.0 ms parts.0) (found k ms parts.1) (slice_cmp nat_cmp k m.0) refl

-- the member of that name, unless it is `null`
pub member_found : (k : List ℕ) (ms : List Named) → in_order ms ≡ true → member_of k (object (optional_members ms)) ≡ option_and_then unless_null (value_of k ms)
member_found k ms h = ap (option_and_then unless_null) (found k ms h)
