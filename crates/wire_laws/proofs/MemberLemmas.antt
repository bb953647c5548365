-- Members that needn't be there tell which of them are, where their names stand in byte order.
use Rattle.std.proofs.Common.{◌≡◌, ℕ, List, [], ◌∷◌, Bool, true, false, ◌&&◌, Option, Some, None, refl, sym, ap, ◌∙◌}
use Rattle.std.specs.Prelude.{⊤, IfSome, map}
use Rattle.std.specs.Ordering.{nat_cmp, match_ordering}
use Rattle.std.specs.declared.cmp.Ordering.TheVariants.{Less, Equal, Greater}
use Rattle.std.specs.Cmp.Lexicographic.{slice_cmp}
use Rattle.std.proofs.lemmas.Bool.{and_parts}
use Rattle.std.proofs.lemmas.Cmp.{nat_list_cmp_total, tied_itself}
use Rattle.serde_json.specs.Data.{Data, Members, no_members, member, put}
use Rattle.wire_write.specs.Parts.{some_member}
use Rattle.wire_write.proofs.MemberLemmas.{AllBehind, before_all, behind_some, optional_members, put_first}
use Rattle.wire_laws.specs.Trees.{HaveTrees, IsTree}
use Rattle.wire_laws.proofs.FormLemmas.{members_tell}

-- a name, and a value where there is one
abbrev pub Named : Type 0
Named = List ℕ × Option Data

-- the names rise
abbrev pub in_order : List Named → Bool
in_order [] = true
in_order (m ∷ ms) = before_all m.0 ms && in_order ms

behind_cmp : (k l : List ℕ) (b : Bool) → match_ordering (slice_cmp nat_cmp k l) b false false ≡ true → (slice_cmp nat_cmp k l ≡ Less) × (b ≡ true)
behind_cmp k l b h = elim (slice_cmp nat_cmp k l) as (λ o. match_ordering o b false false ≡ true → (o ≡ Less) × (b ≡ true)) [
  | Less ↦ λ e. (refl, e)
  | Equal ↦ λ e. absurd (cc (e))
  | Greater ↦ λ e. absurd (cc (e))
] h

pub behind : (k : List ℕ) (ms : List Named) → before_all k ms ≡ true → AllBehind k (optional_members ms)
behind k [] h = tt
behind k (m ∷ ms) h =
    let parts = behind_cmp k m.0 (before_all k ms) h in
    behind_some k m.0 m.1 (optional_members ms) parts.0 (behind k ms parts.1)

-- a name doesn't come before itself
first_behind : (k : List ℕ) (d : Data) (ms ns : Members) → AllBehind k ms → ms ≡ member k d ns → ⊥
first_behind k d no_members ns h e = cc (e)
first_behind k d (member l c ms) ns h e =
    let same : l ≡ k = cc (e) in
    let less : slice_cmp nat_cmp k k ≡ Less = ap (slice_cmp nat_cmp k) (sym same) ∙ h.0 in
    let bad = sym less ∙ tied_itself nat_list_cmp_total k in
    cc (bad)

one_tells : (k : List ℕ) (o p : Option Data) (ms ns : Members) → AllBehind k ms → AllBehind k ns → some_member k o ms ≡ some_member k p ns → (o ≡ p) × (ms ≡ ns)
one_tells k None None ms ns h g e = (refl, e)
one_tells k None (Some d) ms ns h g e = absurd (first_behind k d ms ns h (e ∙ put_first k d ns g))
one_tells k (Some d) None ms ns h g e = absurd (first_behind k d ns ms g (sym e ∙ put_first k d ms h))
one_tells k (Some d) (Some c) ms ns h g e =
    let both = members_tell k d c ms ns (sym (put_first k d ms h) ∙ e ∙ put_first k c ns g) in
    (ap Some both.0, both.1)

-- the values are equal, one by one
abbrev pub SameValues : List Named → List Named → Type 0
SameValues [] [] = ⊤
SameValues [] (n ∷ ns) = ⊥
SameValues (m ∷ ms) [] = ⊥
SameValues (m ∷ ms) (n ∷ ns) = (m.1 ≡ n.1) × SameValues ms ns

abbrev pub names : List Named → List (List ℕ)
names ms = map (λ m. m.0) ms

pub optional_tell : (ms ns : List Named) → names ms ≡ names ns → in_order ms ≡ true → in_order ns ≡ true → optional_members ms ≡ optional_members ns → SameValues ms ns
optional_tell [] [] s h g e = tt
optional_tell [] (n ∷ ns) s h g e = absurd (cc (s))
optional_tell (m ∷ ms) [] s h g e = absurd (cc (s))
optional_tell (m ∷ ms) (n ∷ ns) s h g e =
    let name : m.0 ≡ n.0 = cc (s) in
    let more : names ms ≡ names ns = cc (s) in
    let left = and_parts (before_all m.0 ms) (in_order ms) h in
    let right = and_parts (before_all n.0 ns) (in_order ns) g in
    let ahead : before_all m.0 ns ≡ true = ap (λ k. before_all k ns) name ∙ right.0 in
    let all : some_member m.0 m.1 (optional_members ms) ≡ some_member m.0 n.1 (optional_members ns) = e ∙ ap (λ k. some_member k n.1 (optional_members ns)) (sym name) in
    let both = one_tells m.0 m.1 n.1 (optional_members ms) (optional_members ns) (behind m.0 ms left.0) (behind m.0 ns ahead) all in
    (both.0, optional_tell ms ns more left.1 right.1 both.1)

-- ---- trees

put_grows : (n : ℕ) (k : List ℕ) (d : Data) (ms : Members) → IsTree n d → HaveTrees n ms → HaveTrees n (put k d ms)
put_grows n k d no_members t h = (t, tt)
put_grows n k d (member l e ms) t h = elim (slice_cmp nat_cmp k l) as (λ o. HaveTrees n (match_ordering o (member k d (member l e ms)) (member l d ms) (member l e (put k d ms)))) [
  | Less ↦ (t, h)
  | Equal ↦ (t, h.1)
  | Greater ↦ (h.0, put_grows n k d ms t h.1)
]

-- each value that there is, is a tree
abbrev pub AllGrow : ℕ → List Named → Type 0
AllGrow n [] = ⊤
AllGrow n (m ∷ ms) = IfSome m.1 (IsTree n) × AllGrow n ms

some_grows : (n : ℕ) (k : List ℕ) (o : Option Data) (ms : Members) → IfSome o (IsTree n) → HaveTrees n ms → HaveTrees n (some_member k o ms)
some_grows n k None ms t h = h
some_grows n k (Some d) ms t h = put_grows n k d ms t h

pub optional_grow : (n : ℕ) (ms : List Named) → AllGrow n ms → HaveTrees n (optional_members ms)
optional_grow n [] h = tt
optional_grow n (m ∷ ms) h = some_grows n m.0 m.1 (optional_members ms) h.0 (optional_grow n ms h.1)
