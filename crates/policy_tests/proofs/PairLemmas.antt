-- A pair passes exactly where some rule has both ends, by rows of flags.
use Rattle.std.proofs.Common.{◌≡◌, ◌&&◌, ◌||◌, ◌<◌, ◌+◌, ℕ, Bool, true, false, List, [], ◌∷◌, length, drop, drop-cons, add-one, get_or, arith, refl, sym, ap, ◌∙◌}
use Rattle.std.specs.Prelude.{Option, map}
use Rattle.std.specs.List.{list_all, list_any}
use Rattle.std.proofs.Math.Bool.{or-false}
use Rattle.std.proofs.lemmas.List.{drop_all}
use Rattle.std.proofs.lemmas.List.Folds.{list_all-map}
use Rattle.policy_rows.specs.declared.dest.Dest.{Dest}
use Rattle.policy_rows.specs.declared.group.Group.{Group}
use Rattle.policy_rows.specs.declared.rule.Rule.{Rule}
use Rattle.policy_rows.specs.declared.selector.Selector.{Selector}
use Rattle.policy_rows.specs.declared.selector.Selector.TheVariants as sel
use Rattle.policy_sites.specs.Covers.{covers, dest_covers, is_own_devices, joins_own}
use Rattle.policy_sites.specs.Grants.{some_source}
use Rattle.policy_sites.specs.declared.end.End.{End}
use Rattle.policy_eval.specs.Expansion.{Expansion}
use Rattle.policy_tests.specs.Pairs.{dest_row, flags_meet, opens_own, opens_to, self_row, reaches_all, source_row, dest_target}
use Rattle.policy_tests.specs.Trials.{all_pass, is_open, pair_passes}
use Rattle.policy_tests.specs.declared.pairs.Target.{Target}
use Rattle.policy_tests.proofs.DenyLemmas.{any_same, lets_some, passes_by_rules}
use Rattle.policy_tests.proofs.LoopLemmas.{cut_here}

-- ---- rows

-- rows of one list meet where one of its elements passes both tests
meets_any : {A : Type 0} (f g : A → Bool) (xs : List A) → flags_meet (map f xs) (map g xs) ≡ list_any (λ x. f x && g x) xs
meets_any f g [] = refl
meets_any f g (x ∷ xs) = ap (λ b. (f x && g x) || b) (meets_any f g xs)

meets_none : (flags : List Bool) → flags_meet flags [] ≡ false
meets_none [] = refl
meets_none (a ∷ flags) = refl

-- behind the end of the second row none meet
pub meets_end : (a b : List Bool) (at : ℕ) → at ≡ length b → flags_meet (drop at a) (drop at b) ≡ false
meets_end a b at end =
    let none : drop at b ≡ [] = drop_all at b (omega arith) in
    ap (λ (bs : List Bool). flags_meet (drop at a) bs) none ∙ meets_none (drop at a)

cut_flag : (xs : List Bool) (i : ℕ) (d : Bool) → i < length xs → drop i xs ≡ get_or xs i d ∷ drop (i + 1) xs
cut_flag xs i d lt = rw (add-one, drop-cons xs i d) refl

-- one place more, where not both are set
pub meets_more : (a b : List Bool) (at : ℕ) (d e both all : Bool) → at < length a → at < length b → both ≡ (get_or a at d && get_or b at e) → both ≡ false
    → flags_meet (drop at a) (drop at b) ≡ all → flags_meet (drop (at + 1) a) (drop (at + 1) b) ≡ all
meets_more a b at d e both all in_a in_b is fails told =
    let cut : flags_meet (drop at a) (drop at b) ≡ ((get_or a at d && get_or b at e) || flags_meet (drop (at + 1) a) (drop (at + 1) b)) =
    λ i. flags_meet (cut_flag a at d in_a i) (cut_flag b at e in_b i) in
    let none : (get_or a at d && get_or b at e) ≡ false = sym is ∙ fails in
    sym (cut ∙ ap (λ c. c || flags_meet (drop (at + 1) a) (drop (at + 1) b)) none) ∙ told

-- one place where both are
pub meets_here : (a b : List Bool) (at : ℕ) (d e both all : Bool) → at < length a → at < length b → both ≡ (get_or a at d && get_or b at e) → both ≡ true
    → flags_meet (drop at a) (drop at b) ≡ all → true ≡ all
meets_here a b at d e both all in_a in_b is holds told =
    let cut : flags_meet (drop at a) (drop at b) ≡ ((get_or a at d && get_or b at e) || flags_meet (drop (at + 1) a) (drop (at + 1) b)) =
    λ i. flags_meet (cut_flag a at d in_a i) (cut_flag b at e in_b i) in
    let some : (get_or a at d && get_or b at e) ≡ true = sym is ∙ holds in
    sym (cut ∙ ap (λ c. c || flags_meet (drop (at + 1) a) (drop (at + 1) b)) some) ∙ told

-- ---- one destination, one rule

dest_splits : (groups : List Group) (selector : Selector) (s d : End) → dest_covers groups selector s d ≡ (covers groups selector d || (is_own_devices selector && joins_own s d))
dest_splits groups sel.All s d = sym (or-false (covers groups sel.All d))
dest_splits groups (sel.Net net) s d = sym (or-false (covers groups (sel.Net net) d))
dest_splits groups (sel.User login) s d = sym (or-false (covers groups (sel.User login) d))
dest_splits groups (sel.Group name) s d = sym (or-false (covers groups (sel.Group name) d))
dest_splits groups (sel.Tagged tag) s d = sym (or-false (covers groups (sel.Tagged tag) d))
dest_splits groups sel.Member s d = sym (or-false (covers groups sel.Member d))
dest_splits groups sel.AllTagged s d = sym (or-false (covers groups sel.AllTagged d))
dest_splits groups sel.Internet s d = sym (or-false (covers groups sel.Internet d))
dest_splits groups sel.OwnDevices s d = refl

-- one destination more: whether it is open, covers, is the source's own, whether both are one user's, and what the others say
entry_more : (a o c w j r q : Bool) → (((o && ((a && ((c || (w && j)) || false)) || false))) || (a && (r || (q && j)))) ≡ (a && (((o && c) || r) || (((o && w) || q) && j)))
entry_more false true c w j r q = refl
entry_more false false c w j r q = refl
entry_more true false c w j r q = refl
entry_more true true true w j r q = refl
entry_more true true false false j r q = refl
entry_more true true false true true true q = refl
entry_more true true false true true false q = refl
entry_more true true false true false true q = refl
entry_more true true false true false false true = refl
entry_more true true false true false false false = refl

none_lets : (a j : Bool) → false ≡ (a && (false || (false && j)))
none_lets true j = refl
none_lets false j = refl

-- the destinations of a rule, of which `a` is whether it has the source
entries_let : (groups : List Group) (proto : Option ℕ) (port : ℕ) (s d : End) (a : Bool) (r : Rule) (entries : List Dest)
    → list_any (λ entry. is_open proto port r entry && ((a && (dest_covers groups entry.to s d || false)) || false)) entries
    ≡ (a && (list_any (λ entry. is_open proto port r entry && covers groups entry.to d) entries || (list_any (λ entry. is_open proto port r entry && is_own_devices entry.to) entries && joins_own s d)))
entries_let groups proto port s d a r [] = none_lets a (joins_own s d)
entries_let groups proto port s d a r (entry ∷ entries) =
    let o = is_open proto port r entry in
    (λ i. (o && ((a && (dest_splits groups entry.to s d i || false)) || false)) || entries_let groups proto port s d a r entries i)
    ∙ entry_more a o (covers groups entry.to d) (is_own_devices entry.to) (joins_own s d)
    (list_any (λ e. is_open proto port r e && covers groups e.to d) entries) (list_any (λ e. is_open proto port r e && is_own_devices e.to) entries)

-- the rule has the source, and opens to the destination
abbrev lets_pair : List Group → Option ℕ → ℕ → End → End → Rule → Bool
lets_pair groups proto port s d r = some_source groups r s && (opens_to groups proto port d r || (opens_own proto port r && joins_own s d))

rule_lets : (groups : List Group) (proto : Option ℕ) (port : ℕ) (s d : End) (r : Rule) → lets_some groups proto port (s ∷ []) (d ∷ []) r ≡ lets_pair groups proto port s d r
rule_lets groups proto port s d r = entries_let groups proto port s d (some_source groups r s) r r.dests

-- ---- all rules

rows_more : (f g h j r q : Bool) → (((f && g) || r) || (((f && h) || q) && j)) ≡ ((f && (g || (h && j))) || (r || (q && j)))
rows_more false g h j r q = refl
rows_more true true h j r q = refl
rows_more true false false j r q = refl
rows_more true false true true true q = refl
rows_more true false true true false q = refl
rows_more true false true false true q = refl
rows_more true false true false false true = refl
rows_more true false true false false false = refl

rows_any : {A : Type 0} (f g h : A → Bool) (j : Bool) (xs : List A) → (list_any (λ x. f x && g x) xs || (list_any (λ x. f x && h x) xs && j)) ≡ list_any (λ x. f x && (g x || (h x && j))) xs
rows_any f g h j [] = refl
rows_any f g h j (x ∷ xs) =
    rows_more (f x) (g x) (h x) j (list_any (λ y. f y && g y) xs) (list_any (λ y. f y && h y) xs)
    ∙ ap (λ b. (f x && (g x || (h x && j))) || b) (rows_any f g h j xs)

-- one pair of ends
pair_one : (groups : List Group) (rules : List Rule) (proto : Option ℕ) (port : ℕ) (s d : End) → list_any (lets_pair groups proto port s d) rules ≡ pair_passes groups rules proto port s d
pair_one groups rules proto port s d =
    sym (any_same (lets_some groups proto port (s ∷ []) (d ∷ [])) (lets_pair groups proto port s d) rules (rule_lets groups proto port s d))
    ∙ (passes_by_rules groups rules proto port (s ∷ []) (d ∷ [])
    ∙ (or-false (pair_passes groups rules proto port s d || false) ∙ or-false (pair_passes groups rules proto port s d)))

pair_by_rows : (x : Expansion) (proto : Option ℕ) (port : ℕ) (s d : End)
    → (flags_meet (source_row x s) (dest_row x proto port d) || (flags_meet (source_row x s) (self_row x proto port) && joins_own s d)) ≡ pair_passes x.groups x.rules proto port s d
pair_by_rows x proto port s d =
    let f : Rule → Bool = λ r. some_source x.groups r s in
    let g : Rule → Bool = opens_to x.groups proto port d in
    let h : Rule → Bool = opens_own proto port in
    (λ i. meets_any f g x.rules i || (meets_any f h x.rules i && joins_own s d))
    ∙ (rows_any f g h (joins_own s d) x.rules ∙ pair_one x.groups x.rules proto port s d)

-- ---- all pairs

all_same : {A : Type 0} (f g : A → Bool) (xs : List A) → ((x : A) → f x ≡ g x) → list_all f xs ≡ list_all g xs
all_same f g [] h = refl
all_same f g (x ∷ xs) h = λ i. h x i && all_same f g xs h i

-- one source and all destinations
pub reached : (x : Expansion) (proto : Option ℕ) (port : ℕ) (s : End) (ds : List End) → reaches_all x (self_row x proto port) (map (dest_target x proto port) ds) s ≡ list_all (pair_passes x.groups x.rules proto port s) ds
reached x proto port s ds =
    list_all-map (λ (t : Target). flags_meet (source_row x s) t.row || (flags_meet (source_row x s) (self_row x proto port) && joins_own s t.end)) (dest_target x proto port) ds
    ∙ all_same (λ d. flags_meet (source_row x s) (dest_row x proto port d) || (flags_meet (source_row x s) (self_row x proto port) && joins_own s d)) (pair_passes x.groups x.rules proto port s) ds (pair_by_rows x proto port s)

-- whether one source more is let through to all, by what the code has at hand
abbrev Reached : Expansion → Option ℕ → ℕ → List End → List Bool → List Target → Type 0
Reached x proto port ds own targets = (own ≡ self_row x proto port) × (targets ≡ map (dest_target x proto port) ds)

reached_is : (x : Expansion) (proto : Option ℕ) (port : ℕ) (s : End) (ds : List End) (own : List Bool) (targets : List Target) (all : Bool) → all ≡ reaches_all x own targets s
    → Reached x proto port ds own targets → all ≡ list_all (pair_passes x.groups x.rules proto port s) ds
reached_is x proto port s ds own targets all value made =
    value ∙ ((λ i. reaches_all x (made.0 i) (made.1 i) s) ∙ reached x proto port s ds)

cut_source : (x : Expansion) (proto : Option ℕ) (port : ℕ) (ss ds : List End) (i : ℕ) (s : End) → i < length ss → s ≡ get_or ss i s
    → all_pass x.groups x.rules proto port (drop i ss) ds ≡ (list_all (pair_passes x.groups x.rules proto port s) ds && all_pass x.groups x.rules proto port (drop (i + 1) ss) ds)
cut_source x proto port ss ds i s lt is = ap (λ (zs : List End). all_pass x.groups x.rules proto port zs ds) (cut_here ss i s lt is)

pub source_passes : (x : Expansion) (proto : Option ℕ) (port : ℕ) (ss ds : List End) (i : ℕ) (s : End) (own : List Bool) (targets : List Target) (b all : Bool) → i < length ss → s ≡ get_or ss i s
    → b ≡ reaches_all x own targets s → Reached x proto port ds own targets → b ≡ true → all_pass x.groups x.rules proto port (drop i ss) ds ≡ all → all_pass x.groups x.rules proto port (drop (i + 1) ss) ds ≡ all
source_passes x proto port ss ds i s own targets b all lt is value made holds told =
    let passes = sym (reached_is x proto port s ds own targets b value made) ∙ holds in
    sym (cut_source x proto port ss ds i s lt is ∙ ap (λ c. c && all_pass x.groups x.rules proto port (drop (i + 1) ss) ds) passes) ∙ told

pub source_fails : (x : Expansion) (proto : Option ℕ) (port : ℕ) (ss ds : List End) (i : ℕ) (s : End) (own : List Bool) (targets : List Target) (b all : Bool) → i < length ss → s ≡ get_or ss i s
    → b ≡ reaches_all x own targets s → Reached x proto port ds own targets → b ≡ false → all_pass x.groups x.rules proto port (drop i ss) ds ≡ all → false ≡ all
source_fails x proto port ss ds i s own targets b all lt is value made fails told =
    let refused = sym (reached_is x proto port s ds own targets b value made) ∙ fails in
    sym (cut_source x proto port ss ds i s lt is ∙ ap (λ c. c && all_pass x.groups x.rules proto port (drop (i + 1) ss) ds) refused) ∙ told
