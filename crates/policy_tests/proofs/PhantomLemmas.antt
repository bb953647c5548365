-- Whatever grants a phantom grants each machine's end that it stands for.
use Rattle.std.proofs.Common.{◌≡◌, ◌==◌, ◌&&◌, ℕ, true, false, not, List, [], ◌∷◌, length, inl, inr, arith, refl, sym, subst}
use Rattle.std.specs.Prelude.{Contains, Option, Some, None}
use Rattle.std.specs.List.{list_any}
use Rattle.std.specs.Option.{option_map_or}
use Rattle.std.specs.Str.{bytes_eq}
use Rattle.std.proofs.lemmas.Bool.{and_from, and_parts, both_ways, eqb-true, ne_eqb, not-true, not_from_false, or_cases}
use Rattle.tail_base.proofs.Bools.{all3, bytes_eq-true}
use Rattle.tail_base.proofs.Searches.{any_weaker}
use Rattle.net_addr.specs.Bits.{Address}
use Rattle.net_rows.proofs.Members.{cut_member, no_member}
use Rattle.port_sets.specs.Protocols.{has_member}
use Rattle.policy_rows.specs.declared.dest.Dest.{Dest}
use Rattle.policy_rows.specs.declared.group.Group.{Group}
use Rattle.policy_rows.specs.declared.rule.Rule.{Rule}
use Rattle.policy_rows.specs.declared.selector.Selector.{Selector}
use Rattle.policy_rows.specs.declared.selector.Selector.TheVariants as sel
use Rattle.policy_sites.specs.Covers.{covers, dest_covers, is_own, joins_own, names_holder}
use Rattle.policy_sites.specs.Ends.{holder_of}
use Rattle.policy_sites.specs.Grants.{entry_grants, ports_hold, rule_grants, some_rule_grants, some_source}
use Rattle.policy_sites.specs.declared.end.End.{End}
use Rattle.policy_sites.specs.declared.end.Holder.{Holder}
use Rattle.policy_sites.specs.declared.site.Site.{Site}
use Rattle.policy_tests.specs.Lasting.{StandsFor}
use Rattle.policy_tests.specs.TestEnds.{has_tag, is_users, machine_end, site_ends}

-- whatever names the one names the other, and whoever is of one user with the one is so with the other
pub record Outlasts (h k : Holder) : Type 0 where
  pub named : (groups : List Group) (selector : Selector) → names_holder groups selector h ≡ true → names_holder groups selector k ≡ true
  pub joins : (other : Holder) → is_own h other ≡ true → is_own k other ≡ true
  pub joined : (other : Holder) → is_own other h ≡ true → is_own other k ≡ true

-- ---- the holders

no_tags : (tags : List (List ℕ)) → (length tags == 0) ≡ true → tags ≡ []
no_tags [] h = refl
no_tags (t ∷ ts) h = let e = eqb-true (length (t ∷ ts)) 0 h in absurd (omega arith)

-- who has the login and the tags of the one is as it is
same_holder : (a b : ℕ) (l k : List ℕ) (ts us : List (List ℕ)) → l ≡ k → ts ≡ us → Outlasts (record { user = a; login = l; tags = ts }) (record { user = b; login = k; tags = us })
same_holder a b l k ts us same tags = record {
  named = λ groups selector h.
      subst (λ x. names_holder groups selector (record { user = b; login = k; tags = x }) ≡ true) tags
      (subst (λ x. names_holder groups selector (record { user = b; login = x; tags = ts }) ≡ true) same h);
  joins = λ other h.
      subst (λ x. is_own (record { user = b; login = k; tags = x }) other ≡ true) tags
      (subst (λ x. is_own (record { user = b; login = x; tags = ts }) other ≡ true) same h);
  joined = λ other h.
      subst (λ x. is_own other (record { user = b; login = k; tags = x }) ≡ true) tags
      (subst (λ x. is_own other (record { user = b; login = x; tags = ts }) ≡ true) same h);
}

user_outlasts : (login : List ℕ) (m : Site) → is_users login m ≡ true → Outlasts (record { user = 0; login = login; tags = [] }) (holder_of m)
user_outlasts login m h =
    let p = and_parts (length m.tags == 0) (bytes_eq login m.login) h in
    same_holder 0 m.user login m.login [] m.tags (bytes_eq-true login m.login p.1) (sym (no_tags m.tags p.0))

some_tag : (tag : List ℕ) (tags : List (List ℕ)) → list_any (λ other. bytes_eq other tag) tags ≡ true → not (length tags == 0) ≡ true
some_tag tag [] h = absurd (cc)
some_tag tag (t ∷ ts) h = not_from_false (length (t ∷ ts) == 0) (ne_eqb (length (t ∷ ts)) 0 (λ e. omega arith))

tag_named : (tag : List ℕ) (login : List ℕ) (tags : List (List ℕ)) (a b : ℕ) (other : List ℕ) → list_any (λ t. bytes_eq t tag) tags ≡ true → (groups : List Group) (selector : Selector)
    → names_holder groups selector (record { user = a; login = other; tags = tag ∷ [] }) ≡ true → names_holder groups selector (record { user = b; login = login; tags = tags }) ≡ true
tag_named tag login tags a b other has groups sel.All h = refl
tag_named tag login tags a b other has groups (sel.Net net) h = h
tag_named tag login tags a b other has groups (sel.User user) h = absurd (cc)
tag_named tag login tags a b other has groups (sel.Group name) h = absurd (cc)
tag_named tag login tags a b other has groups (sel.Tagged t) h =
    elim (or_cases (bytes_eq tag t) false h) [
      | inl e ↦ subst (λ x. list_any (λ o. bytes_eq o x) tags ≡ true) (bytes_eq-true tag t e) has
      | inr wrong ↦ absurd (cc)
    ]
tag_named tag login tags a b other has groups sel.Member h = absurd (cc)
tag_named tag login tags a b other has groups sel.AllTagged h = some_tag tag tags has
tag_named tag login tags a b other has groups sel.Internet h = h
tag_named tag login tags a b other has groups sel.OwnDevices h = h

tag_outlasts : (tag : List ℕ) (m : Site) → has_tag tag m ≡ true → Outlasts (record { user = 0; login = []; tags = tag ∷ [] }) (holder_of m)
tag_outlasts tag m has = record {
  named = tag_named tag m.login m.tags 0 m.user [] has;
  joins = λ other h. absurd (cc);
  joined = λ other h. let p = all3 (length other.tags == 0) false (bytes_eq other.login []) h in absurd (cc p.1);
}

-- ---- the ends

abbrev unplaced : Holder → End
unplaced h = record { addr = None; holder = Some h }

abbrev placed : Address → Holder → End
placed addr k = record { addr = Some addr; holder = Some k }

covered : (h k : Holder) → Outlasts h k → (addr : Address) (groups : List Group) (selector : Selector) → covers groups selector (unplaced h) ≡ true → covers groups selector (placed addr k) ≡ true
covered h k o addr groups sel.All c = refl
covered h k o addr groups (sel.Net net) c = absurd (cc)
covered h k o addr groups (sel.User login) c = o.named groups (sel.User login) c
covered h k o addr groups (sel.Group name) c = o.named groups (sel.Group name) c
covered h k o addr groups (sel.Tagged tag) c = o.named groups (sel.Tagged tag) c
covered h k o addr groups sel.Member c = o.named groups sel.Member c
covered h k o addr groups sel.AllTagged c = o.named groups sel.AllTagged c
covered h k o addr groups sel.Internet c = absurd (cc)
covered h k o addr groups sel.OwnDevices c = c

-- ---- as a source

source_joins : (h k : Holder) → Outlasts h k → (d : Option Holder) → option_map_or (is_own h) d false ≡ true → option_map_or (is_own k) d false ≡ true
source_joins h k o None c = c
source_joins h k o (Some other) c = o.joins other c

source_dest : (h k : Holder) → Outlasts h k → (addr : Address) (groups : List Group) (d : End) (selector : Selector) → dest_covers groups selector (unplaced h) d ≡ true → dest_covers groups selector (placed addr k) d ≡ true
source_dest h k o addr groups d sel.All c = c
source_dest h k o addr groups d (sel.Net net) c = c
source_dest h k o addr groups d (sel.User login) c = c
source_dest h k o addr groups d (sel.Group name) c = c
source_dest h k o addr groups d (sel.Tagged tag) c = c
source_dest h k o addr groups d sel.Member c = c
source_dest h k o addr groups d sel.AllTagged c = c
source_dest h k o addr groups d sel.Internet c = c
source_dest h k o addr groups d sel.OwnDevices c = source_joins h k o d.holder c

-- ---- as a destination

dest_joined : (h k : Holder) → Outlasts h k → (s : Option Holder) → option_map_or (λ a. option_map_or (is_own a) (Some h) false) s false ≡ true
    → option_map_or (λ a. option_map_or (is_own a) (Some k) false) s false ≡ true
dest_joined h k o None c = c
dest_joined h k o (Some other) c = o.joined other c

dest_dest : (h k : Holder) → Outlasts h k → (addr : Address) (groups : List Group) (s : End) (selector : Selector) → dest_covers groups selector s (unplaced h) ≡ true → dest_covers groups selector s (placed addr k) ≡ true
dest_dest h k o addr groups s sel.All c = refl
dest_dest h k o addr groups s (sel.Net net) c = covered h k o addr groups (sel.Net net) c
dest_dest h k o addr groups s (sel.User login) c = covered h k o addr groups (sel.User login) c
dest_dest h k o addr groups s (sel.Group name) c = covered h k o addr groups (sel.Group name) c
dest_dest h k o addr groups s (sel.Tagged tag) c = covered h k o addr groups (sel.Tagged tag) c
dest_dest h k o addr groups s sel.Member c = covered h k o addr groups sel.Member c
dest_dest h k o addr groups s sel.AllTagged c = covered h k o addr groups sel.AllTagged c
dest_dest h k o addr groups s sel.Internet c = covered h k o addr groups sel.Internet c
dest_dest h k o addr groups s sel.OwnDevices c = dest_joined h k o s.holder c

-- ---- through the rules

-- what is granted from one end is granted from the other, and so to it
rule_from : (groups : List Group) (s t d e : End) (proto port : ℕ) → ((selector : Selector) → covers groups selector s ≡ true → covers groups selector t ≡ true)
    → ((selector : Selector) → dest_covers groups selector s d ≡ true → dest_covers groups selector t e ≡ true)
    → (r : Rule) → rule_grants groups s d proto port r ≡ true → rule_grants groups t e proto port r ≡ true
rule_from groups s t d e proto port sources dests r h =
    let p = and_parts (has_member r.protos proto && some_source groups r s) (list_any (entry_grants groups s d proto port) r.dests) h in
    let q = and_parts (has_member r.protos proto) (some_source groups r s) p.0 in
    let source : some_source groups r t ≡ true = any_weaker (λ x. covers groups x s) (λ x. covers groups x t) r.sources sources q.1 in
    let dest : list_any (entry_grants groups t e proto port) r.dests ≡ true =
    any_weaker (entry_grants groups s d proto port) (entry_grants groups t e proto port) r.dests
    (λ (x : Dest) g. let a = and_parts (dest_covers groups x.to s d) (ports_hold x.ports proto port) g in
    and_from (dest_covers groups x.to t e) (ports_hold x.ports proto port) (dests x.to a.0) a.1) p.1 in
    and_from (has_member r.protos proto && some_source groups r t) (list_any (entry_grants groups t e proto port) r.dests)
    (and_from (has_member r.protos proto) (some_source groups r t) q.0 source) dest

granted_from : (groups : List Group) (rules : List Rule) (h k : Holder) → Outlasts h k → (addr : Address) (d : End) (proto port : ℕ) → some_rule_grants groups rules (unplaced h) d proto port ≡ true
    → some_rule_grants groups rules (placed addr k) d proto port ≡ true
granted_from groups rules h k o addr d proto port g =
    any_weaker (rule_grants groups (unplaced h) d proto port) (rule_grants groups (placed addr k) d proto port) rules
    (rule_from groups (unplaced h) (placed addr k) d d proto port (λ x c. covered h k o addr groups x c) (λ x c. source_dest h k o addr groups d x c)) g

granted_to : (groups : List Group) (rules : List Rule) (h k : Holder) → Outlasts h k → (addr : Address) (s : End) (proto port : ℕ) → some_rule_grants groups rules s (unplaced h) proto port ≡ true
    → some_rule_grants groups rules s (placed addr k) proto port ≡ true
granted_to groups rules h k o addr s proto port g =
    any_weaker (rule_grants groups s (unplaced h) proto port) (rule_grants groups s (placed addr k) proto port) rules
    (rule_from groups s s (unplaced h) (placed addr k) proto port (λ x c. c) (λ x c. dest_dest h k o addr groups s x c)) g

-- ---- a phantom, and what it stands for

-- the holders of the two
pub record Held (p e : End) : Type 0 where
  pub from : Holder
  pub to : Holder
  pub addr : Address
  pub phantom : p ≡ unplaced from
  pub end : e ≡ placed addr to
  pub outlasts : Outlasts from to

machine_held : (m : Site) (e : End) → Contains (site_ends m) e → (addr : Address) × (e ≡ machine_end m addr)
machine_held m e c =
    elim (cut_member (machine_end m m.v4) (machine_end m m.v6 ∷ []) e c) [
      | inl first ↦ (m.v4, first)
      | inr more ↦ elim (cut_member (machine_end m m.v6) [] e more) [
        | inl second ↦ (m.v6, second)
        | inr none ↦ absurd (no_member e none)
      ]
    ]

pub held_of : (p e : End) → StandsFor p e → Held p e
held_of p e stands = elim stands [
  | inl u ↦ let at = machine_held u.m e u.end in
      record { from = record { user = 0; login = u.login; tags = [] }; to = holder_of u.m; addr = at.0; phantom = u.phantom; end = at.1; outlasts = user_outlasts u.login u.m u.own }
  | inr t ↦ let at = machine_held t.m e t.end in
      record { from = record { user = 0; login = []; tags = t.tag ∷ [] }; to = holder_of t.m; addr = at.0; phantom = t.phantom; end = at.1; outlasts = tag_outlasts t.tag t.m t.tagged }
]

pub source_stands : (groups : List Group) (rules : List Rule) (p s d : End) (proto port : ℕ) → StandsFor p s → some_rule_grants groups rules p d proto port ≡ true → some_rule_grants groups rules s d proto port ≡ true
source_stands groups rules p s d proto port stands g =
    let held = held_of p s stands in
    subst (λ x. some_rule_grants groups rules x d proto port ≡ true) (sym held.end)
    (granted_from groups rules held.from held.to held.outlasts held.addr d proto port (subst (λ x. some_rule_grants groups rules x d proto port ≡ true) held.phantom g))

pub dest_stands : (groups : List Group) (rules : List Rule) (s p d : End) (proto port : ℕ) → StandsFor p d → some_rule_grants groups rules s p proto port ≡ true → some_rule_grants groups rules s d proto port ≡ true
dest_stands groups rules s p d proto port stands g =
    let held = held_of p d stands in
    subst (λ x. some_rule_grants groups rules s x proto port ≡ true) (sym held.end)
    (granted_to groups rules held.from held.to held.outlasts held.addr s proto port (subst (λ x. some_rule_grants groups rules s x proto port ≡ true) held.phantom g))

-- ---- back, for `autogroup:self`

tagged_not_own : (tag : List ℕ) (m : Site) (a : Holder) → has_tag tag m ≡ true → is_own a (holder_of m) ≡ true → ⊥
tagged_not_own tag m a has h =
    let p = all3 (length a.tags == 0) (length m.tags == 0) (bytes_eq a.login m.login) h in
    both_ways (length m.tags == 0) (not-true (length m.tags == 0) (some_tag tag m.tags has)) p.1

user_back : (login : List ℕ) (m : Site) → is_users login m ≡ true → Outlasts (holder_of m) (record { user = 0; login = login; tags = [] })
user_back login m h =
    let p = and_parts (length m.tags == 0) (bytes_eq login m.login) h in
    same_holder m.user 0 m.login login m.tags [] (sym (bytes_eq-true login m.login p.1)) (no_tags m.tags p.0)

-- who is of one user with a machine is so with its phantom
joined_back : (p e : End) → StandsFor p e → (s : Option Holder) → option_map_or (λ a. option_map_or (is_own a) e.holder false) s false ≡ true
    → option_map_or (λ a. option_map_or (is_own a) p.holder false) s false ≡ true
joined_back p e stands None c = c
joined_back p e stands (Some a) c = elim stands [
  | inl u ↦
      let at = machine_held u.m e u.end in
      let own : is_own a (holder_of u.m) ≡ true = subst (λ (x : End). option_map_or (is_own a) x.holder false ≡ true) at.1 c in
      subst (λ (x : End). option_map_or (is_own a) x.holder false ≡ true) (sym u.phantom) ((user_back u.login u.m u.own).joined a own)
  | inr t ↦
      let at = machine_held t.m e t.end in
      let own : is_own a (holder_of t.m) ≡ true = subst (λ (x : End). option_map_or (is_own a) x.holder false ≡ true) at.1 c in
      absurd (tagged_not_own t.tag t.m a t.tagged own)
]

pub own_back : (p e s : End) → StandsFor p e → joins_own s e ≡ true → joins_own s p ≡ true
own_back p e s stands c = joined_back p e stands s.holder c
