-- A route is shown at one machine, and those without routes don't matter to that.
use Rattle.std.proofs.Common.{◌≡◌, ◌&&◌, ℕ, Bool, true, false, List, [], ◌∷◌, ◌++◌, refl, ap, sym, ◌∙◌, inl, inr}
use Rattle.std.specs.Prelude.{Contains, Option, Some, None, filter}
use Rattle.std.specs.List.{find, list_any}
use Rattle.std.proofs.lemmas.Bool.{and_from, and_left, and_parts, both_ways, cases_Bool, eq-eqb, eqb-true, false_from_ne_true}
use Rattle.net_addr.specs.Bits.{Block}
use Rattle.net_addr.specs.Blocks.{holds}
use Rattle.net_rows.specs.Damage.{damage}
use Rattle.net_rows.specs.Shelf.{IsAscending, row_at}
use Rattle.net_rows.specs.declared.rows.Rows.{Rows}
use Rattle.net_rows.proofs.Members.{find_member, find_none, list_any_found, list_any_is}
use Rattle.net_rows.proofs.RowAt.{row_at_is}
use Rattle.settings.specs.declared.fields.SettingsFields.{SettingsFields}
use Rattle.policy_rows.specs.declared.policy.Policy.{Policy}
use Rattle.policy_sites.specs.Exits.{has_route}
use Rattle.peer_view.specs.Choices.{IsShownAt}
use Rattle.peer_view.specs.Nodes.{node_of, own_addresses}
use Rattle.peer_view.specs.Seen.{Node, Seen, seen_of, sees, visible}
use Rattle.peer_view.specs.Shown.{choice, granted_into, is_choice, is_shown, offers, or_else, shown, shown_exits, shown_routes}
use Rattle.peer_view.proofs.ListLemmas.{ascending_filter}
use Rattle.peer_view.proofs.WorldLaws.{seen_sound}

-- the machine offers the route, and is online
abbrev offers_online : Block → Node → Bool
offers_online r q = offers r q && q.online

-- the machine that the route goes through
record IsChosen (xs : List Node) (r : Block) (p : Node) : Type 0 where
  is : choice xs r ≡ Some p
  inside : Contains xs p
  offered : offers r p ≡ true
  online : p.online ≡ list_any (offers_online r) xs

none_any : {A : Type 0} (test : A → Bool) (xs : List A) → find test xs ≡ None → list_any test xs ≡ false
none_any test xs none =
    false_from_ne_true (list_any test xs) (λ h. let at = list_any_found test xs h in both_ways (test at.0) (find_none test xs none at.0 at.1) at.2)

chosen : (xs : List Node) (r : Block) → list_any (offers r) xs ≡ true → (p : Node) × IsChosen xs r p
chosen xs r some = first (find (offers_online r) xs) refl
  where
    second : (o : Option Node) → find (offers r) xs ≡ o → find (offers_online r) xs ≡ None → (p : Node) × IsChosen xs r p
    second None f none = absurd (both_ways (list_any (offers r) xs) (none_any (offers r) xs f) some)
    second (Some p) f none =
        let at = find_member (offers r) xs p f in
        let off : offers_online r p ≡ false = find_none (offers_online r) xs none p at.0 in (
          p,
          record {
            is = ap (λ (o : Option Node). or_else o (find (offers r) xs)) none ∙ f;
            inside = at.0;
            offered = at.1;
            online = sym (ap (λ (b : Bool). b && p.online) at.1) ∙ (off ∙ sym (none_any (offers_online r) xs none));
          },
        )

    first : (o : Option Node) → find (offers_online r) xs ≡ o → (p : Node) × IsChosen xs r p
    first None none = second (find (offers r) xs) refl none
    first (Some p) found =
        let at = find_member (offers_online r) xs p found in
        let parts = and_parts (offers r p) p.online at.1 in (
          p,
          record {
            is = ap (λ (o : Option Node). or_else o (find (offers r) xs)) found;
            inside = at.0;
            offered = parts.0;
            online = parts.1 ∙ sym (list_any_is (offers_online r) xs p at.0 at.1);
          },
        )

-- machines of one id are one
same_node : (xs : List Node) (p q : Node) → IsAscending (λ (n : Node). n.row.id) xs → Contains xs p → Contains xs q → p.row.id ≡ q.row.id → q ≡ p
same_node xs p q ascend inside there same =
    let id : Node → ℕ = λ n. n.row.id in
    let both : Some p ≡ Some q = sym (row_at_is id xs p ascend inside) ∙ (ap (λ (k : ℕ). row_at id xs k) same ∙ row_at_is id xs q ascend there) in
    cc

pub shown_once : (w : Seen) (m : Node) (r : Block) → IsAscending (λ (n : Node). n.row.id) w.nodes → granted_into w m (holds r) ≡ true → list_any (offers r) (visible w m) ≡ true
    → (p : Node) × IsShownAt w m r p
shown_once w m r ascend granted some =
    let xs = visible w m in
    let at = chosen xs r some in
    let p = at.0 in
    let may = granted_into w m (holds r) in
    let rising = ascending_filter (λ (n : Node). n.row.id) (sees w m) w.nodes ascend in (
      p,
      record {
        seen = at.1.inside;
        offered = at.1.offered;
        shown = and_from may (is_choice (choice xs r) p) granted (ap (λ (o : Option Node). is_choice o p) at.1.is ∙ eq-eqb p.row.id p.row.id refl);
        alone = λ q there h.
            let parts = and_parts may (is_choice (choice xs r) q) h in
            let id : p.row.id ≡ q.row.id = eqb-true p.row.id q.row.id (sym (ap (λ (o : Option Node). is_choice o q) at.1.is) ∙ parts.1) in
            same_node xs p q rising at.1.inside there id;
        online = at.1.online;
      },
    )

-- of tables that keep their rules
pub tables_shown_once : (settings : SettingsFields) (policy : Option Policy) (rows : Rows) (live online : List ℕ) (m : Node) (r : Block) → damage rows ≡ None
    → granted_into (seen_of settings policy rows live online) m (holds r) ≡ true → list_any (offers r) (visible (seen_of settings policy rows live online) m) ≡ true
    → (p : Node) × IsShownAt (seen_of settings policy rows live online) m r p
tables_shown_once settings policy rows live online m r kept granted some =
    shown_once (seen_of settings policy rows live online) m r (seen_sound settings policy rows live online kept).nodes granted some

-- ---- machines without approved routes

-- the row of one doesn't depend on who else is visible
pub own_unrouted : (w : Seen) (viewer : Node) (xs ys : List Node) (p : Node) → p.site.approved ≡ [] → shown w viewer xs p ≡ shown w viewer ys p
own_unrouted w viewer xs ys p none =
    let routes : shown_routes w viewer xs p ≡ shown_routes w viewer ys p =
    ap (λ (rs : List Block). filter (is_shown w viewer xs p) rs) none ∙ sym (ap (λ (rs : List Block). filter (is_shown w viewer ys p) rs) none) in
    ap (λ (rs : List Block). node_of w.settings.base_domain (own_addresses p.row ++ rs ++ shown_exits w viewer p) p.online p.row) routes

-- a search passes over what doesn't pass
find_past : {A : Type 0} (test : A → Bool) (before : List A) (q : A) (after : List A) → test q ≡ false → find test (before ++ q ∷ after) ≡ find test (before ++ after)
find_past test [] q after fails = rw fails refl
find_past test (x ∷ before) q after fails =
    elim (cases_Bool (test x)) [
      | inl passes ↦ rw passes refl
      | inr misses ↦ rw misses (find_past test before q after fails)
    ]

choice_past : (before : List Node) (q : Node) (after : List Node) (r : Block) → q.site.approved ≡ [] → choice (before ++ q ∷ after) r ≡ choice (before ++ after) r
choice_past before q after r none =
    let nothing : offers r q ≡ false = ap (λ (rs : List Block). has_route rs r) none in
    let online = find_past (offers_online r) before q after (and_left (offers r q) q.online nothing) in
    let any = find_past (offers r) before q after nothing in
    λ i. or_else (online i) (any i)

-- and it changes no other's
pub others_unrouted : (w : Seen) (viewer : Node) (before : List Node) (q : Node) (after : List Node) (p : Node) → q.site.approved ≡ []
    → shown w viewer (before ++ q ∷ after) p ≡ shown w viewer (before ++ after) p
others_unrouted w viewer before q after p none =
    let routes : shown_routes w viewer (before ++ q ∷ after) p ≡ shown_routes w viewer (before ++ after) p =
    λ i. filter (λ r. granted_into w viewer (holds r) && is_choice (choice_past before q after r none i) p) p.site.approved in
    ap (λ (rs : List Block). node_of w.settings.base_domain (own_addresses p.row ++ rs ++ shown_exits w viewer p) p.online p.row) routes
