-- Who sees whom, by the rules and by id.
use Rattle.std.proofs.Common.{◌≡◌, ◌==◌, ◌&&◌, ◌||◌, ℕ, Bool, true, false, not, List, refl, ap, sym, ◌∙◌}
use Rattle.std.specs.Prelude.{Contains, Option, Some, None, is_some}
use Rattle.std.proofs.lemmas.Bool.{both_ways, eq-eqb, eqb-true, ne_eqb, or_left}
use Rattle.tail_base.proofs.Bools.{same_tests}
use Rattle.net_rows.specs.Damage.{damage}
use Rattle.net_rows.specs.declared.rows.Rows.{Rows}
use Rattle.net_rows.specs.Shelf.{IsAscending}
use Rattle.net_rows.proofs.Members.{find_member, find_none}
use Rattle.net_rows.proofs.RowAt.{row_at_is}
use Rattle.settings.specs.declared.fields.SettingsFields.{SettingsFields}
use Rattle.policy_rows.specs.declared.policy.Policy.{Policy}
use Rattle.policy_sites.specs.Grants.{groups_of, rules_of}
use Rattle.policy_sites.specs.Reach.{AreSoundRules}
use Rattle.policy_sites.specs.ByRule.{site_reaches}
use Rattle.peer_view.specs.Seen.{Node, Seen, is_node, node_reaches, node_with, of_ids, seen_of, sees}
use Rattle.peer_view.proofs.LiveLaws.{node_reach, on_both}

is_here : (w : Seen) (k : ℕ) (m : Node) → node_with w k ≡ Some m → (m.row.id ≡ k) × (is_node w m ≡ true)
is_here w k m e =
    let id : m.row.id ≡ k = eqb-true m.row.id k (find_member (λ (n : Node). n.row.id == k) w.nodes m e).1 in
    (id, ap (λ (j : ℕ). is_some (node_with w j)) id ∙ ap (λ (o : Option Node). is_some o) e)

sight_apart : (w : Seen) (a b : ℕ) → (a == b) ≡ false → (m p : Node) → node_with w a ≡ Some m → node_with w b ≡ Some p → sees w m p ≡ (node_reaches w m p || node_reaches w p m)
sight_apart w a b apart m p e f =
    let hm = is_here w a m e in
    let hp = is_here w b p f in
    let ids : (m.row.id == p.row.id) ≡ false = (λ i. hm.0 i == hp.0 i) ∙ apart in
    λ i. hm.1 i && hp.1 i && not (ids i) && (node_reaches w m p || node_reaches w p m)

both_apart : (w : Seen) (oa ob : Option Node) → ((m p : Node) → oa ≡ Some m → ob ≡ Some p → sees w m p ≡ (node_reaches w m p || node_reaches w p m))
    → on_both (sees w) oa ob ≡ (on_both (node_reaches w) oa ob || on_both (node_reaches w) ob oa)
both_apart w None None h = refl
both_apart w None (Some p) h = refl
both_apart w (Some m) None h = refl
both_apart w (Some m) (Some p) h = h m p refl refl

-- of two ids that differ: one reaches the other
pub sight_is : (w : Seen) (a b : ℕ) → (a == b) ≡ false → of_ids (sees w) w a b ≡ (of_ids (node_reaches w) w a b || of_ids (node_reaches w) w b a)
sight_is w a b apart = both_apart w (node_with w a) (node_with w b) (λ m p e f. sight_apart w a b apart m p e f)

-- where the first reaches the other
pub sight_first : (w : Seen) (a b : ℕ) → (a ≡ b → ⊥) → of_ids (node_reaches w) w a b ≡ true → of_ids (sees w) w a b ≡ true
sight_first w a b apart h =
    sight_is w a b (ne_eqb a b apart) ∙ or_left (of_ids (node_reaches w) w a b) (of_ids (node_reaches w) w b a) h

-- where it doesn't
pub sight_second : (w : Seen) (a b : ℕ) → (a ≡ b → ⊥) → of_ids (node_reaches w) w a b ≡ false → of_ids (sees w) w a b ≡ of_ids (node_reaches w) w b a
sight_second w a b apart h = sight_is w a b (ne_eqb a b apart) ∙ ap (λ (m : Bool). m || of_ids (node_reaches w) w b a) h

-- a node of the list is the node of its id
listed : (w : Seen) (m : Node) → Contains w.nodes m → (o : Option Node) → node_with w m.row.id ≡ o → is_some o ≡ true
listed w m inside (Some x) e = refl
listed w m inside None e =
    let bad : (m.row.id == m.row.id) ≡ false = find_none (λ (n : Node). n.row.id == m.row.id) w.nodes e m inside in
    absurd (both_ways (m.row.id == m.row.id) bad (eq-eqb m.row.id m.row.id refl))

-- Sight between nodes of a world goes by rules.
pub sight_rules : (settings : SettingsFields) (policy : Option Policy) (rows : Rows) (live online : List ℕ) (m p : Node) → AreSoundRules (rules_of policy) → damage rows ≡ None
    → Contains (seen_of settings policy rows live online).nodes m → Contains (seen_of settings policy rows live online).nodes p
    → sees (seen_of settings policy rows live online) m p
    ≡ (not (m.row.id == p.row.id) && (site_reaches (groups_of policy) (rules_of policy) m.site p.site || site_reaches (groups_of policy) (rules_of policy) p.site m.site))
sight_rules settings policy rows live online m p rules sound inside other =
    let w = seen_of settings policy rows live online in
    let hm : is_node w m ≡ true = listed w m inside (node_with w m.row.id) refl in
    let hp : is_node w p ≡ true = listed w p other (node_with w p.row.id) refl in
    let to = node_reach settings policy rows live online m p rules sound inside other in
    let from = node_reach settings policy rows live online p m rules sound other inside in
    λ i. hm i && hp i && not (m.row.id == p.row.id) && (to i || from i)

eqb_exchanged : (a b : ℕ) → (a == b) ≡ (b == a)
eqb_exchanged a b = same_tests (a == b) (b == a) (λ h. eq-eqb b a (sym (eqb-true a b h))) (λ h. eq-eqb a b (sym (eqb-true b a h)))

and_exchanged : (a b x y r q : Bool) → x ≡ y → (a && b && x && (r || q)) ≡ (b && a && y && (q || r))
and_exchanged a b x y r q same = ap (λ (z : Bool). a && b && z && (r || q)) same ∙ go a b y r q
  where
    go : (a b y r q : Bool) → (a && b && y && (r || q)) ≡ (b && a && y && (q || r))
    go true true true true true = refl
    go true true true true false = refl
    go true true true false true = refl
    go true true true false false = refl
    go true true false r q = refl
    go true false y r q = refl
    go false true y r q = refl
    go false false y r q = refl

-- Whom a machine sees, sees it.
pub sight_mutual : (w : Seen) (m p : Node) → sees w m p ≡ sees w p m
sight_mutual w m p =
    let ids : not (m.row.id == p.row.id) ≡ not (p.row.id == m.row.id) = ap not (eqb_exchanged m.row.id p.row.id) in
    and_exchanged (is_node w m) (is_node w p) (not (m.row.id == p.row.id)) (not (p.row.id == m.row.id)) (node_reaches w m p) (node_reaches w p m) ids

-- what is found of two ids whose nodes these are
of_both : (w : Seen) (test : Node → Node → Bool) (m p : Node) (oa ob : Option Node) → oa ≡ Some m → ob ≡ Some p → on_both test oa ob ≡ test m p
of_both w test m p oa ob e f = λ i. on_both test (e i) (f i)

-- Sight between nodes goes by reach between their ids.
pub sight_by_ids : (w : Seen) (m p : Node) → IsAscending (λ (n : Node). n.row.id) w.nodes → Contains w.nodes m → Contains w.nodes p → (m.row.id ≡ p.row.id → ⊥)
    → (of_ids (node_reaches w) w m.row.id p.row.id || of_ids (node_reaches w) w p.row.id m.row.id) ≡ sees w m p
sight_by_ids w m p ascend here there apart =
    let at : node_with w m.row.id ≡ Some m = row_at_is (λ (n : Node). n.row.id) w.nodes m ascend here in
    let to : node_with w p.row.id ≡ Some p = row_at_is (λ (n : Node). n.row.id) w.nodes p ascend there in
    sym (sight_is w m.row.id p.row.id (ne_eqb m.row.id p.row.id apart)) ∙ of_both w (sees w) m p (node_with w m.row.id) (node_with w p.row.id) at to

-- where one reaches the other, and where it doesn't
pub sight_found : (w : Seen) (m p : Node) → IsAscending (λ (n : Node). n.row.id) w.nodes → Contains w.nodes m → Contains w.nodes p → (m.row.id ≡ p.row.id → ⊥)
    → (r : Bool) → r ≡ of_ids (node_reaches w) w m.row.id p.row.id → r ≡ true → r ≡ sees w m p
sight_found w m p ascend here there apart r is passes =
    let back : Bool = of_ids (node_reaches w) w p.row.id m.row.id in
    passes ∙ (sym (ap (λ (x : Bool). x || back) (sym is ∙ passes)) ∙ sight_by_ids w m p ascend here there apart)

pub sight_missed : (w : Seen) (m p : Node) → IsAscending (λ (n : Node). n.row.id) w.nodes → Contains w.nodes m → Contains w.nodes p → (m.row.id ≡ p.row.id → ⊥)
    → (r : Bool) → r ≡ of_ids (node_reaches w) w m.row.id p.row.id → r ≡ false → (q : Bool) → q ≡ of_ids (node_reaches w) w p.row.id m.row.id → q ≡ sees w m p
sight_missed w m p ascend here there apart r is fails q back =
    back ∙ (sym (ap (λ (x : Bool). x || of_ids (node_reaches w) w p.row.id m.row.id) (sym is ∙ fails)) ∙ sight_by_ids w m p ascend here there apart)
