-- A report says what *sees* asks of two machines, with the first rule by which it is so.
use Rattle.std.proofs.Common.{◌≡◌, ◌≢◌, ◌<◌, ◌==◌, ◌&&◌, ◌||◌, ℕ, Bool, true, false, List, [], ◌∷◌, refl, sym, ap, subst, ◌∙◌, inl, inr}
use Rattle.std.specs.Prelude.{Contains, Option, Some, None, slice_get}
use Rattle.std.specs.List.{list_any}
use Rattle.std.specs.Option.{is_some, option_map, option_map_or}
use Rattle.std.proofs.Math.Bool.{or-false}
use Rattle.std.proofs.lemmas.Bool.{both_ways, cases_Bool, eq-eqb, ne_eqb}
use Rattle.net_rows.specs.Damage.{damage}
use Rattle.net_rows.specs.declared.rows.Rows.{Rows}
use Rattle.net_rows.proofs.Members.{cut_member, list_any_is, no_member}
use Rattle.policy_rows.specs.declared.group.Group.{Group}
use Rattle.policy_rows.specs.declared.policy.Policy.{Policy}
use Rattle.policy_rows.specs.declared.rule.Rule.{Rule}
use Rattle.policy_sites.specs.ByRule.{lets_through}
use Rattle.policy_sites.specs.Grants.{groups_of, rules_of}
use Rattle.policy_sites.specs.Reach.{AreSoundRules, IsSoundRule}
use Rattle.policy_sites.specs.Sites.{sites_of}
use Rattle.policy_sites.specs.declared.site.Site.{Site}
use Rattle.policy_sites.proofs.SiteLemmas.{one_site, sites_apart}
use Rattle.peer_view.specs.Reaches.{reaches}
use Rattle.peer_view.proofs.LiveLaws.{live_reach, sound_site}
use Rattle.peer_view.proofs.ReachLaws.{local_reach}
use Rattle.reach_report.specs.Reaches.{IsReach, first_let, only_rule, reach_between, reach_list, reaches_from}
use Rattle.reach_report.specs.declared.reach.Reach.{Reach}
use Rattle.reach_report.proofs.FirstLemmas.{IsFirstPlace, first_of_all, some_place}
use Rattle.reach_report.proofs.MemberLemmas.{failing, joined_member, kept_member, member_at, member_joined, member_kept, passing, place_of_all}

-- what is said of two machines
record Between (groups : List Group) (rules : List Rule) (a b : Site) (x : Reach) : Type 0 where
  from : a.id ≡ x.from
  to : b.id ≡ x.to
  differ : a.id ≡ b.id → ⊥
  first : IsFirstPlace (lets_through groups a b) rules x.rule

said_by : (groups : List Group) (rules : List Rule) (a b : Site) (x : Reach) → (a.id ≡ b.id → ⊥) → (o : Option ℕ) → first_let groups rules a b ≡ o
    → option_map (λ rule. record { from = a.id; to = b.id; rule = rule }) o ≡ Some x → Between groups rules a b x
said_by groups rules a b x differ None e h = absurd (cc)
said_by groups rules a b x differ (Some n) e h =
    let is : record { from = a.id; to = b.id; rule = n } ≡ x = cc in
    record {
      from = ap (λ (z : Reach). z.from) is;
      to = ap (λ (z : Reach). z.to) is;
      differ = differ;
      first = subst (λ (m : ℕ). IsFirstPlace (lets_through groups a b) rules m) (ap (λ (z : Reach). z.rule) is) (first_of_all (lets_through groups a b) n rules e);
    }

said : (groups : List Group) (rules : List Rule) (a b : Site) (x : Reach) → reach_between groups rules a b ≡ Some x → Between groups rules a b x
said groups rules a b x h =
    elim (cases_Bool (a.id == b.id)) [
      | inl same ↦ let bad : None ≡ Some x = rw same at h in absurd (cc)
      | inr other ↦
          said_by groups rules a b x (λ e. both_ways (a.id == b.id) other (eq-eqb a.id b.id e)) (first_let groups rules a b) refl (rw other at h)
    ]

-- in tables that keep their rules, under sound rules
module _ (policy : Option Policy) (rows : Rows) (live : List ℕ) (sound_rules : AreSoundRules (rules_of policy)) (sound : damage rows ≡ None) where
  one_sound : (r : Rule) → Contains (rules_of policy) r → AreSoundRules (r ∷ [])
  one_sound r m z inside =
      elim (cut_member r [] z inside) [
        | inl e ↦ subst (λ (y : Rule). IsSoundRule y) (sym e) (sound_rules r m)
        | inr none ↦ absurd (no_member z none)
      ]

  -- by a rule alone one reaches another exactly where it lets it through
  alone_is : (r : Rule) → Contains (rules_of policy) r → (a b : Site) → Contains (sites_of policy rows live) a → Contains (sites_of policy rows live) b
      → reaches (only_rule policy r) (sites_of policy rows live) a b ≡ lets_through (groups_of policy) a b r
  alone_is r m a b p q =
      local_reach (only_rule policy r) (sites_of policy rows live) a b (one_sound r m) (one_site policy rows live sound) (sites_apart policy rows live sound) p q (sound_site policy rows live sound b q)
      ∙ or-false (lets_through (groups_of policy) a b r)

  pub listed_reach : (x : Reach) → Contains (reach_list policy (sites_of policy rows live)) x → IsReach policy (sites_of policy rows live) x
  listed_reach x m =
      let groups = groups_of policy in
      let rules = rules_of policy in
      let sites = sites_of policy rows live in
      let source = joined_member (reaches_from groups rules sites) sites x m in
      let a : Site = source.0 in
      let dest = kept_member (reach_between groups rules a) sites x source.2 in
      let b : Site = dest.0 in
      let told = said groups rules a b x dest.2 in
      let at = passing (lets_through groups a b) rules x.rule told.first.passes in
      let inside = member_at rules x.rule at.0 at.1 in
      record {
        a = a;
        b = b;
        source = source.1;
        dest = dest.1;
        from = told.from;
        to = told.to;
        differ = λ e. told.differ (told.from ∙ (e ∙ sym told.to));
        reached = live_reach policy rows live a b sound_rules sound source.1 dest.1 ∙ list_any_is (lets_through groups a b) rules at.0 inside at.2;
        rule = at.0;
        stands = at.1;
        alone = alone_is at.0 inside a b source.1 dest.1 ∙ at.2;
        least = λ n r lt e. alone_is r (member_at rules n r e) a b source.1 dest.1
            ∙ (ap (λ (o : Option Rule). option_map_or (lets_through groups a b) o false) (sym e) ∙ told.first.before n lt);
      }

  pub reach_listed : (x : Reach) → IsReach policy (sites_of policy rows live) x → Contains (reach_list policy (sites_of policy rows live)) x
  reach_listed x h =
      let groups = groups_of policy in
      let rules = rules_of policy in
      let sites = sites_of policy rows live in
      let test : Rule → Bool = lets_through groups h.a h.b in
      let lets : test h.rule ≡ true = sym (alone_is h.rule (member_at rules x.rule h.rule h.stands) h.a h.b h.source h.dest) ∙ h.alone in
      let first : IsFirstPlace test rules x.rule = record {
        passes = ap (λ (o : Option Rule). option_map_or test o false) h.stands ∙ lets;
        before = λ n lt. failing test rules n (λ r e. sym (alone_is r (member_at rules n r e) h.a h.b h.source h.dest) ∙ h.least n r lt e);
      } in
      let found : first_let groups rules h.a h.b ≡ Some x.rule = place_of_all test rules x.rule first in
      let other : (h.a.id == h.b.id) ≡ false = ne_eqb h.a.id h.b.id (λ e. h.differ (sym h.from ∙ (e ∙ h.to))) in
      let between : reach_between groups rules h.a h.b ≡ Some x = rw (other, found) (λ i. Some (record { from = h.from i; to = h.to i; rule = x.rule })) in
      member_joined (reaches_from groups rules sites) sites h.a x h.source (member_kept (reach_between groups rules h.a) sites h.b x h.dest between)

  -- of two machines that differ, where one reaches the other
  found_between : (a b : Site) → Contains (sites_of policy rows live) a → Contains (sites_of policy rows live) b → (a.id ≡ b.id → ⊥) → (o : Option ℕ)
      → first_let (groups_of policy) (rules_of policy) a b ≡ o → is_some o ≡ true → (rule : ℕ) × Contains (reach_list policy (sites_of policy rows live)) (record { from = a.id; to = b.id; rule = rule })
  found_between a b p q differ None e h = absurd (cc)
  found_between a b p q differ (Some n) e h =
      let groups = groups_of policy in
      let rules = rules_of policy in
      let sites = sites_of policy rows live in
      let other : (a.id == b.id) ≡ false = ne_eqb a.id b.id differ in
      let between : reach_between groups rules a b ≡ Some (record { from = a.id; to = b.id; rule = n }) = rw (other, e) refl in (
        n,
        member_joined (reaches_from groups rules sites) sites a (record { from = a.id; to = b.id; rule = n }) p
            (member_kept (reach_between groups rules a) sites b (record { from = a.id; to = b.id; rule = n }) q between),
      )

  pub reached_listed : (a b : Site) → Contains (sites_of policy rows live) a → Contains (sites_of policy rows live) b → a.id ≢ b.id → reaches policy (sites_of policy rows live) a b ≡ true
      → (rule : ℕ) × Contains (reach_list policy (sites_of policy rows live)) (record { from = a.id; to = b.id; rule = rule })
  reached_listed a b p q differ h =
      let groups = groups_of policy in
      let rules = rules_of policy in
      let lets = sym (live_reach policy rows live a b sound_rules sound p q) ∙ h in
      found_between a b p q differ (first_let groups rules a b) refl (some_place (lets_through groups a b) 0 rules ∙ lets)
