-- Which machine reaches which, and by which rule first.
use Rattle.std.specs.Prelude.{◌≡◌, ◌≢◌, ◌<◌, ◌==◌, ℕ, Bool, true, false, List, [], ◌∷◌, Option, Some, None, Contains, filter_map, flat_map, slice_get, if◌then◌else◌}
use Rattle.std.specs.List.{position_from}
use Rattle.std.specs.Option.{option_map}
use Rattle.net_rows.specs.declared.rows.Rows.{Rows}
use Rattle.policy_rows.specs.declared.group.Group.{Group}
use Rattle.policy_rows.specs.declared.policy.Policy.{Policy}
use Rattle.policy_rows.specs.declared.rule.Rule.{Rule}
use Rattle.policy_sites.specs.ByRule.{lets_through}
use Rattle.policy_sites.specs.Grants.{groups_of, rules_of}
use Rattle.policy_sites.specs.Sites.{sites_of}
use Rattle.policy_sites.specs.declared.site.Site.{Site}
use Rattle.peer_view.specs.Reaches.{reaches}
use Rattle.reach_report.specs.declared.reach.Reach.{Reach}

-- the first of the rules by which alone one machine is let through to the other
abbrev pub first_let : List Group → List Rule → Site → Site → Option ℕ
first_let groups rules a b = position_from (lets_through groups a b) 0 rules

-- what a report says of two machines: nothing of one and itself, or where no rule lets the one through to the other
abbrev pub reach_between : List Group → List Rule → Site → Site → Option Reach
reach_between groups rules a b =
    if a.id == b.id then None else option_map (λ rule. record { from = a.id; to = b.id; rule = rule }) (first_let groups rules a b)

-- what it says of one machine to each of these, in their order
abbrev pub reaches_from : List Group → List Rule → List Site → Site → List Reach
reaches_from groups rules sites a = filter_map (reach_between groups rules a) sites

-- Of each machine to each other, in their order: by the source first, and then by the destination.
abbrev pub reach_list : Option Policy → List Site → List Reach
reach_list policy sites = flat_map (reaches_from (groups_of policy) (rules_of policy) sites) sites

-- the same over the live machines, whose ids these are
abbrev pub reach_list_at : Option Policy → Rows → List ℕ → List Reach
reach_list_at policy rows live = reach_list policy (sites_of policy rows live)

-- the policy's groups with that rule alone
abbrev pub only_rule : Option Policy → Rule → Option Policy
only_rule policy r = Some (record { groups = groups_of policy; hosts = []; tags = []; rules = Some (r ∷ []); route_approvers = []; exit_approvers = []; tests = [] })

-- Two machines differ, one reaches the other, and of the rules this is the first by which alone some flow from an address of one to an address
-- that the other serves is granted.
pub record IsReach (policy : Option Policy) (sites : List Site) (x : Reach) : Type 0 where
  pub a : Site
  pub b : Site
  pub source : Contains sites a
  pub dest : Contains sites b
  pub from : a.id ≡ x.from
  pub to : b.id ≡ x.to
  pub differ : x.from ≢ x.to
  pub reached : reaches policy sites a b ≡ true
  pub rule : Rule
  pub stands : slice_get (rules_of policy) x.rule ≡ Some rule
  pub alone : reaches (only_rule policy rule) sites a b ≡ true
  pub least : (n : ℕ) (r : Rule) → n < x.rule → slice_get (rules_of policy) n ≡ Some r → reaches (only_rule policy r) sites a b ≡ false
