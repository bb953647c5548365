-- What the filter of a map admits.
use Rattle.std.proofs.Common.{◌≡◌, ℕ, List}
use Rattle.std.specs.Prelude.{Contains, Option, None}
use Rattle.net_rows.specs.Damage.{damage}
use Rattle.net_rows.specs.declared.rows.Rows.{Rows}
use Rattle.settings.specs.declared.fields.SettingsFields.{SettingsFields}
use Rattle.policy_rows.specs.declared.policy.Policy.{Policy}
use Rattle.policy_sites.specs.Grants.{groups_of, rules_of}
use Rattle.policy_sites.specs.Reach.{AreSoundRules}
use Rattle.policy_sites.specs.Sites.{AreServedApart, AreDistinct}
use Rattle.policy_sites.proofs.SiteLemmas.{one_site, sites_apart}
use Rattle.filter_compile.proofs.RuleLemmas.{filter_admits}
use Rattle.peer_view.specs.Seen.{Node, Seen, seen_of, sites_seen}
use Rattle.peer_view.proofs.ListLemmas.{map_member}
use Rattle.peer_view.proofs.WorldLaws.{sites_are}
use Rattle.fresh_maps.specs.Fresh.{fresh}
use Rattle.fresh_maps.specs.Granted.{MeetsPolicy}

pub admits_granted : (w : Seen) (m : Node) → AreDistinct (sites_seen w) → AreServedApart (sites_seen w) → AreSoundRules (rules_of w.policy) → Contains w.nodes m → MeetsPolicy w m (fresh w m).filter
admits_granted w m distinct apart sound inside =
    filter_admits (groups_of w.policy) (rules_of w.policy) (sites_seen w) m.site distinct apart sound (map_member (λ (n : Node). n.site) w.nodes m inside)

-- of tables that keep their rules
pub map_admits : (settings : SettingsFields) (policy : Option Policy) (rows : Rows) (live online : List ℕ) (m : Node) → damage rows ≡ None → AreSoundRules (rules_of policy)
    → Contains (seen_of settings policy rows live online).nodes m → MeetsPolicy (seen_of settings policy rows live online) m (fresh (seen_of settings policy rows live online) m).filter
map_admits settings policy rows live online m kept sound inside =
    let w = seen_of settings policy rows live online in
    let distinct : AreDistinct (sites_seen w) = rw (sites_are settings policy rows live online) (one_site policy rows live kept) in
    let apart : AreServedApart (sites_seen w) = rw (sites_are settings policy rows live online) (sites_apart policy rows live kept) in
    admits_granted w m distinct apart sound inside
