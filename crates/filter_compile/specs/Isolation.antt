-- Which machines matter for a machine's filter.
use Rattle.std.specs.Prelude.{◌==◌, ◌||◌, Bool, List}
use Rattle.policy_rows.specs.declared.group.Group.{Group}
use Rattle.policy_rows.specs.declared.rule.Rule.{Rule}
use Rattle.policy_sites.specs.ByRule.{site_reaches}
use Rattle.policy_sites.specs.declared.site.Site.{Site}

-- the machine itself, one that it reaches by the rules, or one that reaches it
abbrev pub is_near : List Group → List Rule → Site → Site → Bool
is_near groups rules m q = q.id == m.id || (site_reaches groups rules m q || site_reaches groups rules q m)
