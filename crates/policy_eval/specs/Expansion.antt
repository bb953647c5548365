-- A policy expanded over sites: what its selectors and rules cover.
use Rattle.std.specs.Prelude.{◌≡◌, ◌<◌, ℕ, Bool, List, [], ◌∷◌, Option, Some, slice_get}
use Rattle.net_addr.specs.Bits.{Address, family_size}
use Rattle.range_sets.specs.Sets.{Ranges, has, some_holds}
use Rattle.policy_rows.specs.declared.dest.Dest.{Dest}
use Rattle.policy_rows.specs.declared.group.Group.{Group}
use Rattle.policy_rows.specs.declared.policy.Policy.{Policy}
use Rattle.policy_rows.specs.declared.rule.Rule.{Rule}
use Rattle.policy_rows.specs.declared.selector.Selector.{Selector}
use Rattle.net_rows.specs.declared.rows.Rows.{Rows}
use Rattle.policy_sites.specs.ByRule.{covers_served, covers_site, has_own_devices, sends, takes}
use Rattle.policy_sites.specs.Covers.{covers}
use Rattle.policy_sites.specs.Ends.{end_at}
use Rattle.policy_sites.specs.Fitting.{AreApproved}
use Rattle.policy_sites.specs.Grants.{groups_of, rules_of, some_source}
use Rattle.policy_sites.specs.Reach.{AreSoundRules}
use Rattle.policy_sites.specs.Sites.{AreServedApart, AreDistinct, sites_of}
use Rattle.policy_eval.specs.declared.cover.Cover.{Cover}
use Rattle.policy_eval.specs.declared.rule_sets.RuleSets.{RuleSets}
use Rattle.policy_sites.specs.declared.site.Site.{Site}

-- What was expanded over which sites.
pub record Expansion : Type 0 where
  pub groups : List Group
  pub rules : List Rule
  pub sites : List Site

-- a policy expanded over the machines that are live, whose ids these are
abbrev pub expansion_of : Option Policy → Rows → List ℕ → Expansion
expansion_of policy rows live = record {
  groups = groups_of policy;
  rules = rules_of policy;
  sites = sites_of policy rows live;
}

-- of the addresses that there are, the set has those that pass the test
abbrev pub IsSetOf : Ranges → (Address → Bool) → Type 0
IsSetOf set test = (addr : Address) → addr.bits < family_size addr.v6 → has set addr ≡ test addr

-- a source of the rule covers the address and its holder
abbrev pub source_covers : List Group → List Site → Rule → Address → Bool
source_covers groups sites r addr = some_source groups r (end_at sites addr)

-- the destination covers them; `autogroup:self`, which takes a source, covers none
abbrev pub entry_covers : List Group → List Site → Dest → Address → Bool
entry_covers groups sites entry addr = covers groups entry.to (end_at sites addr)

-- the lists are of one length, and go together place by place
abbrev pub AreMatched : {A B : Type 0} → (A → B → Type 0) → List A → List B → Type 0
AreMatched Fits [] [] = Unit {0}
AreMatched Fits [] (y ∷ ys) = ⊥
AreMatched Fits (x ∷ xs) [] = ⊥
AreMatched Fits (x ∷ xs) (y ∷ ys) = Fits x y × AreMatched Fits xs ys

-- the flags are those of the sites, place by place
abbrev pub AreFlags : (Site → Bool) → List Site → List Bool → Type 0
AreFlags test sites flags = (at : ℕ) (site : Site) → slice_get sites at ≡ Some site → slice_get flags at ≡ Some (test site)

-- what the selector, which is kept beside, covers: as prefixes, as a set, and of each site whether it covers one of its own ends, and whether
-- it covers something that the site serves
pub record CoverFits (groups : List Group) (sites : List Site) (selector : Selector) (cover : Cover) : Type 0 where
  pub own : cover.selector ≡ selector
  pub nets : (addr : Address) → addr.bits < family_size addr.v6 → some_holds cover.nets addr ≡ covers groups selector (end_at sites addr)
  pub set : IsSetOf cover.set (λ addr. covers groups selector (end_at sites addr))
  pub flags : AreFlags (λ site. covers_site groups site selector) sites cover.flags
  pub served : AreFlags (λ site. covers_served groups site selector) sites cover.served

-- what the selector covers stands at that place
abbrev pub IsCoverAt : List Group → List Site → List Cover → Selector → ℕ → Type 0
IsCoverAt groups sites list selector place = (cover : Cover) × (slice_get list place ≡ Some cover) × CoverFits groups sites selector cover

-- the same of a destination
abbrev pub IsEntryAt : List Group → List Site → List Cover → Dest → ℕ → Type 0
IsEntryAt groups sites list entry place = IsCoverAt groups sites list entry.to place

-- what is known of a rule
pub record RuleFits (groups : List Group) (sites : List Site) (list : List Cover) (r : Rule) (sets : RuleSets) : Type 0 where
  pub sources : IsSetOf sets.sources (source_covers groups sites r)
  pub source_places : AreMatched (IsCoverAt groups sites list) r.sources sets.source_places
  pub dests : AreMatched (IsEntryAt groups sites list) r.dests sets.dests
  pub sends : AreFlags (sends groups r) sites sets.sends
  pub takes : AreFlags (takes groups r) sites sets.takes
  pub owns : sets.owns ≡ has_own_devices r

-- what is known of the rules, place by place
pub record SetsFit (x : Expansion) (list : List Cover) (sets : List RuleSets) : Type 0 where
  pub distinct : AreDistinct x.sites
  pub apart : AreServedApart x.sites
  pub sound : AreSoundRules x.rules
  pub matched : AreMatched (RuleFits x.groups x.sites list) x.rules sets

-- what was expanded is the policy, over whatever sites, of which it approves what they say
pub record IsOfPolicy (policy : Option Policy) (made : Expansion) : Type 0 where
  pub groups : made.groups ≡ groups_of policy
  pub rules : made.rules ≡ rules_of policy
  pub sites : AreApproved policy made.sites
