-- What the selectors of rules cover, each found once.
use Rattle.std.specs.Prelude.{◌≡◌, ◌<◌, ◌&&◌, ◌||◌, Bool, false, ℕ, List, [], ◌++◌, Some, Contains, length, slice_get, if◌then◌else◌}
use Rattle.std.specs.List.{list_any}
use Rattle.std.specs.Option.{option_map_or}
use Rattle.net_addr.specs.Bits.{Block}
use Rattle.range_sets.specs.Sets.{Ranges, has}
use Rattle.policy_rows.specs.declared.group.Group.{Group}
use Rattle.policy_rows.specs.declared.selector.Selector.{Selector}
use Rattle.policy_sites.specs.Beyond.{covers_into}
use Rattle.policy_sites.specs.ByRule.{IsSoundSite}
use Rattle.policy_eval.specs.Expansion.{CoverFits}
use Rattle.policy_sites.specs.Sites.{AreDistinct, serves_beyond}
use Rattle.policy_eval.specs.declared.cover.Cover.{Cover}
use Rattle.policy_eval.specs.declared.rule_sets.RuleSets.{RuleSets}
use Rattle.policy_sites.specs.declared.site.Site.{Site}

-- What is covered of which sites.
pub record Covering : Type 0 where
  pub groups : List Group
  pub sites : List Site
  pub list : List Cover

-- each is what its own selector covers
abbrev pub AreCovers : Covering → Type 0
AreCovers x = (cover : Cover) → Contains x.list cover → CoverFits x.groups x.sites cover.selector cover

-- What was found is sound, and so are the sites.
pub record IsCovering (x : Covering) : Type 0 where
  pub distinct : AreDistinct x.sites
  pub sound : (site : Site) → Contains x.sites site → IsSoundSite site
  pub covers : AreCovers x

-- nothing that was there has changed
pub record IsGrown (old new : Covering) : Type 0 where
  pub groups : new.groups ≡ old.groups
  pub sites : new.sites ≡ old.sites
  pub list : (more : List Cover) × (new.list ≡ old.list ++ more)

-- the set has one of the site's own addresses
abbrev pub has_site : Ranges → Site → Bool
has_site set site = has set site.v4 || has set site.v6

-- the prefixes of the cover at that place
abbrev pub place_nets : List Cover → ℕ → List Block
place_nets list place = option_map_or (λ cover. cover.nets) (slice_get list place) []

-- what a test says of each number below that
pub record AreIndexed (test : ℕ → Bool) (count : ℕ) (flags : List Bool) : Type 0 where
  pub whole : length flags ≡ count
  pub at : (n : ℕ) → n < count → slice_get flags n ≡ Some (test n)

-- the flag at that place
abbrev pub flag_at : List Bool → ℕ → Bool
flag_at flags at = option_map_or (λ flag. flag) (slice_get flags at) false

-- of each site whether the selector covers something that it serves, or one of its own ends
abbrev pub flags_by : Bool → Cover → List Bool
flags_by served cover = if served then cover.served else cover.flags

-- the flag of a cover, which stands at the first place, for the site at the second
abbrev pub cover_flag : Bool → List Cover → ℕ → ℕ → Bool
cover_flag served list at place = option_map_or (λ cover. flag_at (flags_by served cover) at) (slice_get list place) false

-- one of the covers at these places has the flag for the site at that place
abbrev pub some_flag : Bool → List Cover → List ℕ → ℕ → Bool
some_flag served list places at = list_any (cover_flag served list at) places

-- the selector covers something that the site at that place serves beside its own addresses
abbrev pub beyond_at : List Site → Selector → ℕ → Bool
beyond_at sites selector at = option_map_or (λ site. covers_into (serves_beyond site) selector) (slice_get sites at) false

-- it has the flag, or covers something beside
abbrev pub served_at : List Bool → List Site → Selector → ℕ → Bool
served_at flags sites selector at = flag_at flags at || beyond_at sites selector at

-- by what is known of a rule it lets one site through to the other; the last word is whether they are of one login
abbrev pub sets_let : ℕ → ℕ → Bool → RuleSets → Bool
sets_let a b own sets = flag_at sets.sends a && (flag_at sets.takes b || (sets.owns && own))
