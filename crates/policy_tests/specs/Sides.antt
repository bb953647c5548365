-- Denials by each rule alone, with machines by their flags.
use Rattle.std.specs.Prelude.{◌+◌, ◌&&◌, ◌||◌, ◌++◌, ℕ, Bool, false, List, [], ◌∷◌, Option, slice_get, if◌then◌else◌}
use Rattle.std.specs.List.{list_any}
use Rattle.std.specs.Option.{option_map_or}
use Rattle.policy_rows.specs.Named.{members_of}
use Rattle.policy_rows.specs.declared.dest.Dest.{Dest}
use Rattle.policy_rows.specs.declared.group.Group.{Group}
use Rattle.policy_rows.specs.declared.rule.Rule.{Rule}
use Rattle.policy_rows.specs.declared.selector.Selector.{Selector}
use Rattle.policy_rows.specs.declared.selector.Selector.TheVariants as sel
use Rattle.policy_sites.specs.ByRule.{covers_site, sends, takes}
use Rattle.policy_sites.specs.Covers.{covers, is_own_devices, joins_own}
use Rattle.policy_sites.specs.Grants.{some_source}
use Rattle.policy_sites.specs.declared.end.End.{End}
use Rattle.policy_sites.specs.declared.site.Site.{Site}
use Rattle.policy_eval.specs.Expansion.{Expansion}
use Rattle.policy_tests.specs.TestEnds.{has_tag, is_users, machine_end}
use Rattle.policy_tests.specs.Trials.{core_of, is_open}
use Rattle.policy_tests.specs.declared.side.Side.{Side}

-- a subject or a destination stands for the machine: one of a user's own, of a member's own, or with the tag
abbrev pub names_machine : List Group → Selector → Site → Bool
names_machine groups (sel.User login) m = is_users login m
names_machine groups (sel.Group name) m = list_any (λ login. is_users login m) (members_of groups name)
names_machine groups (sel.Tagged tag) m = has_tag tag m
names_machine groups (sel.Net net) m = false
names_machine groups sel.All m = false
names_machine groups sel.Member m = false
names_machine groups sel.AllTagged m = false
names_machine groups sel.Internet m = false
names_machine groups sel.OwnDevices m = false

-- the places of those that pass, counted from that one
abbrev pub places_from : {A : Type 0} → (A → Bool) → ℕ → List A → List ℕ
places_from test at [] = []
places_from test at (x ∷ xs) = (if test x then at ∷ [] else []) ++ places_from test (at + 1) xs

-- the machines for which a subject or a destination stands, by their places, and its ends without them
abbrev pub side_of : Expansion → Selector → Side
side_of x selector = record {
  machines = places_from (names_machine x.groups selector) 0 x.sites;
  core = core_of x.groups x.sites selector;
}

-- the machine at that place passes
abbrev pub passes_at : List Site → (Site → Bool) → ℕ → Bool
passes_at sites test place = option_map_or test (slice_get sites place) false

-- the destination, one of the rule's, covers one of the machine's ends, for which the rule's flag has to be set
abbrev pub takes_by : List Group → Rule → Dest → Site → Bool
takes_by groups r entry m = takes groups r m && covers_site groups m entry.to

-- `autogroup:self` joins the machine with one of the ends
abbrev pub joins_machine : Site → List End → Bool
joins_machine m ds = list_any (joins_own (machine_end m m.v4)) ds

-- some end of the side is a source of the rule
abbrev pub side_sends : Expansion → Rule → Side → Bool
side_sends x r side = list_any (passes_at x.sites (sends x.groups r)) side.machines || list_any (some_source x.groups r) side.core

-- the destination covers some end of the side
abbrev pub side_takes : Expansion → Rule → Dest → Side → Bool
side_takes x r entry side =
    list_any (passes_at x.sites (takes_by x.groups r entry)) side.machines || list_any (λ d. covers x.groups entry.to d) side.core

-- `autogroup:self` joins a source of the rule with some end without a machine
abbrev pub side_joins : Expansion → Rule → Side → List End → Bool
side_joins x r side ds =
    list_any (passes_at x.sites (λ m. sends x.groups r m && joins_machine m ds)) side.machines
    || list_any (λ s. some_source x.groups r s && list_any (joins_own s) ds) side.core

-- some end of one side is a source of the rule, and for it the destination covers some of the other side
abbrev pub is_met_by : Expansion → Side → Side → Rule → Dest → Bool
is_met_by x sources dests r entry =
    if is_own_devices entry.to then side_joins x r sources dests.core else (side_sends x r sources && side_takes x r entry dests)

-- a destination of the rule is open, and it is met
abbrev pub lets_by : Expansion → Option ℕ → ℕ → Side → Side → Rule → Bool
lets_by x proto port sources dests r = list_any (λ entry. is_open proto port r entry && is_met_by x sources dests r entry) r.dests
