-- Pairs of ends by each rule alone: whether a rule has the one as a source and covers the other.
use Rattle.std.specs.Prelude.{◌&&◌, ◌||◌, ℕ, Bool, false, List, [], ◌∷◌, Option, map}
use Rattle.std.specs.List.{list_all, list_any}
use Rattle.policy_rows.specs.declared.group.Group.{Group}
use Rattle.policy_rows.specs.declared.rule.Rule.{Rule}
use Rattle.policy_sites.specs.Covers.{covers, is_own_devices, joins_own}
use Rattle.policy_sites.specs.Grants.{some_source}
use Rattle.policy_sites.specs.declared.end.End.{End}
use Rattle.policy_eval.specs.Expansion.{Expansion}
use Rattle.policy_tests.specs.Trials.{is_open}
use Rattle.policy_tests.specs.declared.pairs.Target.{Target}

-- an open destination of the rule covers the end, whatever the source
abbrev pub opens_to : List Group → Option ℕ → ℕ → End → Rule → Bool
opens_to groups proto port d r = list_any (λ entry. is_open proto port r entry && covers groups entry.to d) r.dests

-- `autogroup:self` is an open destination of the rule
abbrev pub opens_own : Option ℕ → ℕ → Rule → Bool
opens_own proto port r = list_any (λ entry. is_open proto port r entry && is_own_devices entry.to) r.dests

-- of each rule whether the end is a source
abbrev pub source_row : Expansion → End → List Bool
source_row x s = map (λ r. some_source x.groups r s) x.rules

-- of each rule whether an open destination covers the end
abbrev pub dest_row : Expansion → Option ℕ → ℕ → End → List Bool
dest_row x proto port d = map (opens_to x.groups proto port d) x.rules

-- of each rule whether `autogroup:self` is an open destination
abbrev pub self_row : Expansion → Option ℕ → ℕ → List Bool
self_row x proto port = map (opens_own proto port) x.rules

-- at some place both are set
abbrev pub flags_meet : List Bool → List Bool → Bool
flags_meet [] bs = false
flags_meet (a ∷ flags) [] = false
flags_meet (a ∷ flags) (b ∷ bs) = (a && b) || flags_meet flags bs

-- an end with its row
abbrev pub dest_target : Expansion → Option ℕ → ℕ → End → Target
dest_target x proto port d = record { end = d; row = dest_row x proto port d }

-- some rule lets the source through to each of the targets; where `autogroup:self` is an open destination is given
abbrev pub reaches_all : Expansion → List Bool → List Target → End → Bool
reaches_all x own targets s =
    list_all (λ t. flags_meet (source_row x s) t.row || (flags_meet (source_row x s) own && joins_own s t.end)) targets
