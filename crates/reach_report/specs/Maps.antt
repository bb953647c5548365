-- A report beside maps.
use Rattle.std.specs.Prelude.{◌==◌, ◌&&◌, ◌||◌, ℕ, Bool, List}
use Rattle.std.specs.List.{list_any}
use Rattle.fresh_maps.specs.declared.view.View.{View}
use Rattle.reach_report.specs.declared.reach.Reach.{Reach}

-- a machine of that id is a peer in the map
abbrev pub has_peer : View → ℕ → Bool
has_peer view id = list_any (λ peer. peer.id == id) view.peers

-- it is from one of the two ids to the other, either way
abbrev pub joins_pair : ℕ → ℕ → Reach → Bool
joins_pair a b x = (x.from == a && x.to == b) || (x.from == b && x.to == a)

-- something is said of the two
abbrev pub has_pair : List Reach → ℕ → ℕ → Bool
has_pair reaches a b = list_any (joins_pair a b) reaches
