-- The lengths of lists and objects in memory are those of their data.
use Rattle.std.proofs.Common.{◌≡◌, List, [], ◌∷◌, length, refl, arith, String}
use Rattle.std.specs.declared.alloc.Global.{Global}
use Rattle.serde_json.specs.View.{items_view, members_view}
use Rattle.serde_json.specs.declared.value.Value.{Value}
use Rattle.policy_doc.specs.Walks.{items_count, members_count}

pub items_count_view : (vs : List Value) → items_count (items_view vs) ≡ length vs
items_count_view [] = refl
items_count_view (v ∷ vs) = omega (arith, items_count_view vs)

pub members_count_view : (ms : List (String Global × Value)) → members_count (members_view ms) ≡ length ms
members_count_view [] = refl
members_count_view (m ∷ ms) = omega (arith, members_count_view ms)
