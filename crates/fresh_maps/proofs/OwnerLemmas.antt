-- Owners of nodes, listed by id.
use Rattle.std.proofs.Common.{◌≡◌, ◌∙◌, ◌==◌, ◌∷◌, ◌||◌, [], ℕ, List, ap, refl, sym}
use Rattle.std.specs.Prelude.{map}
use Rattle.std.specs.List.{list_any}
use Rattle.std.specs.List.Sorted.{IsPermutation}
use Rattle.std.proofs.lemmas.List.Sorted.{list_any-IsPermutation}
use Rattle.tailcfg.specs.declared.node_row.NodeRow.{NodeRow}
use Rattle.policy_sites.specs.Sites.{is_listed}
use Rattle.fresh_maps.specs.Profiles.{owners_of, owns_any}

owners_listed : (nodes : List NodeRow) (id : ℕ) → is_listed (map (λ (n : NodeRow). n.user) nodes) id ≡ owns_any nodes id
owners_listed [] id = refl
owners_listed (n ∷ nodes) id = ap (λ b. (n.user == id) || b) (owners_listed nodes id)

-- their ids in any order
pub permuted_owners : (nodes : List NodeRow) (ids sorted : List ℕ) → ids ≡ map (λ (n : NodeRow). n.user) nodes → IsPermutation ids sorted → (id : ℕ) → is_listed sorted id ≡ owns_any nodes id
permuted_owners nodes ids sorted are permuted id =
    sym (list_any-IsPermutation (λ other. other == id) ids sorted permuted) ∙ (ap (λ (held : List ℕ). is_listed held id) are ∙ owners_listed nodes id)
