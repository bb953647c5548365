use Rattle.std.proofs.Common.{List, [], ◌∷◌, ℕ, refl, Option, Some}
use Rattle.std.specs.Prelude.{codes, option_map}
use Rattle.serde_json.specs.Data.{Data, boolean}
use Rattle.tailcfg.specs.declared.patch.Patch.{Patch}
use Rattle.wire_write.specs.Parts.{array_data, disco_key_data, endpoint_data, number_data}
use Rattle.wire_write.specs.Nodes.{patch_data}
use Rattle.wire_write.proofs.MemberLemmas.{next_some}
use Rattle.wire_write.proofs.TokenLemmas.{opened, last}
use Rattle.wire_write.proofs.patch.PatchTokenForm.write_json.Goals as goal

abbrev m5 : Patch → List (List ℕ × Option Data)
m5 p = (codes "Online", option_map boolean p.online) ∷ []

abbrev m4 : Patch → List (List ℕ × Option Data)
m4 p = (codes "NodeID", Some (number_data p.id)) ∷ m5 p

abbrev m3 : Patch → List (List ℕ × Option Data)
m3 p = (codes "Endpoints", option_map (array_data endpoint_data) p.endpoints) ∷ m4 p

abbrev m2 : Patch → List (List ℕ × Option Data)
m2 p = (codes "DiscoKey", option_map disco_key_data p.disco) ∷ m3 p

pub returns : goal.returns
unfolding patch_data
returns c =
    let p = c.args.self.now in
    record {
      adds = opened _ c.in_ok-begin_object.ensures.adds (
          next_some (codes "DERPRegion") (option_map number_data p.derp) (m2 p) refl c.in_ok-write_option.ensures.adds (
          next_some (codes "DiscoKey") (option_map disco_key_data p.disco) (m3 p) refl c.in_ok-write_option-2.ensures.adds (
          next_some (codes "Endpoints") (option_map (array_data endpoint_data) p.endpoints) (m4 p) refl c.in_ok-write_option-3.ensures.adds (
          next_some (codes "NodeID") (Some (number_data p.id)) (m5 p) refl c.in_ok-write_member.ensures.adds (
          next_some (codes "Online") (option_map boolean p.online) [] refl c.in_ok-write_option-4.ensures.adds (last c.in_ok-end_object.ensures.adds))))));
    }
