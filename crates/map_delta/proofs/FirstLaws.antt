-- Folding a whole map gives the map, and folding a greeting changes none.
use Rattle.std.proofs.Common.{◌≡◌, ℕ, List, [], ◌∷◌, ◌∙◌, ap, refl}
use Rattle.std.specs.Prelude.{Option, Some, None}
use Rattle.tailcfg.specs.declared.node_row.NodeRow.{NodeRow}
use Rattle.fresh_maps.specs.InOrder.{IsInOrder}
use Rattle.fresh_maps.specs.Profiles.{owns_any}
use Rattle.fresh_maps.specs.Responses.{first_response}
use Rattle.fresh_maps.specs.declared.view.View.{View}
use Rattle.map_delta.specs.Delta.{greeting}
use Rattle.map_delta.specs.Fold.{applied, bare, fold, peers_after, peers_given, profiles_shown}
use Rattle.map_delta.specs.Puts.{profile_id, put_rows}
use Rattle.map_delta.proofs.DeltaLaws.{drop_none}
use Rattle.map_delta.proofs.ProfileLemmas.{profiles_stay, put_among_none}

given_are : (rows : List NodeRow) → peers_given rows [] ≡ rows
given_are [] = refl
given_are (r ∷ rows) = refl

-- on a view with nothing but the node
whole_gives : (v : View) (handle : Option (List ℕ)) (seq : Option ℕ) → IsInOrder v → applied (first_response v handle seq) (bare v.node) ≡ v
whole_gives v handle seq h =
    let peers : peers_after (first_response v handle seq) [] ≡ v.peers = drop_none (peers_given v.peers []) ∙ given_are v.peers in
    let profiles : put_rows profile_id [] v.profiles ≡ v.profiles = put_among_none v.profiles h.profiles in
    λ i. record {
      node = v.node;
      peers = peers i;
      filter = v.filter;
      dns = v.dns;
      domain = v.domain;
      profiles = ((λ j. profiles_shown (v.node ∷ peers j) (profiles j)) ∙ profiles_stay v.profiles (λ k. owns_any (v.node ∷ v.peers) k) h.profiles h.owners) i;
    }

pub first_law : (v : View) (handle : Option (List ℕ)) (seq : Option ℕ) → IsInOrder v → fold None (first_response v handle seq) ≡ Some v
first_law v None seq h = ap Some (whole_gives v None seq h)
first_law v (Some handle) seq h = ap Some (whole_gives v (Some handle) seq h)

pub anew_law : (was : Option View) (v : View) (handle : List ℕ) (seq : Option ℕ) → IsInOrder v → fold was (first_response v (Some handle) seq) ≡ Some v
anew_law None v handle seq h = ap Some (whole_gives v (Some handle) seq h)
anew_law (Some w) v handle seq h = ap Some (whole_gives v (Some handle) seq h)

pub greeting_law : (v : View) (handle : List ℕ) → IsInOrder v → fold (Some v) (greeting handle) ≡ Some v
greeting_law v handle h =
    let peers : peers_after (greeting handle) v.peers ≡ v.peers = drop_none v.peers in
    ap Some (λ i. record {
      node = v.node;
      peers = peers i;
      filter = v.filter;
      dns = v.dns;
      domain = v.domain;
      profiles = ((λ j. profiles_shown (v.node ∷ peers j) v.profiles) ∙ profiles_stay v.profiles (λ k. owns_any (v.node ∷ v.peers) k) h.profiles h.owners) i;
    })
