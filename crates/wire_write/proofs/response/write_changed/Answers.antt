use Rattle.std.proofs.Common.{[], refl, subst}
use Rattle.std.specs.Prelude.{codes, option_map}
use Rattle.std.specs.Option.{option_copied}
use Rattle.tailcfg.specs.declared.response.Response.{Response}
use Rattle.wire_write.specs.Nodes.{node_data, patch_data, profile_data}
use Rattle.wire_write.specs.Parts.{number_data, some_array}
use Rattle.wire_write.specs.Responses.{changed_members}
use Rattle.wire_write.specs.Tokens.{Adds, closing_tokens}
use Rattle.wire_write.proofs.MemberLemmas.{next_some}
use Rattle.wire_write.proofs.ResponseMembers.{from_patches, from_profiles, from_removed, from_seq}
use Rattle.wire_write.proofs.TokenLemmas.{last}
use Rattle.wire_write.proofs.response.write_changed.Goals as goal

pub returns : goal.returns
unfolding changed_members
returns c =
    let i = c.response.inside in
    let r : Response = record {
      handle = option_copied i.handle;
      seq = i.seq;
      node = option_copied i.node;
      filter = option_copied i.filter;
      dns = option_copied i.dns;
      domain = option_copied i.domain;
      peers = i.peers.now;
      changed = i.changed.now;
      removed = i.removed.now;
      patches = i.patches.now;
      profiles = i.profiles.now;
    } in
    record {
      adds = subst (λ (s : Response). Adds (closing_tokens (changed_members s)) c.args.out.now c.end_object.new.out) c.response.view_is (
          next_some (codes "PeersChanged") (some_array node_data r.changed) (from_patches r) refl c.in_ok-write_list.ensures.adds (
          next_some (codes "PeersChangedPatch") (some_array patch_data r.patches) (from_removed r) refl c.in_ok-write_list-2.ensures.adds (
          next_some (codes "PeersRemoved") (some_array number_data r.removed) (from_seq r) refl c.in_ok-write_list-3.ensures.adds (
          next_some (codes "Seq") (option_map number_data r.seq) (from_profiles r) refl c.in_ok-write_option.ensures.adds (
          next_some (codes "UserProfiles") (some_array profile_data r.profiles) ([]) refl c.in_ok-write_list-4.ensures.adds (
          last c.in_ok-end_object.ensures.adds))))));
    }
