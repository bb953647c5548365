use Rattle.std.proofs.Common.{refl, subst, sym}
use Rattle.std.specs.Prelude.{codes}
use Rattle.std.specs.Option.{option_copied}
use Rattle.tailcfg.specs.declared.response.Response.{Response}
use Rattle.wire_write.specs.Nodes.{node_data}
use Rattle.wire_write.specs.Parts.{some_array}
use Rattle.wire_write.specs.Responses.{changed_members, peer_members}
use Rattle.wire_write.specs.Tokens.{Adds, closing_tokens}
use Rattle.wire_write.proofs.MemberLemmas.{next_some}
use Rattle.wire_write.proofs.ResponseMembers.{from_changed}
use Rattle.wire_write.proofs.response.write_peers.Goals as goal

pub returns : goal.returns
unfolding peer_members changed_members
returns c =
    let i = c.response.inside in
    let r : Response = record {
      handle = option_copied i.handle;
      seq = i.seq;
      node = option_copied i.node;
      filter = option_copied i.filter;
      dns = option_copied i.dns;
      domain = option_copied i.domain;
      peers = i.peers.now;
      changed = i.changed.now;
      removed = i.removed.now;
      patches = i.patches.now;
      profiles = i.profiles.now;
    } in
    record {
      adds = subst (λ (s : Response). Adds (closing_tokens (peer_members s)) c.args.out.now c.write_changed.new.out) c.response.view_is (
          next_some (codes "Peers") (some_array node_data r.peers) (from_changed r) refl c.in_ok-write_list.ensures.adds (
          subst (λ (s : Response). Adds (closing_tokens (changed_members s)) c.write_list.new.out c.write_changed.new.out) (sym c.response.view_is) c.in_ok-write_changed.ensures.adds));
    }
