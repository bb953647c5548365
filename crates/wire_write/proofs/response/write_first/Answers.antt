use Rattle.std.proofs.Common.{subst}
use Rattle.std.specs.Option.{option_copied}
use Rattle.tailcfg.specs.declared.response.Response.{Response}
use Rattle.wire_write.specs.Joined.{first_tokens}
use Rattle.wire_write.specs.Tokens.{Adds}
use Rattle.wire_write.proofs.TokenLemmas.{nothing, then}
use Rattle.wire_write.proofs.response.write_first.Goals as goal

pub returns : goal.returns
returns c =
    let i = c.response.inside in
    let r : Response = record {
      handle = option_copied i.handle;
      seq = i.seq;
      node = option_copied i.node;
      filter = option_copied i.filter;
      dns = option_copied i.dns;
      domain = option_copied i.domain;
      peers = i.peers.now;
      changed = i.changed.now;
      removed = i.removed.now;
      patches = i.patches.now;
      profiles = i.profiles.now;
    } in
    record {
      adds = subst (λ (s : Response). Adds (first_tokens s) c.args.out.now c.write_lent-5.new.out) c.response.view_is (
          then c.in_ok-begin_object.ensures.adds (then c.in_ok-write_lent.ensures.adds (then c.in_ok-write_lent-2.ensures.adds (
          then c.in_ok-write_lent-3.ensures.adds (then c.in_ok-write_lent-4.ensures.adds (then c.in_ok-write_lent-5.ensures.adds nothing))))));
    }
