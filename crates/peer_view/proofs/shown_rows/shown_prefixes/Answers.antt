use Rattle.std.proofs.Common.{◌++◌, ◌∙◌, List, ap}
use Rattle.net_addr.specs.Bits.{Block}
use Rattle.policy_sites.specs.Serving.{exits_if}
use Rattle.peer_view.specs.Nodes.{own_addresses}
use Rattle.peer_view.proofs.RouterLaws.{prefixes_by_routers, seen_inside}
use Rattle.peer_view.proofs.shown_rows.shown_prefixes.Goals as goal

pub shown_routes-requires-clause-peer : goal.shown_routes-requires-clause-peer
shown_routes-requires-clause-peer c = seen_inside c.args.world.now c.args.viewer.now c.args.peer.now c.requires.peer

pub returns : goal.returns
returns c =
    let row = c.args.peer.now.row in
    let made = c.in_ok-made.ensures.value ∙ ap (λ (rs : List Block). own_addresses row ++ rs ++ exits_if c.is_shown_exit-exit.result) c.as_slice-2.ensures.value in
    record {
      value = made
          ∙ prefixes_by_routers c.args.world.now c.args.viewer.now c.args.peer.now c.args.routers.now c.requires.routers c.requires.peer c.as_slice.result.now c.as_slice.ensures.value
          c.in_ok-routes.routes c.is_shown_exit-exit.result c.in_ok-routes.ensures.value c.is_shown_exit-exit.ensures.value;
    }
