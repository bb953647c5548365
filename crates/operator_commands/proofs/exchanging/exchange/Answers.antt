use Rattle.std.proofs.Common.{inr}
use Rattle.io_edge.specs.Linked.{link_told}
use Rattle.operator_commands.proofs.Exchanges.{replied, unsent}
use Rattle.operator_commands.proofs.exchanging.exchange.Goals as goal

pub returns : goal.returns
returns g c =
    let at = link_told g.L.Source.left g.L.Source.read_faults g.L.Sink.holds g.L.Sink.write_faults g.L.Link.asked in
    record {
      exchanged = inr (inr (replied _ c.args.bytes.now _ (at c.connect.new.link) (at c.send_all.new.link) _ _ c.in_ok-connect.ensures.connected
          c.in_ok-send_all.ensures.sent c.answer_of.ensures.asked c.answer_of.ensures.holds c.answer_of.ensures.read));
    }
