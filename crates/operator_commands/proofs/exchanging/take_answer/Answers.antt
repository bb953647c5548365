use Rattle.operator_commands.proofs.Exchanges.{besides_stay}
use Rattle.operator_commands.proofs.exchanging.take_answer.Goals as goal

pub returns : goal.returns
returns g c =
    let stay = besides_stay g.L.Source.besides_left g.L.Sink.holds g.L.Link.asked g.L.Sink.write_faults g.met.L.Link.unread _ _ c.read_answer.ensures.besides in
    record {
      taken = c.read_answer.ensures.taken;
      cause = c.read_answer.ensures.cause;
      asked = stay.1.0;
      holds = stay.0;
    }
