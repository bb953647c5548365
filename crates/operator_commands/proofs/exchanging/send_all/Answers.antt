use Rattle.operator_commands.proofs.Exchanges.{besides_stay}
use Rattle.operator_commands.proofs.exchanging.send_all.Goals as goal

pub returns-in-Ok : goal.returns-in-Ok
returns-in-Ok g c =
    let stay = besides_stay g.L.Sink.besides_held g.L.Source.left g.L.Link.asked g.L.Source.read_faults g.met.L.Link.unwritten _ _ c.in-Ok.ensures.besides in
    record { sent = record { asked = stay.1.0; left = stay.0; read_faults = stay.1.1; wrote = c.in-Ok.ensures.wrote } }

pub returns-in-Err : goal.returns-in-Err
returns-in-Err g c =
    let stay = besides_stay g.L.Sink.besides_held g.L.Source.left g.L.Link.asked g.L.Source.read_faults g.met.L.Link.unwritten _ _ c.in-Err.ensures.besides in
    record { sent = record { asked = stay.1.0; left = stay.0; read_faults = stay.1.1; wrote = c.in-Err.ensures.wrote } }
