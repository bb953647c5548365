use Rattle.wire_write.proofs.RouteLemmas.{insert_behind, set_behind}
use Rattle.wire_write.proofs.routes.place.Goals as goal

pub returns-in-Ok : goal.returns-in-Ok
returns-in-Ok c = record { ok = set_behind c.args.routes.now.items c.as_slice.result.now c.in-Ok.place c.args.route c.as_slice.ensures.value c.in-Ok.ensures.there }

pub returns-in_ok-insert-in-Err : goal.returns-in_ok-insert-in-Err
returns-in_ok-insert-in-Err c = record { ok = insert_behind c.args.routes.now.items c.as_slice.result.now c.insert.new.self.items c.in-Err.place c.args.route c.as_slice.ensures.value c.in-Err.ensures.absent c.in_ok-insert-in-Err.ensures.items }
