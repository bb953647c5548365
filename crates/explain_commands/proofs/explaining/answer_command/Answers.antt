use Rattle.std.proofs.Common.{refl}
use Rattle.explain_commands.proofs.explaining.answer_command.Goals as goal

pub returns : goal.returns
returns g c = record {
  outcome = λ rest. record {
    ended = c.answered-ended.result;
    status_is = c.status_of.ensures.value;
    explained = c.answered-ended.ensures.explained rest
        (record { held = g.E.Sink.holds c.args.errors.now; faults = g.E.Sink.write_faults c.args.errors.now })
        (record { held = g.E.Sink.holds c.note.new.errors; faults = g.E.Sink.write_faults c.note.new.errors });
    noted = c.note.ensures.noted;
    left = refl;
    read_faults = refl;
    words = refl;
    word_faults = refl;
    doors = refl;
    link = refl;
  };
  safe = c.answered-ended.ensures.safe;
}
