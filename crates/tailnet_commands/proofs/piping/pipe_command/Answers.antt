-- How a run ended is what its settings and its connection resulted in; doors and the link aren't its own.
use Rattle.std.proofs.Common.{◌≡◌, option_map, refl}
use Rattle.tailnet_commands.proofs.PipeLemmas.{ran_piped, told_by_itself, unread_piped}
use Rattle.tailnet_commands.specs.Outside.{outside}
use Rattle.tailnet_commands.proofs.piping.pipe_command.Goals as goal
use Rattle.tailnet_commands.proofs.piping.pipe_command.Goals.{in-Ok, in-Err}

pub returns : goal.returns
returns g c = record {
  outcome = λ doors link.
      let at = outside g.I.Source.left g.I.Source.read_faults g.O.Sink.holds g.O.Sink.write_faults g.E.Sink.holds g.E.Sink.write_faults g.F.Files.holds g.F.Files.faults
      g.P.Opener.told g.P.Opener.asked g.P.Opener.faults g.C.Clock.answer g.N.Entropy.word g.N.Entropy.faults doors link in
      let name = c.args.settings.now in
      let old = at c.args.input.now c.args.output.now c.args.errors.now c.args.files.now c.args.opener.now c.args.clock.now c.args.entropy.now in
      record {
        ended = c.match-prepare.ended;
        status_is = c.status_of.ensures.value;
        piped = elim c.match-prepare.branch [
          | in-Ok w ↦
              let run = w.run-ended in
              let new = at run.new.input run.new.output c.note.new.errors c.prepare.new.files run.new.opener run.new.clock run.new.entropy in
              let given : w.in-Ok.field-0.seed ≡ option_map (λ t. t.now) c.args.seed = w.in-Ok.ensures.seed in
              rw (w.input-is, w.output-is, w.opener-is, w.clock-is, w.entropy-is, w.ended-is)
              (ran_piped name (option_map (λ t. t.now) c.args.seed) old new run.result w.in-Ok.field-0.settings w.in-Ok.ensures.settings (rw given at (run.ensures.ran old new)))
          | in-Err w ↦
              let new = at c.args.input.now c.args.output.now c.note.new.errors c.prepare.new.files c.args.opener.now c.args.clock.now c.args.entropy.now in
              rw (w.input-is, w.output-is, w.opener-is, w.clock-is, w.entropy-is, w.ended-is)
              (unread_piped name (option_map (λ t. t.now) c.args.seed) old new w.in-Err.ended w.in-Err.ensures.err
              (record { left = refl; read_faults = refl; held = refl; write_faults = refl; words = refl; word_faults = refl; rows = told_by_itself (g.P.Opener.told c.args.opener.now) })
              (record { told = refl; rows = refl; asked = refl; keeper_faults = refl }))
        ];
        noted = c.note.ensures.noted;
        doors = refl;
        link = refl;
      };
  safe = λ tells safe. elim c.match-prepare.branch [
    | in-Ok w ↦ rw w.opener-is (w.run-ended.ensures.safe tells safe)
    | in-Err w ↦ rw w.opener-is safe
  ];
}
