-- How a run ended is told by its settings and its workers; input, output and the link aren't its own.
use Rattle.std.proofs.Common.{refl}
use Rattle.tailnet_commands.specs.Outside.{doors_told}
use Rattle.tailnet_commands.proofs.PipeLemmas.{told_by_itself}
use Rattle.tailnet_serve.specs.Serve.{besides}
use Rattle.tailnet_serve.proofs.Served.{ran_done, unread_done}
use Rattle.tailnet_serve.proofs.serving.serve_command.Goals as goal
use Rattle.tailnet_serve.proofs.serving.serve_command.Goals.{in-Ok, in-Err}

pub returns : goal.returns
returns g c = record {
  outcome = λ rest.
      let at = besides g.E.Sink.holds g.E.Sink.write_faults g.F.Files.holds g.F.Files.faults g.P.Opener.told g.P.Opener.asked g.P.Opener.faults g.C.Clock.answer g.N.Entropy.word g.N.Entropy.faults
      (doors_told g.D.Doors.coming g.D.Doors.finished g.D.Doors.asked g.D.Doors.faults) rest in
      let name = c.args.settings.now in
      let old = at c.args.errors.now c.args.files.now c.args.opener.now c.args.clock.now c.args.entropy.now c.args.doors.now in
      record {
        ended = c.match-prepare_serve.ended;
        status_is = c.serve_status.ensures.value;
        done = elim c.match-prepare_serve.branch [
          | in-Ok w ↦
              let run = w.run_serve-ended in
              let new = at c.note_serve.new.errors c.prepare_serve.new.files run.new.opener run.new.clock run.new.entropy run.new.doors in
              rw (w.opener-is, w.clock-is, w.entropy-is, w.doors-is, w.ended-is)
              (ran_done run.result name w.in-Ok.settings old new w.in-Ok.ensures.settings (run.ensures.ran old.told old new))
          | in-Err w ↦
              let new = at c.note_serve.new.errors c.prepare_serve.new.files c.args.opener.now c.args.clock.now c.args.entropy.now c.args.doors.now in
              rw (w.opener-is, w.clock-is, w.entropy-is, w.doors-is, w.ended-is)
              (unread_done w.in-Err.ended name old new w.in-Err.ensures.err
              (record { left = refl; read_faults = refl; held = refl; write_faults = refl; words = refl; word_faults = refl; rows = told_by_itself (g.P.Opener.told c.args.opener.now) })
              (record { told = refl; rows = refl; asked = refl; keeper_faults = refl }) refl)
        ];
        noted = c.note_serve.ensures.noted;
        left = refl;
        read_faults = refl;
        held = refl;
        write_faults = refl;
        link = refl;
      };
  safe = λ tells safe. elim c.match-prepare_serve.branch [
    | in-Ok w ↦ rw w.opener-is (w.run_serve-ended.ensures.safe tells safe)
    | in-Err w ↦ rw w.opener-is safe
  ];
}
