-- `serve` leaves input, output and the link as they were; `explain` and `reach` all but output, files and opener, and the clock's answers.
use Rattle.std.proofs.Common.{rules}
use Rattle.io_edge.specs.Linked.{link_told}
use Rattle.tailnet_commands.specs.Outside.{doors_told, outside}
use Rattle.top_call.proofs.top.run_asked.Goals as goal

pub returns-in-Some-Serve-clause-ran : goal.returns-in-Some-Serve-clause-ran
returns-in-Some-Serve-clause-ran g c =
    let at = outside g.I.Source.left g.I.Source.read_faults g.O.Sink.holds g.O.Sink.write_faults g.E.Sink.holds g.E.Sink.write_faults g.F.Files.holds g.F.Files.faults g.P.Opener.told g.P.Opener.asked g.P.Opener.faults g.C.Clock.answer g.N.Entropy.word g.N.Entropy.faults in
    let doors_at = doors_told g.D.Doors.coming g.D.Doors.finished g.D.Doors.asked g.D.Doors.faults in
    let link = link_told g.L.Source.left g.L.Source.read_faults g.L.Sink.holds g.L.Sink.write_faults g.L.Link.asked c.args.link.now in
    let old = at (doors_at c.args.doors.now) link c.args.input.now c.args.output.now c.args.errors.now c.args.files.now c.args.opener.now c.args.clock.now c.args.entropy.now in
    let done = rw c.as_str-in-Some-Serve.ensures.value at (c.serve_command.ensures.outcome old) in
    search (rules, done)

pub returns-in-Some-Explain-clause-ran : goal.returns-in-Some-Explain-clause-ran
returns-in-Some-Explain-clause-ran g c =
    let at = outside g.I.Source.left g.I.Source.read_faults g.O.Sink.holds g.O.Sink.write_faults g.E.Sink.holds g.E.Sink.write_faults g.F.Files.holds g.F.Files.faults g.P.Opener.told g.P.Opener.asked g.P.Opener.faults g.C.Clock.answer g.N.Entropy.word g.N.Entropy.faults in
    let doors = doors_told g.D.Doors.coming g.D.Doors.finished g.D.Doors.asked g.D.Doors.faults c.args.doors.now in
    let link = link_told g.L.Source.left g.L.Source.read_faults g.L.Sink.holds g.L.Sink.write_faults g.L.Link.asked c.args.link.now in
    let old = at doors link c.args.input.now c.args.output.now c.args.errors.now c.args.files.now c.args.opener.now c.args.clock.now c.args.entropy.now in
    let done = rw c.as_str-in-Some-Explain.ensures.value at (c.explain_command.ensures.outcome old) in
    search (rules, done)

pub returns-in-Some-Reach-clause-ran : goal.returns-in-Some-Reach-clause-ran
returns-in-Some-Reach-clause-ran g c =
    let at = outside g.I.Source.left g.I.Source.read_faults g.O.Sink.holds g.O.Sink.write_faults g.E.Sink.holds g.E.Sink.write_faults g.F.Files.holds g.F.Files.faults g.P.Opener.told g.P.Opener.asked g.P.Opener.faults g.C.Clock.answer g.N.Entropy.word g.N.Entropy.faults in
    let doors = doors_told g.D.Doors.coming g.D.Doors.finished g.D.Doors.asked g.D.Doors.faults c.args.doors.now in
    let link = link_told g.L.Source.left g.L.Source.read_faults g.L.Sink.holds g.L.Sink.write_faults g.L.Link.asked c.args.link.now in
    let old = at doors link c.args.input.now c.args.output.now c.args.errors.now c.args.files.now c.args.opener.now c.args.clock.now c.args.entropy.now in
    let done = rw c.as_str-in-Some-Reach.ensures.value at (c.reach_command.ensures.outcome old) in
    search (rules, done)
