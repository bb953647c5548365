use Rattle.std.proofs.Common.{◌≡◌, sym, ◌∙◌, w64}
use Rattle.std.proofs.lemmas.Int.{to_z-of_z}
use Rattle.tailnet_desk.specs.Seated.{point_of}
use Rattle.load_run.specs.Running.{taking_of}
use Rattle.load_run.specs.Watching.{watched_of}
use Rattle.load_run.proofs.Early.{early_at_desk}
use Rattle.load_run.proofs.Taken.{taken}
use Rattle.load_run.proofs.run.Run.serve_task.Goals as goal

pub returns-in-Err-clause-early : goal.returns-in-Err-clause-early
returns-in-Err-clause-early g c = λ e.
    let at = watched_of (point_of g.K.Keeper.told g.K.Keeper.faults g.K.Keeper.calls) in
    early_at_desk c.args.front.now c.args.message.now (at c.args.self.now.watched) (at c.serve_message.new.watched) (c.serve_message.ensures.early (c.in-Err.is ∙ e))

pub returns-clause-taken : goal.returns-clause-taken
returns-clause-taken g c =
    let point = point_of g.K.Keeper.told g.K.Keeper.faults g.K.Keeper.calls in
    let watched = c.serve_message.new.watched in
    taken c.args.front.now c.args.message.now c.args.seconds (taking_of point c.args.self.now)
    (record { point = point watched.desk; heard = watched.heard; words = c.serve_message.new.words.drawn; counts = c.count.new.self })
    c.bytes-bytes.result.now _ _ (to_z-of_z w64 c.args.seconds c.ranges.seconds) c.bytes-bytes.ensures.value c.in_default.ensures.served c.if-self.false (sym c.is_busy_answer.ensures.value ∙ c.if-is_busy_answer.false) c.count.ensures.value c.count.ensures.sum
