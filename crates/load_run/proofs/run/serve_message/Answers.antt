use Rattle.std.proofs.Common.{◌≡◌, Some, ap, refl, w64, ◌∙◌}
use Rattle.std.proofs.lemmas.Int.{to_z-of_z}
use Rattle.tailnet_desk.specs.Seated.{point_of}
use Rattle.connections.proofs.Seen.{serves_map}
use Rattle.load_run.specs.Watching.{IsWatchedTurn, watched_of}
use Rattle.load_run.proofs.Early.{served_early}
use Rattle.load_run.proofs.Serving.{served}
use Rattle.load_run.proofs.run.serve_message.Goals as goal

pub returns-in-End-clause-served : goal.returns-in-End-clause-served
returns-in-End-clause-served g c =
    served IsWatchedTurn c.args.front.now c.args.message.now c.args.seconds c.args.words.now.drawn c.serve.new.entropy.drawn _ _ _ _ _
    (serves_map _ IsWatchedTurn c.args.front.now 0 (watched_of (point_of g.K.Keeper.told g.K.Keeper.faults g.K.Keeper.calls)) (λ s e reply t h. h) _ _ _ _ _ _ _ (rw c.in-End.is at c.serve.ensures.serves))
    c.requires.some (c.new-input.ensures.left ∙ ap Some (c.in-Ok.ensures.value ∙ c.as_slice.ensures.value)) c.requires.empty refl refl (λ k. ap Some (to_z-of_z w64 c.args.seconds c.ranges.seconds)) (λ k. refl) (λ k. refl)

pub returns-in-Early-clause-early : goal.returns-in-Early-clause-early
returns-in-Early-clause-early g c = λ e.
    served_early IsWatchedTurn c.args.front.now c.args.message.now _ _ _ _
    (c.new-input.ensures.left ∙ ap Some (c.in-Ok.ensures.value ∙ c.as_slice.ensures.value))
    (serves_map _ IsWatchedTurn c.args.front.now 0 (watched_of (point_of g.K.Keeper.told g.K.Keeper.faults g.K.Keeper.calls)) (λ s e reply t h. h) _ _ _ _ _ _ _ (rw c.in-Early.is at c.serve.ensures.serves))
