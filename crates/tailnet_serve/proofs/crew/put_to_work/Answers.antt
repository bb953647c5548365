-- What each worker did stands at its place in the vector.
use Rattle.std.proofs.Common.{◌∙◌, ap, length, slice_index_or, subst, sym}
use Rattle.std.proofs.lemmas.List.{with_items_is}
use Rattle.tailnet_serve.specs.Works.{IsWorked, standing}
use Rattle.tailnet_serve.proofs.crew.put_to_work.Goals as goal

pub work_all-requires-clause-threads : goal.work_all-requires-clause-threads
work_all-requires-clause-threads g c = λ κs lives. rw (sym c.as_mut_slice.ensures.value) at c.requires.threads

pub work_all-requires-clause-ready : goal.work_all-requires-clause-ready
work_all-requires-clause-ready g c = λ κs lives. rw (sym c.as_mut_slice.ensures.value) at c.requires.ready

pub returns : goal.returns
returns g c =
    let at = standing g.D.Door.coming g.D.Door.finished g.D.Door.number g.D.Door.faults g.C.Clock.answer g.N.Entropy.word g.N.Entropy.faults in
    let is = with_items_is c.args.workers c.work_all.new.workers (c.work_all.ensures.same ∙ c.as_mut_slice.ensures.len) in
    record {
      same = ap length is ∙ c.work_all.ensures.same ∙ ap length c.as_mut_slice.ensures.value;
      worked = λ i d lt. subst (λ z. IsWorked c.args.front.now c.args.limits.now (at (slice_index_or c.args.workers.items i d)) (at (slice_index_or z i d)) (slice_index_or z i d).report) (sym is)
          ((rw c.as_mut_slice.ensures.value at c.work_all.ensures.worked) i d lt);
    }
