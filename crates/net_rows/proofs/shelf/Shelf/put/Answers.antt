use Rattle.std.proofs.Common.{sym}
use Rattle.std.specs.Result.{is_ok}
use Rattle.std.proofs.lemmas.Bool.{cond_both}
use Rattle.net_rows.specs.Shelf.{IsAscending}
use Rattle.net_rows.proofs.PutLemmas.{IsAscending-put}
use Rattle.net_rows.proofs.shelf.Shelf.put.Goals as goal

pub invariant_of-self : goal.invariant_of-self
invariant_of-self g c =
    let rises = IsAscending-put g.T.HasId.id c.as_slice.result.now c.args.row (rw c.as_slice.ensures.value c.self.invariant) in
    rw (← c.as_slice.ensures.value, ← c.in-Ok.ensures.there.put c.args.row (sym c.id.ensures.value)) rises

pub invariant_of-self-in-Err-2 : goal.invariant_of-self-in-Err-2
invariant_of-self-in-Err-2 g c =
    let rises = IsAscending-put g.T.HasId.id c.as_slice.result.now c.args.row (rw c.as_slice.ensures.value c.self.invariant) in
    rw c.insert.ensures.items (cond_both (is_ok c.insert.result) _ _ (IsAscending g.T.HasId.id)
    (λ e. rw (← c.as_slice.ensures.value, ← c.in-Err.ensures.absent.put c.args.row (sym c.id.ensures.value)) rises)
    (λ e. c.self.invariant))
