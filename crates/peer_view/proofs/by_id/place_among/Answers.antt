use Rattle.std.proofs.Common.{rules}
use Rattle.std.proofs.lemmas.List.Sorted.{answers_always}
use Rattle.net_rows.proofs.ShelfLemmas.{placed}
use Rattle.peer_view.proofs.by_id.place_among.Goals as goal

-- the closure gives the id
pub returns : goal.returns
returns g c =
    let facts = c.binary_search_by_key.ensures in
    let by_id = facts.position g.T.HasId.id (answers_always _ _ _ (λ f a r k called. search rules)) in
    let parts = placed g.T.HasId.id c.args.rows.now c.args.id c.binary_search_by_key.result c.requires.ascending facts.bound by_id in
    record { there = parts.0; absent = parts.1 }
