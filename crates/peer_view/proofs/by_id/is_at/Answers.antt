use Rattle.std.proofs.Common.{◌==◌, ap, sym, rules, ◌∙◌}
use Rattle.peer_view.proofs.NearLemmas.{stands_here}
use Rattle.peer_view.proofs.by_id.is_at.Goals as goal

pub returns-then-place-rows : goal.returns-then-place-rows
returns-then-place-rows g c = record {
  there = λ same. stands_here g.T.HasId.id c.args.rows.now c.args.id c.args.place c.index-rows-place.result c.requires.ascending (search rules) c.index-rows-place.is
      (ap (λ n. n == c.args.id) (sym c.id.ensures.value) ∙ same);
}
