use Rattle.std.proofs.Common.{◌≡◌, true, ap, sym, rules, ◌∙◌}
use Rattle.policy_sites.specs.Sites.{is_listed}
use Rattle.policy_sites.proofs.IdLemmas.{risen_past}
use Rattle.policy_sites.proofs.id_list.IdList.is_missing_at.Goals as goal

pub returns-then-ends_below : goal.returns-then-ends_below
returns-then-ends_below c =
    let ids = c.self.inside.ids.now in
    let parts = c.split_at.ensures in
    let rises : c.self.inside.rise ≡ true = search rules in
    record {
      missing = λ above.
          ap (λ held. is_listed held c.args.id) (sym c.self.view_is)
          ∙ risen_past ids c.split_at.result.0.now c.split_at.result.1.now c.args.id c.min.result (c.self.invariant rises) parts.by_index.0 parts.front_len parts.by_index.1 parts.by_index.2
          (c.ends_below.ensures.last c.if-ends_below.true) (c.begins_above.ensures.first above);
    }
