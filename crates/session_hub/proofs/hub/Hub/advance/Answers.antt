use Rattle.std.proofs.Common.{rules, ap, ◌∙◌, Some, ◌∷◌}
use Rattle.atomic_table.specs.Table.{rest}
use Rattle.session_hub.proofs.TurnSteps.{enters}
use Rattle.session_hub.proofs.hub.Hub.advance.Goals as goal

pub fetch_add-served-requires : goal.fetch_add-served-requires
fetch_add-served-requires g c =
    let r = c.requires.entry in
    let e = c.exchange-held.ensures.3 ∙ ap (λ z. (c.args.place.now.me.0, (0, Some c.args.desk) ∷ rest z)) r.out in
    (search rules, search rules, rw e (enters _ _ _ _ _ _ r.start _ r.ticket r.stage r.starts r.named r.entry))
