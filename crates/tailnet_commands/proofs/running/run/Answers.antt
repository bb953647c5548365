use Rattle.std.proofs.Common.{◌∙◌, ap, refl, arith, subst}
use Rattle.io_edge.specs.Edge.{StillTells}
use Rattle.row_keeper.proofs.Told.{told_before}
use Rattle.tailnet_desk.proofs.SafeStores.{desk_closed, store_handed}
use Rattle.tailnet_commands.proofs.OpenedLemmas.{unopened_ran}
use Rattle.tailnet_commands.proofs.RunLemmas.{conversed, where_still}
use Rattle.tailnet_commands.proofs.running.run.Goals as goal

pub returns-in-Ok : goal.returns-in-Ok
returns-in-Ok g c =
    let opened = c.in-Ok.ensures.opened in
    let serves = rw (c.fields.ensures.value, c.requires.front) at c.serve_desk-closed.ensures.serves in
    record {
      ran = λ before after. conversed c.serve_desk-closed.result c.args.settings c.args.seed opened.moment _ _ (g.C.Clock.answer c.open_desk.new.clock) _ c.in-Ok.desk.state _ _ _ opened.rules opened.whole
          opened.moment_told
          opened.rest
          opened.state
          opened.rows_told
          c.seed_desk.ensures.seeded
          serves
          (where_still _ _ (g.P.Opener.told c.close-in-Ok.new.self) c.close-in-Ok.ensures.told c.close.ensures.told)
          (told_before _ (g.P.Opener.told c.close-in-Ok.new.self)
          (subst (λ k. StillTells (g.P.Keeper.Keeper.told k) (g.P.Opener.told c.close-in-Ok.new.self)) c.close.ensures.value c.close-in-Ok.ensures.told))
          (omega (arith, c.close-in-Ok.ensures.faults, opened.later, ap g.P.Keeper.Keeper.faults c.close.ensures.value))
          (c.close-in-Ok.ensures.asked ∙ opened.asked);
      safe = λ tells safe.
          let p = g.P.Opener in
          let k = g.P.Keeper.Keeper in
          store_handed k.told k.is_clean k.may_leave p.told p.is_clean p.may_leave c.close.result c.close-in-Ok.new.self c.close-in-Ok.ensures.told c.close-in-Ok.ensures.crash
          (desk_closed k.told k.is_clean k.may_leave c.serve_desk-closed.new.desk c.close.result c.close.ensures.value c.close.ensures.told
          (c.serve_desk-closed.ensures.safe (c.seed_desk.ensures.safe (c.in-Ok.ensures.safe tells safe))));
    }

pub returns-in-Err : goal.returns-in-Err
returns-in-Err g c = record {
  ran = λ before after. unopened_ran c.in-Err.ended c.args.settings c.args.seed _ _ c.in-Err.ensures.fault
      (λ kept. record { left = refl; read_faults = refl; held = refl; write_faults = refl; words = refl; word_faults = refl; rows = kept });
  safe = c.in-Err.ensures.fault_safe;
}
