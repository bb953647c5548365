-- A desk was opened and served, or wasn't.
use Rattle.std.proofs.Common.{◌∙◌, refl}
use Rattle.tailnet_desk.proofs.SafeStores.{desk_closed, store_handed}
use Rattle.tailnet_commands.specs.Outside.{doors_told}
use Rattle.tailnet_commands.proofs.OpenedLemmas.{unopened_ran}
use Rattle.tailnet_serve.specs.Serve.{behind_settings}
use Rattle.tailnet_serve.specs.Service.{left_drawing}
use Rattle.tailnet_serve.proofs.Served.{desk_fault, served_ran, split_after}
use Rattle.tailnet_serve.proofs.running.run_serve.Goals as goal

pub returns-in-Err : goal.returns-in-Err
returns-in-Err g c = record {
  ran = λ streams before after. (
    desk_fault c.in-Err.ended c.args.settings _ _ c.in-Err.ensures.fault,
    unopened_ran c.in-Err.ended c.args.settings _ _ _ c.in-Err.ensures.fault
        (λ kept. record { left = refl; read_faults = refl; held = refl; write_faults = refl; words = refl; word_faults = refl; rows = kept }),
    refl,
  );
  safe = c.in-Err.ensures.fault_safe;
}

pub returns-in-Ok-outfits_of : goal.returns-in-Ok-outfits_of
returns-in-Ok-outfits_of g c = record {
  ran = λ streams before after.
      let at = behind_settings g.P.Opener.told g.P.Opener.asked g.P.Opener.faults g.C.Clock.answer g.N.Entropy.word g.N.Entropy.faults (doors_told g.D.Doors.coming g.D.Doors.finished g.D.Doors.asked g.D.Doors.faults) streams in
      let old = at before c.args.opener.now c.args.clock.now c.args.entropy.now c.args.doors.now in
      let opened = c.in-Ok.ensures.opened in
      let made = c.in-Ok-outfits_of.ensures in
      let served = c.serve_with_outfits.ensures.served (left_drawing old) (λ k o lt. split_after old _ _ opened.rest (λ j. refl) (made.each k o lt)) in
      served_ran c.serve_with_outfits.result c.args.settings old _ _ _ _ (g.N.Entropy.faults c.outfits_of.new.entropy) opened made.later (λ k. c.serve_with_outfits.ensures.same k ∙ made.same.words k)
      (rw (c.requires.front, c.requires.listen, c.requires.workers, c.requires.limits) at served);
  safe = λ tells safe. c.serve_with_outfits.ensures.safe (c.in-Ok.ensures.safe tells safe);
}

pub returns-in-Err-outfits_of-clause-safe : goal.returns-in-Err-outfits_of-clause-safe
returns-in-Err-outfits_of-clause-safe g c = λ tells safe.
    let p = g.P.Opener in
    let k = g.P.Keeper.Keeper in
    store_handed k.told k.is_clean k.may_leave p.told p.is_clean p.may_leave c.close.result c.close-in-Err-outfits_of.new.self c.close-in-Err-outfits_of.ensures.told c.close-in-Err-outfits_of.ensures.crash
    (desk_closed k.told k.is_clean k.may_leave c.in-Ok.desk c.close.result c.close.ensures.value c.close.ensures.told (c.in-Ok.ensures.safe tells safe))
