use Rattle.std.proofs.Common.{◌∙◌, ◌≡◌, ap, refl, rules, w64, sym, subst, ℤ, arith}
use mir.Val.{SFits}
use Rattle.std.specs.Option.{option_map}
use Rattle.std.proofs.lemmas.Int.{to_z-of_z}
use Rattle.io_edge.specs.Asked.{and_asked}
use Rattle.io_edge.specs.Edge.{IsWhereTold}
use Rattle.net_addr.specs.Moments.{clamped}
use Rattle.server_settings.specs.declared.fields.ServerFields.{ServerFields}
use Rattle.connections.proofs.AnswerLemmas.{clamped_told}
use Rattle.tailnet_desk.proofs.SafeStores.{desk_over, given_still, store_handed, store_loaded}
use Rattle.tailnet_commands.proofs.RunLemmas.{kept_given, still_some, still_still, where_loaded}
use Rattle.tailnet_commands.proofs.OpenedLemmas.{unopened}
use Rattle.tailnet_commands.proofs.desk_opening.open_desk.Goals as goal

pub returns-in-Ok-open : goal.returns-in-Ok-open
returns-in-Ok-open g c =
    let fits : SFits w64 c.seconds.result = search rules in
    let at : c.clamp-moment.result ≡ clamped c.seconds.result = c.clamp-moment.ensures.value ∙ ap clamped (to_z-of_z w64 c.seconds.result fits) in
    let opened = c.in-Ok-open.ensures in
    let p = g.P.Opener in
    let k = g.P.Keeper.Keeper in
    record {
      opened = record {
        rules = c.fields-kept.ensures.rules;
        moment = c.clamp-moment.result;
        moment_told = subst (λ (z : ℤ). IsWhereTold z (option_map clamped (g.C.Clock.answer c.args.clock.now 0))) (sym at) (clamped_told _ _ c.seconds.ensures.took.first);
        rest = c.seconds.ensures.took.rest;
        state = opened.state;
        whole = c.tables-rules.ensures.sound;
        rows_told = where_loaded _ (g.P.Opener.told c.args.opener.now) _ _ c.in-Ok.ensures.gives opened.still opened.rows;
        kept = kept_given (g.P.Opener.told c.args.opener.now) _ _ c.in-Ok.ensures.gives opened.still;
        asked = c.in-Ok.ensures.asked ∙ ap (and_asked (g.P.Opener.asked c.args.opener.now)) (c.as_str.ensures.value ∙ ap (λ (f : ServerFields). f.database) c.fields-fields.ensures.value);
        later = c.in-Ok.ensures.later;
      };
      fault = tt;
      safe = λ tells safe. desk_over k.told k.is_clean k.may_leave c.in-Ok-open.desk opened.rows
          (store_loaded k.told k.is_clean k.may_leave c.in-Ok.keeper c.in-Ok-open.desk.keeper opened.still opened.crash
          (store_handed p.told p.is_clean p.may_leave k.told k.is_clean k.may_leave c.args.opener.now c.in-Ok.keeper
          (given_still (p.told c.args.opener.now) _ tells c.in-Ok.ensures.gives) c.in-Ok.ensures.crash safe));
      fault_safe = tt;
    }

pub returns-clause-fault : goal.returns-clause-fault
returns-clause-fault g c =
    let failed = c.in-Err.ensures in
    let gives = c.in-Ok.ensures.gives in
    unopened c.in-Err.fault c.ended_of.result c.args.settings _ _ c.ended_of.ensures.fault
    (kept_given (g.P.Opener.told c.args.opener.now) _ (g.P.Opener.told c.close.new.self) gives (still_still _ _ _ failed.kept c.close.ensures.told))
    (c.close.ensures.asked ∙ c.in-Ok.ensures.asked ∙ ap (and_asked (g.P.Opener.asked c.args.opener.now)) (c.as_str.ensures.value ∙ ap (λ (f : ServerFields). f.database) c.fields-fields.ensures.value))
    (λ h. omega (arith, failed.fault h, c.close.ensures.faults, c.in-Ok.ensures.later, c.in-Ok.ensures.fresh))
    (λ kind id h. still_some _ _ (g.P.Opener.told c.close.new.self) c.close.ensures.told (failed.damaged kind id h))

pub returns-clause-fault_safe : goal.returns-clause-fault_safe
returns-clause-fault_safe g c = λ tells safe.
    let p = g.P.Opener in
    let k = g.P.Keeper.Keeper in
    let failed = c.in-Err.ensures in
    store_handed k.told k.is_clean k.may_leave p.told p.is_clean p.may_leave c.in-Err.keeper c.close.new.self c.close.ensures.told c.close.ensures.crash
    (store_loaded k.told k.is_clean k.may_leave c.in-Ok.keeper c.in-Err.keeper failed.kept failed.err_crash
    (store_handed p.told p.is_clean p.may_leave k.told k.is_clean k.may_leave c.args.opener.now c.in-Ok.keeper
    (given_still (p.told c.args.opener.now) _ tells c.in-Ok.ensures.gives) c.in-Ok.ensures.crash safe))
