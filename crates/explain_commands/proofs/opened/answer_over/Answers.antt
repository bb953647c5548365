use Rattle.std.proofs.Common.{◌∙◌, inr, subst}
use Rattle.io_edge.specs.Edge.{StillTells}
use Rattle.row_keeper.proofs.Told.{told_before}
use Rattle.tailnet_desk.proofs.SafeStores.{desk_closed, store_handed}
use Rattle.explain_commands.proofs.AnswerLemmas.{answered_in, rows_kept}
use Rattle.explain_commands.proofs.opened.answer_over.Goals as goal

pub returns-in-Ok : goal.returns-in-Ok
returns-in-Ok g c =
    let opened = c.in_ok-desk.ensures.opened in
    let still = subst (λ k. StillTells (g.P.Keeper.Keeper.told k) (g.P.Opener.told c.close.new.self)) c.close-keeper.ensures.value c.close.ensures.told in
    record {
      answer = record {
        rules = opened.rules;
        rows = c.in_ok-desk.desk.state.rows;
        whole = opened.whole;
        rows_told = λ tells. opened.rows_told (told_before _ (g.P.Opener.told c.close.new.self) still tells);
        moment = opened.moment;
        moment_told = opened.moment_told;
        rest = opened.rest;
        text_is = answered_in c.args.question.now c.in-Ok.text.items c.snapshot.result c.in_ok-desk.desk.state _ c.in-Ok.ensures.value c.snapshot.ensures.value opened.state;
        kept = rows_kept (g.P.Opener.told c.args.opener.now) _ (g.P.Opener.told c.close.new.self) opened.kept still;
        asked = c.close.ensures.asked ∙ opened.asked;
      };
      fault = tt;
      safe = λ tells safe.
          let p = g.P.Opener in
          let k = g.P.Keeper.Keeper in
          store_handed k.told k.is_clean k.may_leave p.told p.is_clean p.may_leave c.close-keeper.result c.close.new.self c.close.ensures.told c.close.ensures.crash
          (desk_closed k.told k.is_clean k.may_leave c.in_ok-desk.desk c.close-keeper.result c.close-keeper.ensures.value c.close-keeper.ensures.told (c.in_ok-desk.ensures.safe tells safe));
    }

pub returns-in-Err : goal.returns-in-Err
returns-in-Err g c =
    let opened = c.in_ok-desk.ensures.opened in
    let still = subst (λ k. StillTells (g.P.Keeper.Keeper.told k) (g.P.Opener.told c.close.new.self)) c.close-keeper.ensures.value c.close.ensures.told in
    record {
      answer = tt;
      fault = (rows_kept (g.P.Opener.told c.args.opener.now) _ (g.P.Opener.told c.close.new.self) opened.kept still, inr (c.close.ensures.asked ∙ opened.asked));
      safe = λ tells safe.
          let p = g.P.Opener in
          let k = g.P.Keeper.Keeper in
          store_handed k.told k.is_clean k.may_leave p.told p.is_clean p.may_leave c.close-keeper.result c.close.new.self c.close.ensures.told c.close.ensures.crash
          (desk_closed k.told k.is_clean k.may_leave c.in_ok-desk.desk c.close-keeper.result c.close-keeper.ensures.value c.close-keeper.ensures.told (c.in_ok-desk.ensures.safe tells safe));
    }
