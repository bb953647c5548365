use Rattle.std.proofs.Common.{◌∙◌, ◌≡◌, ap, refl, rules, w64, sym, subst, ℤ, None}
use Rattle.tailnet_desk.specs.declared.ask.Ask.TheVariants as ask
use Rattle.tailnet_desk.specs.declared.entry.Event.TheVariants as event
use mir.Val.{SFits}
use Rattle.std.specs.Option.{option_map}
use Rattle.std.proofs.lemmas.Int.{to_z-of_z}
use Rattle.io_edge.specs.Edge.{IsWhereTold}
use Rattle.net_addr.specs.Moments.{clamped}
use Rattle.connections.proofs.AnswerLemmas.{clamped_told}
use Rattle.tailnet_desk.proofs.KeptTurns.{turn_safe}
use Rattle.tailnet_commands.proofs.seeding.ask_seed.Goals as goal

pub returns : goal.returns
returns g c =
    let fits : SFits w64 c.seconds.result = search rules in
    let at : c.clamp-moment.result ≡ clamped c.seconds.result = c.clamp-moment.ensures.value ∙ ap clamped (to_z-of_z w64 c.seconds.result fits) in
    record {
      seeded = record {
        turned = record { event = event.Ask (ask.Seed c.args.text) c.clamp-moment.result None; reply = c.ask-reply.result };
        asks = record { moment = c.clamp-moment.result; words = None; event_is = refl; undrawn = λ _. refl };
        leads = c.ask-reply.ensures.turn;
        moment = subst (λ (z : ℤ). IsWhereTold z (option_map clamped (g.C.Clock.answer c.args.clock.now 0))) (sym at) (clamped_told _ _ c.seconds.ensures.took.first);
        rest = c.seconds.ensures.took.rest;
      };
      safe = turn_safe g.K.Keeper.told g.K.Keeper.faults g.K.Keeper.calls g.K.Keeper.is_clean g.K.Keeper.may_leave _ _ _ _ (record { turn = c.ask-reply.ensures.turn; safe = c.ask-reply.ensures.safe });
    }
