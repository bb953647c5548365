use Rattle.std.proofs.Common.{◌∙◌, Option, ap, sym}
use Rattle.std.specs.Option.{option_copied}
use Rattle.net_rows.specs.declared.machine.Machine.{Machine}
use Rattle.desk_state.specs.declared.session.Session.{Session}
use Rattle.machine_asks.specs.Detach as spec
use Rattle.machine_asks.proofs.detaching.detach_machine.Goals as goal

pub returns-in-Some : goal.returns-in-Some
returns-in-Some c =
    let s = c.args.at.now in
    record {
      value = c.detach_session.ensures.value
          ∙ ap (λ (o : Option Session). spec.detach_session s c.args.handle.now o) c.session_of.ensures.value
          ∙ ap (λ (o : Option Machine). spec.detach_machine s c.args.handle.now o) (ap option_copied (sym c.in-Some.is));
    }
