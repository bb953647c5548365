use Rattle.std.proofs.Common.{◌≡◌, ◌∙◌, Option, Result, Ok, ap, subst, sym}
use Rattle.tail_base.specs.Steps.{◌>>=◌, Gives}
use Rattle.net_rows.specs.declared.machine.Machine.{Machine}
use Rattle.desk_state.specs.Sessions.{session_of}
use Rattle.desk_state.specs.declared.refusal.Refusal.{Refusal}
use Rattle.desk_state.specs.declared.session.Session.{Session}
use Rattle.machine_asks.specs.Asking.{asking}
use Rattle.machine_asks.specs.Attach.{attach_to}
use Rattle.machine_asks.specs.declared.attaching.AttachDecision.{AttachDecision}
use Rattle.machine_asks.proofs.attaching.attach.Goals as goal

pub returns : goal.returns
returns c =
    let s = c.args.at.now in
    let m = c.in_ok-row.row.now in
    let asked : asking s c.args.machine.now c.args.node.now ≡ Ok m = c.in_ok-row.ensures.value in
    let same =
    ap (λ (o : Option Session). attach_to s m.id c.args.handle.now c.args.seq c.args.words o) c.session_of-session.ensures.value
    ∙ ap (λ (r : Result Machine Refusal). r >>= (λ (x : Machine). attach_to s x.id c.args.handle.now c.args.seq c.args.words (session_of s.sessions x.id))) (sym asked) in
    record { value = subst (λ (r : Result AttachDecision Refusal). Gives (λ (d : AttachDecision). d) c.attach_to.result r) same c.attach_to.ensures.value }
