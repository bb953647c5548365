-- A decision that is carried out, or not, and what is replied then.
use Rattle.std.proofs.Common.{◌≡◌, ℕ, ℤ, List, Option, ap}
use Rattle.std.specs.Option.{option_or}
use Rattle.net_rows.specs.declared.change.Change.{Change}
use Rattle.net_rows.specs.declared.rows.Rows.{Rows}
use Rattle.policy_rows.specs.declared.policy.Policy.{Policy}
use Rattle.settings.specs.declared.fields.SettingsFields.{SettingsFields}
use Rattle.desk_state.specs.Decisions.{rows_after}
use Rattle.desk_state.specs.State.{State, all_ended, all_offline}
use Rattle.desk_state.specs.declared.presence.MachinePresence.{MachinePresence}
use Rattle.desk_state.specs.declared.session.Attachment.{Attachment}
use Rattle.desk_state.specs.declared.session.Session.{Session}
use Rattle.tailnet_desk.specs.Step.{left_after, sessions_after, settled}
use Rattle.tailnet_desk.proofs.TurnLemmas.{state_with}

-- the parts of a state are as a decision leaves them
pub settled_is : (f : SettingsFields) (rows rows' : Rows) (p p' : Option Policy) (a a' : List MachinePresence) (x x' : List Session) (h h' : List Attachment) (n n' : ℕ) (now : ℤ)
    (change : Option Change) (policy : Option Policy) (ended offline : List ℕ) (s : State)
    → state_with f rows p a x h n now ≡ s → rows' ≡ rows_after rows change → p' ≡ option_or policy p
    → a' ≡ all_offline now (all_ended now (left_after (λ (q : MachinePresence). q.id) a change) ended) offline
    → x' ≡ sessions_after (λ (r : Session). r.id) x change ended offline
    → h' ≡ sessions_after (λ (r : Attachment). r.id) h change ended offline → n' ≡ n
    → state_with f rows' p' a' x' h' n' now ≡ settled s change policy ended offline
settled_is f rows rows' p p' a a' x x' h h' n n' now change policy ended offline s is rows_are p_is a_is x_is h_is n_is =
    rw (rows_are, p_is, a_is, x_is, h_is, n_is) (ap (λ (t : State). settled t change policy ended offline) is)
