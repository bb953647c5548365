-- A poll ends: its session is detached, and stays.
use Rattle.std.specs.Prelude.{ℕ, [], ◌∷◌, ◌&&◌, Bool, List, Option, Some, None, if◌then◌else◌}
use Rattle.std.specs.Str.{bytes_eq}
use Rattle.tail_base.specs.declared.key.MachineKey.{MachineKey}
use Rattle.net_rows.specs.Rows.{machine_of}
use Rattle.net_rows.specs.Shelf.{without}
use Rattle.net_rows.specs.declared.machine.Machine.{Machine}
use Rattle.desk_state.specs.Sessions.{is_attached, session_of}
use Rattle.desk_state.specs.State.{State, all_ended}
use Rattle.desk_state.specs.declared.session.Attachment.{Attachment}
use Rattle.desk_state.specs.declared.session.Session.{Session}

-- the session is attached, under this handle
abbrev pub is_held_under : State → List ℕ → Session → Bool
is_held_under s handle x = is_attached s.attached x.id && bytes_eq x.handle handle

abbrev pub detach_session : State → List ℕ → Option Session → Option ℕ
detach_session s handle None = None
detach_session s handle (Some x) = if is_held_under s handle x then Some x.id else None

abbrev pub detach_machine : State → List ℕ → Option Machine → Option ℕ
detach_machine s handle None = None
detach_machine s handle (Some m) = detach_session s handle (session_of s.sessions m.id)

-- the id of the machine of this key, if its session is attached under this handle
abbrev pub detach : State → MachineKey → List ℕ → Option ℕ
detach s mk handle = detach_machine s handle (machine_of s.rows.machines mk.0)

-- the state after a detach: the machine is offline from now on if it was online, and its session stays
abbrev pub detached_state : State → Option ℕ → State
detached_state s None = s
detached_state s (Some id) = record s {
  presence = all_ended s.now s.presence (id ∷ []);
  attached = without (λ (a : Attachment). a.id) s.attached id;
}
