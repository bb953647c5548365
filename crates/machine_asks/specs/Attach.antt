-- A poll attaches: it takes up its machine's session, or begins another.
use Rattle.std.specs.Prelude.{ℕ, ◌+◌, ◌-◌, ◌^◌, ◌==◌, ◌&&◌, Bool, List, filter, length, nat_lt, not, Option, Some, None, Result, Ok, if◌then◌else◌}
use Rattle.std.specs.Str.{bytes_eq}
use Rattle.tail_base.specs.declared.key.MachineKey.{MachineKey}
use Rattle.tail_base.specs.declared.key.NodeKey.{NodeKey}
use Rattle.tail_base.specs.Steps.{◌>>=◌, or_fault, refuse_if}
use Rattle.net_rows.specs.Shelf.{put_row}
use Rattle.desk_state.specs.Sessions.{is_attached, session_of}
use Rattle.desk_state.specs.State.{State}
use Rattle.desk_state.specs.Texts.{session_handle}
use Rattle.desk_state.specs.declared.presence.MachinePresence.{MachinePresence}
use Rattle.desk_state.specs.declared.presence.Presence.TheVariants.{Online}
use Rattle.desk_state.specs.declared.refusal.Refusal.{Refusal}
use Rattle.desk_state.specs.declared.refusal.Refusal.TheVariants.{EntropyFault, Full}
use Rattle.desk_state.specs.declared.refusal.Scarce.TheVariants as scarce
use Rattle.desk_state.specs.declared.session.Attachment.{Attachment}
use Rattle.desk_state.specs.declared.session.Session.{Session}
use Rattle.machine_asks.specs.Asking.{asking}
use Rattle.machine_asks.specs.declared.attaching.AttachDecision.{AttachDecision}

-- another machine's poll that may wait
abbrev pub waits_beside : ℕ → Attachment → Bool
waits_beside id a = a.may_wait && not (a.id == id)

-- fewer than all workers but one have another machine's poll that may wait
abbrev pub is_worker_left : State → ℕ → Bool
is_worker_left s id = nat_lt (length (filter (waits_beside id) s.attached)) (s.settings.workers - 1)

-- the session isn't attached, and the client has its handle and its last number
abbrev pub is_taken_up : State → List ℕ → ℕ → Session → Bool
is_taken_up s handle seq x = not (is_attached s.attached x.id) && bytes_eq x.handle handle && (x.seq == seq)

-- the session goes on
abbrev pub session_taken_up : State → Session → AttachDecision
session_taken_up s x = record {
  id = x.id;
  begun = None;
  next = s.next_session;
  handle = x.handle;
  seq = x.seq;
  may_wait = is_worker_left s x.id;
}

-- a session of which nothing was sent
abbrev pub new_session : State → ℕ → List ℕ → Session
new_session s id words = record { id = id; handle = session_handle s.next_session words; seq = 0; sent = None }

-- a new session begins
abbrev pub session_begun : State → ℕ → List ℕ → AttachDecision
session_begun s id words = record {
  id = id;
  begun = Some (new_session s id words);
  next = s.next_session + 1;
  handle = session_handle s.next_session words;
  seq = 0;
  may_wait = is_worker_left s id;
}

-- a number is left for a session
abbrev pub has_number : State → Bool
has_number s = nat_lt s.next_session (2 ^ 63)

-- a new session is due: it takes a number and random words
abbrev pub session_due : State → ℕ → Option (List ℕ) → Result AttachDecision Refusal
session_due s id words = do
  number ← refuse_if (not (has_number s)) (Full scarce.Session)
  drawn ← or_fault EntropyFault words
  Ok (session_begun s id drawn)

-- the machine's session goes on, if it has one that does
abbrev pub attach_to : State → ℕ → List ℕ → ℕ → Option (List ℕ) → Option Session → Result AttachDecision Refusal
attach_to s id handle seq words None = session_due s id words
attach_to s id handle seq words (Some x) =
    if is_taken_up s handle seq x then Ok (session_taken_up s x) else session_due s id words

-- the live machine of these keys polls, by a handle and a last number
abbrev pub attach : State → MachineKey → NodeKey → List ℕ → ℕ → Option (List ℕ) → Result AttachDecision Refusal
attach s mk node handle seq words =
    asking s mk node >>= (λ m. attach_to s m.id handle seq words (session_of s.sessions m.id))

-- the sessions, with one that begins in the place of the machine's last
abbrev pub sessions_with : List Session → Option Session → List Session
sessions_with sessions None = sessions
sessions_with sessions (Some x) = put_row (λ (r : Session). r.id) sessions x

-- the state after an attach: the session is attached, and the machine is online
abbrev pub attached_state : State → AttachDecision → State
attached_state s d = record s {
  presence = put_row (λ (p : MachinePresence). p.id) s.presence (record { id = d.id; presence = Online });
  sessions = sessions_with s.sessions d.begun;
  attached = put_row (λ (a : Attachment). a.id) s.attached (record { id = d.id; may_wait = d.may_wait });
  next_session = d.next;
}
