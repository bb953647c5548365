-- The state of a tailnet.
use Rattle.std.specs.Prelude.{ℕ, ℤ, pos, ◌+ℤ◌, int_lt, Bool, true, false, List, [], ◌∷◌, Option, Some, None, filter, map, if◌then◌else◌, not, ◌&&◌, ◌||◌}
use Rattle.std.specs.Int.{int_min}
use Rattle.std.specs.Option.{option_map}
use Rattle.net_addr.specs.Moments.{later_of, last_moment}
use Rattle.net_rows.specs.declared.rows.Rows.{Rows}
use Rattle.net_rows.specs.Shelf.{put_row, row_at, without}
use Rattle.net_rows.specs.declared.change.RowKey.{RowKey}
use Rattle.net_rows.specs.declared.change.RowKey.TheVariants as gone
use Rattle.net_rows.specs.declared.machine.Machine.{Machine}
use Rattle.net_rows.specs.declared.pending.Pending.{Pending}
use Rattle.policy_rows.specs.declared.policy.Policy.{Policy}
use Rattle.settings.specs.declared.fields.SettingsFields.{SettingsFields}
use Rattle.desk_state.specs.declared.presence.Presence.{Presence}
use Rattle.desk_state.specs.declared.presence.Presence.TheVariants.{Online, OfflineSince}
use Rattle.desk_state.specs.declared.presence.MachinePresence.{MachinePresence}
use Rattle.desk_state.specs.declared.session.Attachment.{Attachment}
use Rattle.desk_state.specs.declared.session.Session.{Session}

-- settings, tables, the policy in force, the presence of each machine, its session, if it has one, and whether a poll
-- holds that, the number of the next session, and the time
pub record State : Type 0 where
  pub settings : SettingsFields
  pub rows : Rows
  pub policy : Option Policy
  pub presence : List MachinePresence
  pub sessions : List Session
  pub attached : List Attachment
  pub next_session : ℕ
  pub now : ℤ

-- so many seconds later, or the last moment
abbrev pub later_by : ℕ → ℤ → ℤ
later_by seconds moment = int_min (moment +ℤ pos seconds) last_moment

-- there is no end, or it is still to come
abbrev pub is_ahead : ℤ → Option ℤ → Bool
is_ahead now None = true
is_ahead now (Some end) = int_lt now end

-- so many seconds have passed since then
abbrev pub is_past : ℤ → ℤ → ℕ → Bool
is_past now since seconds = not (int_lt now (later_by seconds since))

-- the time of a machine that waits has passed
abbrev pub is_overdue : State → Pending → Bool
is_overdue s p = is_past s.now p.made s.settings.pending_seconds

-- an ephemeral machine is still there: it is online, or went offline not long ago
abbrev pub stays : SettingsFields → ℤ → Presence → Bool
stays settings now Online = true
stays settings now (OfflineSince since) = int_lt now (later_by settings.ephemeral_seconds since)

abbrev pub stays_with : SettingsFields → ℤ → Option Presence → Bool
stays_with settings now None = false
stays_with settings now (Some presence) = stays settings now presence

abbrev pub is_online : Option Presence → Bool
is_online (Some Online) = true
is_online (Some (OfflineSince since)) = false
is_online None = false

-- the presence of the machine of an id
abbrev pub presence_of : List MachinePresence → ℕ → Option Presence
presence_of presence id = option_map (λ (p : MachinePresence). p.presence) (row_at (λ p. p.id) presence id)

-- a machine with this presence lives until its expiry and, if it is ephemeral, while it stays
abbrev pub is_live_with : State → Option Presence → Machine → Bool
is_live_with s presence m = is_ahead s.now m.expiry && (not m.ephemeral || stays_with s.settings s.now presence)

abbrev pub is_live : State → Machine → Bool
is_live s m = is_live_with s (presence_of s.presence m.id) m

-- the ids of the machines that are live
abbrev pub live_ids : State → List ℕ
live_ids s = map (λ (m : Machine). m.id) (filter (is_live s) s.rows.machines)

-- the machine is offline from this moment on
abbrev pub offline_at : ℤ → ℕ → MachinePresence
offline_at moment id = record { id = id; presence = OfflineSince moment }

-- these machines are offline from this moment on
abbrev pub all_offline : ℤ → List MachinePresence → List ℕ → List MachinePresence
all_offline moment presence [] = presence
all_offline moment presence (id ∷ ids) = all_offline moment (put_row (λ p. p.id) presence (offline_at moment id)) ids

-- these machines are offline from this moment on, if they were online
abbrev pub all_ended : ℤ → List MachinePresence → List ℕ → List MachinePresence
all_ended moment presence [] = presence
all_ended moment presence (id ∷ ids) =
    all_ended moment (if is_online (presence_of presence id) then put_row (λ p. p.id) presence (offline_at moment id) else presence) ids

-- what is kept by the id of a machine, without those whose rows go
abbrev pub forgotten : {T : Type 0} → (T → ℕ) → List T → List RowKey → List T
forgotten id xs [] = xs
forgotten id xs (gone.Machine k ∷ keys) = forgotten id (without id xs k) keys
forgotten id xs (gone.User k ∷ keys) = forgotten id xs keys
forgotten id xs (gone.Key k ∷ keys) = forgotten id xs keys
forgotten id xs (gone.Pending k ∷ keys) = forgotten id xs keys

-- the same without those of these ids
abbrev pub without_all : {T : Type 0} → (T → ℕ) → List T → List ℕ → List T
without_all id xs [] = xs
without_all id xs (k ∷ ks) = without_all id (without id xs k) ks

-- the state at an event's moment: time never falls
abbrev pub at_moment : State → ℤ → State
at_moment s moment = record s { now = later_of s.now moment }
