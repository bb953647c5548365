-- The state as maps see it.
use Rattle.std.proofs.Common.{◌≡◌, ◌==◌, ℕ, ℤ, true, List, refl, ap, ◌∙◌}
use Rattle.std.specs.Prelude.{Contains, None, Option, Some, filter}
use Rattle.std.proofs.lemmas.Bool.{eq-eqb}
use Rattle.net_rows.specs.Damage.{damage}
use Rattle.net_rows.specs.declared.machine.Machine.{Machine}
use Rattle.net_rows.specs.declared.rows.Rows.{Rows}
use Rattle.net_rows.proofs.Members.{list_any_is}
use Rattle.net_rows.proofs.RowAt.{row_at_is}
use Rattle.policy_rows.specs.declared.policy.Policy.{Policy}
use Rattle.settings.specs.declared.fields.SettingsFields.{SettingsFields}
use Rattle.policy_sites.specs.Sites.{is_among}
use Rattle.desk_state.specs.State.{State, is_live, live_ids}
use Rattle.desk_state.specs.declared.presence.MachinePresence.{MachinePresence}
use Rattle.desk_state.specs.declared.session.Attachment.{Attachment}
use Rattle.desk_state.specs.declared.session.Session.{Session}
use Rattle.peer_view.specs.Seen.{Node, Seen, live_node, node_with, seen_of}
use Rattle.peer_view.proofs.ListLemmas.{filtered_member, map_member}
use Rattle.peer_view.proofs.WorldLaws.{seen_sound}
use Rattle.fresh_maps.specs.Fresh.{fresh}
use Rattle.fresh_maps.specs.declared.view.View.{View}
use Rattle.machine_asks.specs.OneMap.{IsLiveRow, fresh_for, node_in, online_ids, world_of}

-- a live machine is seen
live_found : (s : State) (m : Machine) → damage s.rows ≡ None → IsLiveRow s m → node_with (world_of s) m.id ≡ Some (node_in s m)
live_found s m kept h =
    let ids = live_ids s in
    let machines = s.rows.machines in
    let alive : Contains (filter (is_live s) machines) m = filtered_member (is_live s) machines m h.inside h.live in
    let inside : Contains ids m.id = map_member (λ (r : Machine). r.id) (filter (is_live s) machines) m alive in
    let listed : is_among ids m ≡ true = list_any_is (λ (other : ℕ). other == m.id) ids m.id inside (eq-eqb m.id m.id refl) in
    let here : Contains (filter (is_among ids) machines) m = filtered_member (is_among ids) machines m h.inside listed in
    let there : Contains (world_of s).nodes (node_in s m) = map_member (live_node s.policy s.rows.users (online_ids s.presence)) (filter (is_among ids) machines) m here in
    row_at_is (λ (n : Node). n.row.id) (world_of s).nodes (node_in s m) (seen_sound s.settings s.policy s.rows ids (online_ids s.presence) kept).nodes there

-- the world of the state's parts is the state's
world_is : (s : State) (settings : SettingsFields) (rows : Rows) (policy : Option Policy) (presence : List MachinePresence) (sessions : List Session) (attached : List Attachment) (next : ℕ) (now : ℤ) (live online : List ℕ) (w : Seen)
    → record { settings = settings; rows = rows; policy = policy; presence = presence; sessions = sessions; attached = attached; next_session = next; now = now } ≡ s → live ≡ live_ids s → online ≡ online_ids s.presence
    → w ≡ seen_of settings policy rows live online → w ≡ world_of s
world_is s settings rows policy presence sessions attached next now live online w whole lives onlines is =
    is ∙ (λ i. seen_of (whole i).settings (whole i).policy (whole i).rows (lives i) (onlines i))

pub live_in : (s : State) (settings : SettingsFields) (rows : Rows) (policy : Option Policy) (presence : List MachinePresence) (sessions : List Session) (attached : List Attachment) (next : ℕ) (now : ℤ) (live online : List ℕ) (w : Seen) (m : Machine)
    → record { settings = settings; rows = rows; policy = policy; presence = presence; sessions = sessions; attached = attached; next_session = next; now = now } ≡ s → live ≡ live_ids s → online ≡ online_ids s.presence
    → w ≡ seen_of settings policy rows live online → damage s.rows ≡ None → IsLiveRow s m → node_with w m.id ≡ Some (node_in s m)
live_in s settings rows policy presence sessions attached next now live online w m whole lives onlines is kept h =
    ap (λ (z : Seen). node_with z m.id) (world_is s settings rows policy presence sessions attached next now live online w whole lives onlines is) ∙ live_found s m kept h

pub map_in_world : (s : State) (settings : SettingsFields) (rows : Rows) (policy : Option Policy) (presence : List MachinePresence) (sessions : List Session) (attached : List Attachment) (next : ℕ) (now : ℤ) (live online : List ℕ) (w : Seen) (m : Machine) (view : View)
    → record { settings = settings; rows = rows; policy = policy; presence = presence; sessions = sessions; attached = attached; next_session = next; now = now } ≡ s → live ≡ live_ids s → online ≡ online_ids s.presence
    → w ≡ seen_of settings policy rows live online → damage s.rows ≡ None → IsLiveRow s m
    → ((n : Node) → node_with w m.id ≡ Some n → view ≡ fresh w n) → view ≡ fresh_for s m
map_in_world s settings rows policy presence sessions attached next now live online w m view whole lives onlines is kept h value =
    value (node_in s m) (live_in s settings rows policy presence sessions attached next now live online w m whole lives onlines is kept h)
    ∙ ap (λ (z : Seen). fresh z (node_in s m)) (world_is s settings rows policy presence sessions attached next now live online w whole lives onlines is)
