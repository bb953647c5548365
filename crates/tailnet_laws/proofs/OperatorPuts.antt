-- Which rows operators' asks put.
use Rattle.std.proofs.Common.{◌≡◌, ℕ, ℤ, Bool, not, List, [], Option, Some, None, inl, inr, refl, sym, unwrap_or, ◌+◌, ◌==◌, length, if◌then◌else◌}
use Rattle.std.specs.Cmp.Lexicographic.{pointwise, slice_cmp}
use Rattle.std.specs.Ordering.{nat_cmp}
use Rattle.std.specs.Prelude.{Contains}
use Rattle.std.specs.Str.{bytes_eq}
use Rattle.tail_base.specs.Labels.{label_of}
use Rattle.tail_base.specs.Logins.{login_of}
use Rattle.tail_base.specs.Sorted.{sorted_once}
use Rattle.net_addr.specs.Bits.{Block}
use Rattle.tailcfg.specs.declared.dns.DnsExtra.{DnsExtra}
use Rattle.net_rows.specs.Room.{has_room}
use Rattle.net_rows.specs.Rows.{key_with, machine_of, machine_with, pending_with}
use Rattle.net_rows.specs.declared.change.Kind.TheVariants as kind
use Rattle.net_rows.specs.declared.change.RowKey.{RowKey}
use Rattle.net_rows.specs.declared.key.AuthKey.{AuthKey}
use Rattle.net_rows.specs.declared.machine.Machine.{Machine}
use Rattle.net_rows.specs.declared.pending.Pending.{Pending}
use Rattle.net_rows.specs.declared.user.User.{User}
use Rattle.net_rows.proofs.Members.{find_member, first_member}
use Rattle.same_maps.specs.Dns.{same_extras}
use Rattle.desk_state.specs.Changes.{machine_gone}
use Rattle.desk_state.specs.Decisions.{changing, only}
use Rattle.desk_state.specs.Lines.{node_line}
use Rattle.desk_state.specs.State.{State, is_ahead, is_overdue}
use Rattle.desk_state.specs.Tags.{tags_defined, tags_granted}
use Rattle.desk_state.specs.Users.{user_named}
use Rattle.desk_state.specs.declared.decision.Decision.{Decision}
use Rattle.desk_state.specs.declared.key_form.KeyForm.{KeyForm}
use Rattle.desk_state.specs.declared.refusal.Refusal.TheVariants.{BadName, EntropyFault, Full, KeyUnknown, NameTaken, NodeKeyTaken, PendingUnknown, UnknownMachine, UserHasMachines}
use Rattle.desk_state.specs.declared.refusal.Scarce.TheVariants as scarce
use Rattle.desk_state.specs.Rows.{is_taken, machine_row, place_for, row_change, row_replaced}
use Rattle.desk_state.specs.Same.{prefix_eq}
use Rattle.desk_state.specs.declared.place.Place.{Place}
use Rattle.admin_asks.specs.Admit.{admission, admit, entrant_of_entry, timely_entry}
use Rattle.admin_asks.specs.Decision.{decision}
use Rattle.admin_asks.specs.Extras.{extras_change, extras_set, set_extras}
use Rattle.admin_asks.specs.Keys.{add_key, added_key, expire_key, expired_key, expiry_change, key_change, key_lines, new_key}
use Rattle.admin_asks.specs.Nodes.{changed_node, drop_node, ends_at, expire_node, expired_node, is_name_taken, node_lines, rename, renamed_node, same_node, set_tags, tagged_node}
use Rattle.admin_asks.specs.Routes.{kept_routes, routed_node, routes_approvable, set_routes}
use Rattle.admin_asks.specs.Sweep.{lost_machines, overdue_entries, sweep_change, sweep_decision}
use Rattle.admin_asks.specs.Users.{add_user, added_user, drop_user, has_machine, is_login_taken, new_user, user_change, user_gone, with_at}
use Rattle.admin_asks.specs.declared.operator_answer.OperatorAnswer.{OperatorAnswer}
use Rattle.admin_asks.specs.declared.operator_answer.OperatorAnswer.TheVariants as answer
use Rattle.admin_asks.specs.declared.operator_ask.OperatorAsk.{OperatorAsk}
use Rattle.admin_asks.specs.declared.operator_ask.OperatorAsk.TheVariants as ask
use Rattle.tailnet_laws.specs.Entering.{IsAdmission, IsEntryOf}
use Rattle.tailnet_laws.proofs.Every.{Every, either_of, every_bind, every_ok, every_or, every_refuse}
use Rattle.tailnet_laws.proofs.Puts.{IsKeyPut, Puts, placed_put, puts_none, puts_some}

module _ (s : State) (x : OperatorAsk) where
  abbrev Operates : Decision OperatorAnswer → Type 0
  Operates = Puts s.rows (IsKeyPut s.rows) (IsAdmission s x)

  -- nothing changes
  quiet : (a : OperatorAnswer) → Operates (only a)
  quiet a = puts_none s.rows (IsKeyPut s.rows) (IsAdmission s x) (only a) refl

  add_user_puts : (name : List ℕ) → Every Operates (add_user s name)
  add_user_puts name =
      every_or Operates BadName (login_of (with_at name)) _ (λ (login : List ℕ) _.
      every_refuse Operates (is_login_taken s.rows.users login) NameTaken _ (λ _.
      every_refuse Operates (not (has_room s.rows kind.User)) (Full scarce.User) _ (λ _.
      every_ok Operates (added_user s.rows login)
      (puts_some s.rows (IsKeyPut s.rows) (IsAdmission s x) (added_user s.rows login) (user_change s.rows (new_user s.rows login)) refl (refl, tt) (tt, tt)))))

  drop_user_puts : (login : List ℕ) → Every Operates (drop_user s login)
  drop_user_puts login =
      every_bind Operates (user_named s.rows login) _ (λ (user : User) _.
      every_refuse Operates (has_machine s.rows.machines user.id) UserHasMachines _ (λ _.
      every_ok Operates (changing (user_gone s.rows user) answer.Gone)
      (puts_some s.rows (IsKeyPut s.rows) (IsAdmission s x) (changing (user_gone s.rows user) answer.Gone) (user_gone s.rows user) refl tt tt)))

  add_key_puts : (form : KeyForm) (words : Option (List ℕ)) → Every Operates (add_key s form words)
  add_key_puts form words =
      every_bind Operates (user_named s.rows form.login) _ (λ (user : User) _.
      every_bind Operates (tags_defined s form.tags) _ (λ _ _.
      every_refuse Operates (not (has_room s.rows kind.Key)) (Full scarce.Key) _ (λ _.
      every_or Operates EntropyFault words _ (λ (drawn : List ℕ) _.
      let k = new_key s.rows form user.id drawn in
      every_ok Operates (added_key s.rows k)
      (puts_some s.rows (IsKeyPut s.rows) (IsAdmission s x) (added_key s.rows k) (key_change s.rows k) refl (inl refl, tt) (tt, tt))))))

  expire_key_puts : (id : ℕ) → Every Operates (expire_key s id)
  expire_key_puts id =
      every_or Operates KeyUnknown (key_with s.rows.keys id) _ (λ (k : AuthKey) found.
      let inside = (find_member (λ (r : AuthKey). r.id == id) s.rows.keys k found).0 in
      every_ok Operates (expired_key s k)
      (either_of Operates (is_ahead s.now k.expiry) (changing (expiry_change s k) answer.Gone) (only answer.Gone)
      (λ _. puts_some s.rows (IsKeyPut s.rows) (IsAdmission s x) (changing (expiry_change s k) answer.Gone) (expiry_change s k) refl
      (inr (k, inside, record { id = refl; reusable = refl; used = λ h. h }), tt) (tt, tt))
      (λ _. quiet answer.Gone)))

  -- a machine's row is put again, or stays as it is
  node_puts : (m r : Machine) (b : Bool) → Contains s.rows.machines m → r.id ≡ m.id → r.machine ≡ m.machine → Operates (if b then same_node s m else changed_node s r)
  node_puts m r b inside id machine =
      either_of Operates b (same_node s m) (changed_node s r) (λ _. quiet (answer.Node (node_line s m)))
      (λ _. puts_some s.rows (IsKeyPut s.rows) (IsAdmission s x) (changed_node s r) (row_replaced s.rows r) refl (inr (m, inside, id, machine), tt) (inl (m, inside, sym id), tt))

  machine_there : (id : ℕ) (m : Machine) → machine_with s.rows.machines id ≡ Some m → Contains s.rows.machines m
  machine_there id m found = (find_member (λ (r : Machine). r.id == id) s.rows.machines m found).0

  expire_node_puts : (id : ℕ) (expiry : Option ℤ) → Every Operates (expire_node s id expiry)
  expire_node_puts id expiry =
      every_or Operates UnknownMachine (machine_with s.rows.machines id) _ (λ (m : Machine) found.
      let end = unwrap_or expiry s.now in
      every_ok Operates (expired_node s m end)
      (node_puts m (record m { expiry = Some end }) (ends_at m.expiry end) (machine_there id m found) refl refl))

  rename_puts : (id : ℕ) (name : List ℕ) → Every Operates (rename s id name)
  rename_puts id name =
      every_or Operates UnknownMachine (machine_with s.rows.machines id) _ (λ (m : Machine) found.
      every_or Operates BadName (label_of name) _ (λ (label : List ℕ) _.
      every_refuse Operates (is_name_taken s.rows.machines m.id label) NameTaken _ (λ _.
      every_ok Operates (renamed_node s m label)
      (node_puts m (record m { name = label }) (bytes_eq m.name label) (machine_there id m found) refl refl))))

  set_tags_puts : (id : ℕ) (tags : List (List ℕ)) → Every Operates (set_tags s id tags)
  set_tags_puts id tags =
      every_or Operates UnknownMachine (machine_with s.rows.machines id) _ (λ (m : Machine) found.
      every_bind Operates (tags_defined s tags) _ (λ _ _.
      let kept = sorted_once (slice_cmp nat_cmp) tags in
      every_ok Operates (tagged_node s m kept)
      (node_puts m (record m { tags = kept }) (pointwise bytes_eq m.tags kept) (machine_there id m found) refl refl)))

  set_routes_puts : (id : ℕ) (routes : List Block) → Every Operates (set_routes s id routes)
  set_routes_puts id routes =
      every_or Operates UnknownMachine (machine_with s.rows.machines id) _ (λ (m : Machine) found.
      every_bind Operates (routes_approvable m.routes routes) _ (λ _ _.
      let kept = kept_routes m.routes routes in
      every_ok Operates (routed_node s m kept)
      (node_puts m (record m { approved = kept }) (pointwise prefix_eq m.approved kept) (machine_there id m found) refl refl)))

  drop_node_puts : (id : ℕ) → Every Operates (drop_node s id)
  drop_node_puts id =
      every_or Operates UnknownMachine (machine_with s.rows.machines id) _ (λ (m : Machine) _.
      every_ok Operates (changing (machine_gone s.rows m.id) answer.Gone)
      (puts_some s.rows (IsKeyPut s.rows) (IsAdmission s x) (changing (machine_gone s.rows m.id) answer.Gone) (machine_gone s.rows m.id) refl tt tt))

  set_extras_puts : (given : List DnsExtra) → Every Operates (set_extras s given)
  set_extras_puts given =
      let change = extras_change s.rows given in
      let kept = answer.Extras given in
      every_ok Operates (extras_set s.rows given)
      (either_of Operates (same_extras s.rows.extras given) (only kept) (changing change kept) (λ _. quiet kept)
      (λ _. puts_some s.rows (IsKeyPut s.rows) (IsAdmission s x) (changing change kept) change refl (tt, tt) (tt, tt)))

  sweep_puts : (machines pending : List RowKey) → Operates (sweep_decision s.rows machines pending)
  sweep_puts machines pending =
      let change = sweep_change s.rows machines pending in
      let swept = answer.Swept (length machines) (length pending) in
      either_of Operates (length machines + length pending == 0) (only (answer.Swept 0 0)) (changing change swept) (λ _. quiet (answer.Swept 0 0))
      (λ _. puts_some s.rows (IsKeyPut s.rows) (IsAdmission s x) (changing change swept) change refl tt tt)

-- a timely entry is the one of its text
entry_named : (s : State) (text : List ℕ) → Every (λ (p : Pending). pending_with s.rows.pending text ≡ Some p) (timely_entry s text)
entry_named s text =
    let P = λ (p : Pending). pending_with s.rows.pending text ≡ Some p in
    every_or P PendingUnknown (pending_with s.rows.pending text) _ (λ (p : Pending) found.
    every_refuse P (is_overdue s p) PendingUnknown _ (λ _. every_ok P p found))

admit_puts : (s : State) (text login : List ℕ) → Every (Operates s (ask.Admit text login)) (admit s text login)
admit_puts s text login =
    let P = Operates s (ask.Admit text login) in
    every_bind P (timely_entry s text) _ (λ (p : Pending) timely.
    let found = entry_named s text p timely in
    every_bind P (user_named s.rows login) _ (λ (user : User) _.
    every_refuse P (is_taken s.rows.machines p.machine p.node) NodeKeyTaken _ (λ _.
    every_bind P (tags_granted s user.id p.tags) _ (λ _ _.
    every_bind P (place_for s p.host (machine_of s.rows.machines p.machine.0)) _ (λ (place : Place) placed.
    let e = entrant_of_entry s p user.id in
    let r = machine_row p.machine e place in
    every_ok P (admission s p r place.next)
    (puts_some s.rows (IsKeyPut s.rows) (IsEntryOf s text) (admission s p r place.next) (row_change s.rows r place.next None (Some p)) refl
    (placed_put s p.machine e p.host (machine_of s.rows.machines p.machine.0) place (IsEntryOf s text) refl placed (p, found, refl), tt) (inr (first_member r.id []), tt)))))))

pub operator_puts : (s : State) (x : OperatorAsk) (words : Option (List ℕ)) → Every (Puts s.rows (IsKeyPut s.rows) (IsAdmission s x)) (decision s x words)
operator_puts s (ask.AddUser name) words = add_user_puts s (ask.AddUser name) name
operator_puts s ask.Users words = every_ok (Operates s ask.Users) (only (answer.Users s.rows.users)) (quiet s ask.Users (answer.Users s.rows.users))
operator_puts s (ask.DropUser login) words = drop_user_puts s (ask.DropUser login) login
operator_puts s (ask.AddKey form) words = add_key_puts s (ask.AddKey form) form words
operator_puts s ask.Keys words = every_ok (Operates s ask.Keys) (only (answer.Keys (key_lines s.rows))) (quiet s ask.Keys (answer.Keys (key_lines s.rows)))
operator_puts s (ask.ExpireKey id) words = expire_key_puts s (ask.ExpireKey id) id
operator_puts s ask.Nodes words = every_ok (Operates s ask.Nodes) (only (answer.Nodes (node_lines s s.rows.machines))) (quiet s ask.Nodes (answer.Nodes (node_lines s s.rows.machines)))
operator_puts s ask.Waiting words = every_ok (Operates s ask.Waiting) (only (answer.Waiting s.rows.pending)) (quiet s ask.Waiting (answer.Waiting s.rows.pending))
operator_puts s (ask.Admit text login) words = admit_puts s text login
operator_puts s (ask.ExpireNode id expiry) words = expire_node_puts s (ask.ExpireNode id expiry) id expiry
operator_puts s (ask.Rename id name) words = rename_puts s (ask.Rename id name) id name
operator_puts s (ask.SetTags id tags) words = set_tags_puts s (ask.SetTags id tags) id tags
operator_puts s (ask.SetRoutes id routes) words = set_routes_puts s (ask.SetRoutes id routes) id routes
operator_puts s (ask.DropNode id) words = drop_node_puts s (ask.DropNode id) id
operator_puts s ask.Extras words = every_ok (Operates s ask.Extras) (only (answer.Extras s.rows.extras)) (quiet s ask.Extras (answer.Extras s.rows.extras))
operator_puts s (ask.SetExtras given) words = set_extras_puts s (ask.SetExtras given) given
operator_puts s ask.Sweep words =
    every_ok (Operates s ask.Sweep) (sweep_decision s.rows (lost_machines s s.rows.machines) (overdue_entries s s.rows.pending))
    (sweep_puts s ask.Sweep (lost_machines s s.rows.machines) (overdue_entries s s.rows.pending))
