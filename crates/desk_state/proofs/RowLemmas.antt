-- A machine's row that is made, renewed or changed keeps the rules of the tables.
use Rattle.std.proofs.Common.{◌≡◌, ◌≢◌, ◌<◌, ◌≤◌, ◌+◌, ℕ, true, false, not, ◌&&◌, List, [], Option, Some, None, Ok, inl, inr, sym, ap, ◌∙◌, refl, subst, nat_lt, arith, length}
use Rattle.std.specs.Prelude.{Contains, IfSome}
use Rattle.std.specs.Str.{bytes_eq}
use Rattle.tail_base.specs.declared.key.MachineKey.{MachineKey}
use Rattle.tail_base.specs.declared.key.NodeKey.{NodeKey}
use Rattle.tailcfg.specs.declared.limits.TheConstants.{HOST_LIMIT, ROUTE_LIMIT}
use Rattle.net_rows.specs.declared.limits.TheConstants.{COUNTER_LIMIT, MACHINE_LIMIT, TAG_LIMIT}
use Rattle.net_rows.specs.Room.{has_room}
use Rattle.net_rows.specs.Rows.{after, machine_of}
use Rattle.net_rows.specs.Shelf.{HasRow, put_row, without}
use Rattle.net_rows.specs.Sound.{AreSound, MachineKeeps}
use Rattle.net_rows.specs.declared.change.Kind.TheVariants as kind
use Rattle.net_rows.specs.declared.key.AuthKey.{AuthKey}
use Rattle.net_rows.specs.declared.machine.Machine.{Machine}
use Rattle.net_rows.specs.declared.pending.Pending.{Pending}
use Rattle.net_rows.specs.declared.rows.Rows.{Rows}
use Rattle.net_rows.specs.declared.user.User.{User}
use Rattle.std.proofs.lemmas.Bool.{cases_Bool, and_parts, ltb-true}
use Rattle.tail_base.proofs.Bools.{bytes_eq-true, bytes_eq-from}
use Rattle.net_rows.proofs.Members.{find_member, find_none, list_any_member}
use Rattle.net_rows.proofs.SoundPut.{sound_key, sound_machine}
use Rattle.net_rows.proofs.SoundRemove.{sound_without_pending}
use Rattle.allot.specs.Addresses.{free_address}
use Rattle.allot.specs.Names.{free_name}
use Rattle.allot.proofs.AddressLaws.{address_fresh, v4_inside, v6_inside}
use Rattle.allot.proofs.NameLaws.{name_fresh}
use Rattle.desk_state.specs.State.{State}
use Rattle.tail_base.specs.Steps.{or_fault, refuse_if}
use Rattle.desk_state.specs.declared.refusal.Refusal.TheVariants.{Full, AddressesSpent}
use Rattle.desk_state.specs.declared.refusal.Scarce.TheVariants as scarce
use Rattle.tail_base.proofs.StepLemmas.{bind_parts, fault_parts, not_parts}
use Rattle.desk_state.specs.Rows.{is_taken, kept_place, machine_row, new_place, place_for, row_change, row_replaced}
use Rattle.desk_state.specs.declared.entrant.Entrant.{Entrant}
use Rattle.desk_state.specs.declared.place.Place.{Place}
use Rattle.settings.specs.Settings.{AreSettings}
use Rattle.net_rows.proofs.Puttable.{IsOwn, FitsMachine, FitsKey}

-- what a row takes anew keeps the rules of rows
pub record EntrantKeeps (users : List User) (e : Entrant) : Type 0 where
  pub user : HasRow (λ r. r.id) users e.user
  pub host : length e.host ≤ HOST_LIMIT
  pub routes : length e.routes ≤ ROUTE_LIMIT
  pub tags : length e.tags ≤ TAG_LIMIT

-- a row that stands where another one stood
pub record StandsAs (m r : Machine) : Type 0 where
  pub id : r.id ≡ m.id
  pub machine : r.machine.0 ≡ m.machine.0
  pub name : r.name ≡ m.name
  pub v4 : r.v4 ≡ m.v4
  pub v6 : r.v6 ≡ m.v6

-- where a machine without a row stands
pub record NewPlace (s : State) (host : List ℕ) (p : Place) : Type 0 where
  pub room : has_room s.rows kind.Machine ≡ true
  pub v4 : free_address s.settings.prefix_v4 s.rows.machines ≡ Some p.v4
  pub v6 : free_address s.settings.prefix_v6 s.rows.machines ≡ Some p.v6
  pub name : free_name s.rows.machines host ≡ p.name
  pub approved : p.approved ≡ []
  pub id : p.id ≡ s.rows.next.machine
  pub next : p.next ≡ s.rows.next.machine + 1

pub new_place_is : (s : State) (host : List ℕ) (p : Place) → new_place s host ≡ Ok p → NewPlace s host p
new_place_is s host p h =
    let room = bind_parts (refuse_if (not (has_room s.rows kind.Machine)) (Full scarce.Machine)) _ p h in
    let v4 = bind_parts (or_fault (AddressesSpent 4) (free_address s.settings.prefix_v4 s.rows.machines)) _ p room.2 in
    let v6 = bind_parts (or_fault (AddressesSpent 6) (free_address s.settings.prefix_v6 s.rows.machines)) _ p v4.2 in
    let made : Place = record {
      id = s.rows.next.machine;
      name = free_name s.rows.machines host;
      v4 = v4.0;
      v6 = v6.0;
      approved = [];
      created = s.now;
      next = s.rows.next.machine + 1;
    } in
    let same : made ≡ p = cc in
    subst (λ (x : Place). NewPlace s host x) same (record {
      room = not_parts _ (Full scarce.Machine) room.0 room.1;
      v4 = fault_parts (AddressesSpent 4) _ v4.0 v4.1;
      v6 = fault_parts (AddressesSpent 6) _ v6.0 v6.1;
      name = refl;
      approved = refl;
      id = refl;
      next = refl;
    })

-- no row has the machine key
by_none : (ms : List Machine) (mk : MachineKey) → machine_of ms mk.0 ≡ None → (a : Machine) → Contains ms a → a.machine.0 ≢ mk.0
by_none ms mk h a inside e =
    let fails : bytes_eq a.machine.0 mk.0 ≡ false = find_none (λ m. bytes_eq m.machine.0 mk.0) ms h a inside in
    let passes : bytes_eq a.machine.0 mk.0 ≡ true = bytes_eq-from _ _ e in
    cc

-- the machine of a key is one of the tables, and has the key
pub machine_found : (ms : List Machine) (mk : MachineKey) (m : Machine) → machine_of ms mk.0 ≡ Some m → Contains ms m × (m.machine.0 ≡ mk.0)
machine_found ms mk m h =
    let here = find_member (λ (r : Machine). bytes_eq r.machine.0 mk.0) ms m h in
    (here.0, bytes_eq-true _ _ here.1)

-- only the machine's own row has the node key
pub not_taken : (ms : List Machine) (mk : MachineKey) (node : NodeKey) → is_taken ms mk node ≡ false → (a : Machine) → Contains ms a → a.node.0 ≡ node.0 → a.machine.0 ≡ mk.0
not_taken ms mk node h a inside e =
    let test : (bytes_eq a.node.0 node.0 && not (bytes_eq a.machine.0 mk.0)) ≡ false = list_any_member _ ms h a inside in
    let same : bytes_eq a.node.0 node.0 ≡ true = bytes_eq-from _ _ e in
    let other : not (bytes_eq a.machine.0 mk.0) ≡ false = rw same at test in
    elim (cases_Bool (bytes_eq a.machine.0 mk.0)) [
      | inl passes ↦ bytes_eq-true _ _ passes
      | inr fails ↦ let bad : true ≡ false = rw fails at other in absurd (cc)
    ]

fits_new : (s : State) (mk : MachineKey) (e : Entrant) (host : List ℕ) (p : Place) → AreSettings s.settings
    → AreSound s.rows → NewPlace s host p → machine_of s.rows.machines mk.0 ≡ None → is_taken s.rows.machines mk e.node ≡ false → EntrantKeeps s.rows.users e
    → FitsMachine s.rows (machine_row mk e p)
fits_new s mk e host p hold sound place none free owed =
    let a4 = address_fresh s.settings.prefix_v4 s.rows.machines p.v4 place.v4 in
    let a6 = address_fresh s.settings.prefix_v6 s.rows.machines p.v6 place.v6 in
    let room = and_parts (nat_lt (length s.rows.machines) MACHINE_LIMIT) (nat_lt s.rows.next.machine COUNTER_LIMIT) place.room in
    record {
      id = omega (arith, place.id, sound.counters.machine);
      room = inl (ltb-true _ _ room.0);
      machine_key = λ a within q. absurd (by_none _ mk none a within q);
      node_key = λ a within q. absurd (by_none _ mk none a within (not_taken _ mk e.node free a within q));
      name = λ a within q. absurd (name_fresh s.rows.machines host sound.machines.count a within (q ∙ sym place.name));
      v4 = λ a within q. absurd (a4.v4_fresh a within q);
      v6 = λ a within q. absurd (a6.v6_fresh a within q);
      keeps = record {
        user = owed.user;
        v4 = v4_inside s.settings s.rows.machines p.v4 hold place.v4;
        v6 = v6_inside s.settings s.rows.machines p.v6 hold place.v6;
        host = owed.host;
        endpoints = omega arith;
        routes = owed.routes;
        approved = omega (arith, ap length place.approved);
        tags = owed.tags;
      };
    }

-- a row that stands where another one stood fits
pub fits_as : (t : Rows) (m r : Machine) → AreSound t → Contains t.machines m → StandsAs m r → IsOwn (λ x. x.id) (λ x. x.node.0) t.machines r → MachineKeeps t.users r
    → FitsMachine t r
fits_as t m r sound inside same own keeps = record {
  id = subst (λ (n : ℕ). 1 ≤ n) (sym same.id) (sound.machines.ids m inside).0;
  room = inr (m, inside, sym same.id);
  machine_key = λ a within q. sound.machines.machine_keys a m within inside (q ∙ same.machine) ∙ sym same.id;
  node_key = own;
  name = λ a within q. sound.machines.names a m within inside (q ∙ same.name) ∙ sym same.id;
  v4 = λ a within q. sound.machines.v4 a m within inside (q ∙ same.v4) ∙ sym same.id;
  v6 = λ a within q. sound.machines.v6 a m within inside (q ∙ same.v6) ∙ sym same.id;
  keeps = keeps;
}

-- no other row has a node key that isn't taken
pub own_node : (t : Rows) (mk : MachineKey) (node : NodeKey) (m : Machine) → AreSound t → machine_of t.machines mk.0 ≡ Some m → is_taken t.machines mk node ≡ false
    → (a : Machine) → Contains t.machines a → a.node.0 ≡ node.0 → a.id ≡ m.id
own_node t mk node m sound found free a within q =
    let here = machine_found t.machines mk m found in
    sound.machines.machine_keys a m within here.0 (not_taken _ mk node free a within q ∙ sym here.1)

fits_kept : (s : State) (mk : MachineKey) (e : Entrant) (m : Machine) → AreSound s.rows
    → machine_of s.rows.machines mk.0 ≡ Some m → is_taken s.rows.machines mk e.node ≡ false → EntrantKeeps s.rows.users e
    → FitsMachine s.rows (machine_row mk e (kept_place s m))
fits_kept s mk e m sound found free owed =
    let here = machine_found s.rows.machines mk m found in
    let row = sound.machines.keeps m here.0 in
    fits_as s.rows m (machine_row mk e (kept_place s m)) sound here.0
    (record { id = refl; machine = sym here.1; name = refl; v4 = refl; v6 = refl })
    (own_node s.rows mk e.node m sound found free)
    (record {
      user = owed.user;
      v4 = row.v4;
      v6 = row.v6;
      host = owed.host;
      endpoints = omega arith;
      routes = owed.routes;
      approved = row.approved;
      tags = owed.tags;
    })

-- a machine that fits fits also where a pending entry is gone
fits_without : (t : Rows) (id : ℕ) (m : Machine) → FitsMachine t m → FitsMachine (record t { pending = without (λ r. r.id) t.pending id }) m
fits_without t id m f = record {
  id = f.id;
  room = f.room;
  machine_key = f.machine_key;
  node_key = f.node_key;
  name = f.name;
  v4 = f.v4;
  v6 = f.v6;
  keeps = f.keeps;
}

-- a key that is put again, used
fits_used : (t : Rows) (k : AuthKey) → AreSound t → Contains t.keys k → FitsKey t (record k { used = true })
fits_used t k sound inside =
    let key = sound.keys.keeps k inside in
    record {
      id = (sound.keys.ids k inside).0;
      room = inr (k, inside, refl);
      text = λ a within e. sound.keys.texts a k within inside e;
      keeps = record { user = key.user; text = key.text; tags = key.tags };
    }

puts_sound : (t : Rows) (m : Machine) (next : ℕ) (key : Option AuthKey) → AreSound t → FitsMachine t m → m.id < next → t.next.machine ≤ next → next ≤ COUNTER_LIMIT
    → IfSome key (λ k. Contains t.keys k) → AreSound (after t (row_change t m next key None))
puts_sound t m next None sound fits below up top held = sound_machine t m next sound fits below up top
puts_sound t m next (Some k) sound fits below up top held =
    let one = sound_machine t m next sound fits below up top in
    let ids = sound.keys.ids k held in
    let u : Rows = record t { machines = put_row (λ r. r.id) t.machines m; next = record t.next { machine = next } } in
    sound_key u (record k { used = true }) t.next.key one (fits_used u k one held) ids.1 (omega arith) sound.counters.key.1

pub row_sound : (t : Rows) (m : Machine) (next : ℕ) (key : Option AuthKey) (pending : Option Pending) → AreSound t → FitsMachine t m
    → m.id < next → t.next.machine ≤ next → next ≤ COUNTER_LIMIT → IfSome key (λ k. Contains t.keys k) → AreSound (after t (row_change t m next key pending))
row_sound t m next key None sound fits below up top held = puts_sound t m next key sound fits below up top held
row_sound t m next None (Some p) sound fits below up top held =
    puts_sound (record t { pending = without (λ r. r.id) t.pending p.id }) m next None (sound_without_pending t p.id sound) (fits_without t p.id m fits) below up top tt
row_sound t m next (Some k) (Some p) sound fits below up top held =
    puts_sound (record t { pending = without (λ r. r.id) t.pending p.id }) m next (Some k) (sound_without_pending t p.id sound) (fits_without t p.id m fits) below up top held

-- a row that stands where another one stood is put
pub replaced_sound : (t : Rows) (m r : Machine) → AreSound t → Contains t.machines m → StandsAs m r → IsOwn (λ x. x.id) (λ x. x.node.0) t.machines r → MachineKeeps t.users r
    → AreSound (after t (row_replaced t r))
replaced_sound t m r sound inside same own keeps =
    let below = subst (λ (n : ℕ). n < t.next.machine) (sym same.id) (sound.machines.ids m inside).1 in
    row_sound t r t.next.machine None None sound (fits_as t m r sound inside same own keeps) below (omega arith) sound.counters.machine.1 tt

-- a machine enters: its row is made or renewed
pub enter_sound : (s : State) (mk : MachineKey) (e : Entrant) (host : List ℕ) (held : Option Machine) (p : Place) (key : Option AuthKey) (pending : Option Pending)
    → AreSettings s.settings → AreSound s.rows → machine_of s.rows.machines mk.0 ≡ held → is_taken s.rows.machines mk e.node ≡ false
    → EntrantKeeps s.rows.users e → place_for s host held ≡ Ok p → IfSome key (λ k. Contains s.rows.keys k)
    → AreSound (after s.rows (row_change s.rows (machine_row mk e p) p.next key pending))
enter_sound s mk e host None p key pending hold sound none free owed placed inside =
    let place = new_place_is s host p placed in
    let room = and_parts (nat_lt (length s.rows.machines) MACHINE_LIMIT) (nat_lt s.rows.next.machine COUNTER_LIMIT) place.room in
    let below : s.rows.next.machine < COUNTER_LIMIT = ltb-true _ _ room.1 in
    row_sound s.rows (machine_row mk e p) p.next key pending sound
    (fits_new s mk e host p hold sound place none free owed)
    (omega (arith, place.id, place.next)) (omega (arith, place.next)) (omega (arith, place.next)) inside
enter_sound s mk e host (Some m) p key pending hold sound found free owed placed inside =
    let kept : kept_place s m ≡ p = cc in
    let here = machine_found s.rows.machines mk m found in
    let below = (sound.machines.ids m here.0).1 in
    subst (λ (x : Place). AreSound (after s.rows (row_change s.rows (machine_row mk e x) x.next key pending))) kept
    (row_sound s.rows (machine_row mk e (kept_place s m)) s.rows.next.machine key pending sound
    (fits_kept s mk e m sound found free owed) below (omega arith) sound.counters.machine.1 inside)
