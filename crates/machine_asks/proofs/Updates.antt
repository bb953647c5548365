-- What a machine tells of itself, and its map, are sound.
use Rattle.std.proofs.Common.{◌≡◌, ◌≢◌, ◌≤◌, ℕ, true, false, not, List, Option, Some, None, Ok, refl, sym, ap, ◌∙◌, length}
use Rattle.std.specs.Prelude.{Contains, IfSome}
use Rattle.std.specs.Str.{bytes_eq}
use Rattle.tail_base.specs.declared.key.MachineKey.{MachineKey}
use Rattle.tail_base.specs.declared.key.NodeKey.{NodeKey}
use Rattle.tail_base.specs.Steps.{or_fault, refuse_if}
use Rattle.tail_base.proofs.StepLemmas.{bind_parts, fault_parts, not_parts}
use Rattle.net_addr.specs.Bits.{Block}
use Rattle.net_rows.specs.Rows.{after, machine_of}
use Rattle.net_rows.specs.Sound.{AreSound}
use Rattle.net_rows.specs.declared.machine.Machine.{Machine}
use Rattle.net_rows.proofs.PutLemmas.{put_there}
use Rattle.tailcfg.specs.Short.{IsShortHost, IsShortUpdate}
use Rattle.tailcfg.specs.declared.host_update.HostUpdate.{HostUpdate}
use Rattle.tailcfg.specs.declared.limits.TheConstants.{HOST_LIMIT, ROUTE_LIMIT}
use Rattle.tailcfg.specs.declared.update.Update.{Update}
use Rattle.desk_state.specs.State.{State, is_live}
use Rattle.desk_state.specs.Decisions.{IsPlain, IsSoundChange, changing, only}
use Rattle.desk_state.specs.declared.refusal.Refusal.TheVariants.{NotLive, UnknownMachine}
use Rattle.desk_state.proofs.Proper.{proper_bind, proper_choice, proper_none, proper_some, same_counters, sound_change}
use Rattle.desk_state.specs.Rows.{row_replaced}
use Rattle.desk_state.specs.Same.{KeepsPlace, KeepsRegistration, same_told}
use Rattle.desk_state.proofs.RowLemmas.{machine_found, replaced_sound}
use Rattle.desk_state.proofs.Rests.{replaced_differs}
use Rattle.desk_state.proofs.Sameness.{told_kept}
use Rattle.machine_asks.specs.Asking.{asking}
use Rattle.machine_asks.specs.OneMap.{IsLiveRow, after_change, map_decision, map_for, one_map}
use Rattle.machine_asks.specs.Update.{told_or, told_host, told_row, told_routes, update, updated}
use Rattle.machine_asks.specs.declared.answer.MachineAnswer.TheVariants.{Updated}

-- the machine that asks is one of the tables
pub asking_is : (s : State) (mk : MachineKey) (node : NodeKey) (m : Machine) → asking s mk node ≡ Ok m → Contains s.rows.machines m
asking_is s mk node m h =
    let row = bind_parts (or_fault UnknownMachine (machine_of s.rows.machines mk.0)) _ m h in
    let same = bind_parts (refuse_if (not (bytes_eq row.0.node.0 node.0)) UnknownMachine) _ m row.2 in
    let live = bind_parts (refuse_if (not (is_live s row.0)) NotLive) _ m same.2 in
    let is : row.0 ≡ m = cc in
    rw is at (machine_found s.rows.machines mk row.0 (fault_parts UnknownMachine _ row.0 row.1)).0

-- and live
pub asking_live : (s : State) (mk : MachineKey) (node : NodeKey) (m : Machine) → asking s mk node ≡ Ok m → IsLiveRow s m
asking_live s mk node m h =
    let row = bind_parts (or_fault UnknownMachine (machine_of s.rows.machines mk.0)) _ m h in
    let same = bind_parts (refuse_if (not (bytes_eq row.0.node.0 node.0)) UnknownMachine) _ m row.2 in
    let live = bind_parts (refuse_if (not (is_live s row.0)) NotLive) _ m same.2 in
    let is : row.0 ≡ m = cc in
    record { inside = asking_is s mk node m h; live = ap (is_live s) (sym is) ∙ not_parts (is_live s row.0) NotLive live.0 live.1 }

-- it stays so with what it tells of itself
pub told_live : (s : State) (m : Machine) (u : Update) → IsLiveRow s m → IsLiveRow (after_change s (row_replaced s.rows (told_row m u))) (told_row m u)
told_live s m u h = record { inside = put_there (λ (r : Machine). r.id) s.rows.machines (told_row m u); live = h.live }

given_short : (given : Option (List ℕ)) (was : List ℕ) → IfSome given (λ text. length text ≤ HOST_LIMIT) → length was ≤ HOST_LIMIT → length (told_or given was) ≤ HOST_LIMIT
given_short None was h k = k
given_short (Some new) was h k = h

host_short : (was : List ℕ) (host : Option HostUpdate) → IfSome host IsShortHost → length was ≤ HOST_LIMIT → length (told_host was host) ≤ HOST_LIMIT
host_short was None h k = k
host_short was (Some host) h k = given_short host.name was h.name k

routes_short : (was : List Block) (host : Option HostUpdate) → IfSome host IsShortHost → length was ≤ ROUTE_LIMIT → length (told_routes was host) ≤ ROUTE_LIMIT
routes_short was None h k = k
routes_short was (Some host) h k = h.routes

pub told_sound : (s : State) (m : Machine) (u : Update) → AreSound s.rows → Contains s.rows.machines m → IsShortUpdate u → AreSound (after s.rows (row_replaced s.rows (told_row m u)))
told_sound s m u sound inside short =
    let row = sound.machines.keeps m inside in
    replaced_sound s.rows m (told_row m u) sound inside
    (record { id = refl; machine = refl; name = refl; v4 = refl; v6 = refl })
    (λ a within q. sound.machines.node_keys a m within inside q)
    (record {
      user = row.user;
      v4 = row.v4;
      v6 = row.v6;
      host = host_short m.host u.host short.host row.host;
      endpoints = short.endpoints;
      routes = routes_short m.routes u.host short.host row.routes;
      approved = row.approved;
      tags = row.tags;
    })

-- a row that isn't as it was is replaced
told_change : (s : State) (m : Machine) (u : Update) → AreSound s.rows → Contains s.rows.machines m → IsShortUpdate u → same_told m (told_row m u) ≡ false
    → IsSoundChange s.rows (row_replaced s.rows (told_row m u))
told_change s m u sound inside short other =
    let apart : told_row m u ≢ m = λ e. let clash : true ≡ false = sym (told_kept m (told_row m u) e) ∙ other in absurd (cc) in
    sound_change s.rows (row_replaced s.rows (told_row m u)) (told_sound s m u sound inside short) (replaced_differs s.rows m (told_row m u) sound inside refl apart) (same_counters s.rows.next)

updated_proper : (s : State) (m : Machine) (u : Update) → AreSound s.rows → Contains s.rows.machines m → IsShortUpdate u → IsPlain s.rows (Ok (updated s m (told_row m u)))
updated_proper s m u sound inside short =
    let change = row_replaced s.rows (told_row m u) in
    proper_choice s.rows (same_told m (told_row m u)) (only Updated) (changing change Updated) (λ _. proper_none s.rows (only Updated) refl refl)
    (λ other. proper_some s.rows (changing change Updated) change refl refl refl (told_change s m u sound inside short other))

pub update_proper : (s : State) (mk : MachineKey) (node : NodeKey) (u : Update) → AreSound s.rows → IsShortUpdate u → IsPlain s.rows (update s mk node u)
update_proper s mk node u sound short =
    proper_bind s.rows (asking s mk node) (λ m. Ok (updated s m (told_row m u)))
    (λ m is. updated_proper s m u sound (asking_is s mk node m is) short)

map_proper : (s : State) (m : Machine) (told : Option Update) → AreSound s.rows → Contains s.rows.machines m → IfSome told IsShortUpdate → IsPlain s.rows (Ok (map_decision s m told))
map_proper s m None sound inside short = proper_none s.rows (only (map_for s m)) refl refl
map_proper s m (Some u) sound inside short =
    let change = row_replaced s.rows (told_row m u) in
    let later = map_for (after_change s change) (told_row m u) in
    proper_choice s.rows (same_told m (told_row m u)) (only (map_for s m)) (changing change later) (λ _. proper_none s.rows (only (map_for s m)) refl refl)
    (λ other. proper_some s.rows (changing change later) change refl refl refl (told_change s m u sound inside short other))

pub one_map_proper : (s : State) (mk : MachineKey) (node : NodeKey) (told : Option Update) → AreSound s.rows → IfSome told IsShortUpdate → IsPlain s.rows (one_map s mk node told)
one_map_proper s mk node told sound short =
    proper_bind s.rows (asking s mk node) (λ m. Ok (map_decision s m told))
    (λ m is. map_proper s m told sound (asking_is s mk node m is) short)

pub told_place : (m : Machine) (u : Update) → KeepsPlace m (told_row m u)
told_place m u = record { id = refl; machine = refl; name = refl; v4 = refl; v6 = refl; approved = refl; created = refl }

pub told_registration : (m : Machine) (u : Update) → KeepsRegistration m (told_row m u)
told_registration m u = record { user = refl; node = refl; ephemeral = refl; expiry = refl; tags = refl }
