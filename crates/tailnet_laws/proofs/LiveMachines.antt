-- Live machines: peers and machines that ask are such, and a machine whose node key has expired is none.
use Rattle.std.proofs.Common.{◌≡◌, ◌≢◌, ℕ, Bool, true, false, not, ◌==◌, List, [], ◌∷◌, map, Option, Some, None, Result, Ok, Err, inl, inr, refl, sym, ap, ◌∙◌, arith}
use Rattle.std.specs.Prelude.{Contains, filter}
use Rattle.std.specs.Str.{bytes_eq}
use Rattle.std.proofs.lemmas.Bool.{cases_Bool, not-false}
use Rattle.tail_base.specs.declared.key.MachineKey.{MachineKey}
use Rattle.tail_base.specs.declared.key.NodeKey.{NodeKey}
use Rattle.tail_base.specs.Steps.{◌>>=◌}
use Rattle.tail_base.proofs.Bools.{bytes_eq-from}
use Rattle.net_rows.specs.Rows.{machine_of}
use Rattle.net_rows.specs.Shelf.{row_at}
use Rattle.net_rows.specs.Sound.{AreSound}
use Rattle.net_rows.specs.declared.machine.Machine.{Machine}
use Rattle.net_rows.specs.declared.rows.Rows.{Rows}
use Rattle.net_rows.proofs.Members.{cut_member, find_none, first_member, list_any_found, no_member, rest_member}
use Rattle.net_rows.proofs.RowAt.{row_at_is}
use Rattle.tailcfg.specs.declared.node_row.NodeRow.{NodeRow}
use Rattle.tailcfg.specs.declared.update.Update.{Update}
use Rattle.policy_sites.specs.Sites.{is_among, is_listed}
use Rattle.peer_view.specs.Seen.{Node, sees, visible}
use Rattle.peer_view.specs.Shown.{shown}
use Rattle.peer_view.proofs.ListLemmas.{filter_member, filtered_passes, mapped_member}
use Rattle.fresh_maps.specs.Fresh.{fresh}
use Rattle.desk_state.specs.Sessions.{session_of}
use Rattle.desk_state.specs.State.{State, is_ahead, is_live, live_ids}
use Rattle.desk_state.specs.declared.refusal.Refusal.TheVariants.{NotLive, UnknownMachine}
use Rattle.desk_state.specs.declared.refusal.Refusal.{Refusal}
use Rattle.desk_state.proofs.RowLemmas.{machine_found}
use Rattle.machine_asks.specs.Asking.{asking}
use Rattle.machine_asks.specs.Attach.{attach, attach_to}
use Rattle.machine_asks.specs.Decision.{decision}
use Rattle.machine_asks.specs.Drain.{drain}
use Rattle.machine_asks.specs.OneMap.{map_decision, node_in, world_of}
use Rattle.machine_asks.specs.Update.{told_row, updated}
use Rattle.machine_asks.specs.declared.ask.MachineAsk.TheVariants as ask
use Rattle.tailnet_laws.specs.Shown.{IsExpired}
use Rattle.tailnet_laws.proofs.Every.{Every, every_ok, every_or, every_refuse}

-- of the rows that pass a test, as they are shown
shown_of : {A B : Type 0} (test : A → Bool) (f : A → B) (xs : List A) (y : B) → Contains (map f (filter test xs)) y → (x : A) × Contains xs x × (test x ≡ true) × (y ≡ f x)
shown_of test f [] y inside = absurd (no_member y inside)
shown_of {A} test f (x ∷ xs) y inside =
    elim (cases_Bool (test x)) [
      | inl passes ↦ elim (cut_member (f x) (map f (filter test xs)) y (rw passes at inside)) [
        | inl e ↦ (x, first_member x xs, passes, e)
        | inr r ↦ let rest = shown_of test f xs y r in (rest.0, rest_member x xs rest.0 rest.1, rest.2, rest.3)
      ]
      | inr fails ↦ let rest = shown_of test f xs y (rw fails at inside) in (rest.0, rest_member x xs rest.0 rest.1, rest.2, rest.3)
    ]

-- a listed id is a live machine's
pub listed_live : (s : State) (n : ℕ) → is_listed (live_ids s) n ≡ true → (a : Machine) × Contains s.rows.machines a × (is_live s a ≡ true) × (n ≡ a.id)
listed_live s n h =
    let found = list_any_found (λ (other : ℕ). other == n) (live_ids s) h in
    let live = shown_of (is_live s) (λ (m : Machine). m.id) s.rows.machines found.0 found.1 in
    let same : (found.0 == n) ≡ true = found.2 in
    let is : n ≡ found.0 = grind arith in
    (live.0, live.1, live.2, is ∙ live.3)

-- a peer is a live machine
pub peer_live : (s : State) (v : Node) (p : NodeRow) → Contains (fresh (world_of s) v).peers p → (a : Machine) × Contains s.rows.machines a × (is_live s a ≡ true) × (p.id ≡ a.id)
peer_live s v p h =
    let w = world_of s in
    let ids = live_ids s in
    let seen = mapped_member (shown w v (visible w v)) (visible w v) p h in
    let node : Contains w.nodes seen.0 = filter_member (sees w v) w.nodes seen.0 seen.1 in
    let from = mapped_member (node_in s) (filter (is_among ids) s.rows.machines) seen.0 node in
    let listed : is_among ids from.0 ≡ true = filtered_passes (is_among ids) s.rows.machines from.0 from.1 in
    let live = listed_live s from.0.id listed in
    let row : seen.0.row.id ≡ p.id = ap (λ (n : NodeRow). n.id) seen.2 in
    let machine : from.0.id ≡ seen.0.row.id = ap (λ (n : Node). n.row.id) from.2 in
    (live.0, live.1, live.2, sym row ∙ (sym machine ∙ live.3))

-- no live machine has this id
abbrev pub NoneLive : State → ℕ → Type 0
NoneLive s n = (a : Machine) → Contains s.rows.machines a → is_live s a ≡ true → a.id ≢ n

-- rows of one id are one row
pub one_row : (t : Rows) (a b : Machine) → AreSound t → Contains t.machines a → Contains t.machines b → a.id ≡ b.id → a ≡ b
one_row t a b sound ina inb e =
    let id = λ (x : Machine). x.id in
    let found : row_at id t.machines a.id ≡ Some a = row_at_is id t.machines a sound.machines.ascend ina in
    let own : row_at id t.machines b.id ≡ Some b = row_at_is id t.machines b sound.machines.ascend inb in
    let both : Some a ≡ Some b = sym found ∙ ap (λ (n : ℕ). row_at id t.machines n) e ∙ own in
    cc

not_live : (s : State) (m : Machine) → is_ahead s.now m.expiry ≡ false → is_live s m ≡ false
not_live s m past = rw past refl

pub none_live : (s : State) (m : Machine) → AreSound s.rows → IsExpired s m → NoneLive s m.id
none_live s m sound h a inside live e =
    let same : a ≡ m = one_row s.rows a m sound inside h.row e in
    let clash : true ≡ false = sym live ∙ ap (is_live s) same ∙ not_live s m h.past in
    absurd (cc)

pub no_peer : (s : State) (m : Machine) (v : Node) (p : NodeRow) → AreSound s.rows → IsExpired s m → Contains (fresh (world_of s) v).peers p → p.id ≢ m.id
no_peer s m v p sound h inside e = let live = peer_live s v p inside in none_live s m sound h live.0 live.1 live.2 (sym live.3 ∙ e)

-- the machine that asks has a row, and is live
pub asking_live : (s : State) (mk : MachineKey) (node : NodeKey) → Every (λ (v : Machine). Contains s.rows.machines v × (is_live s v ≡ true)) (asking s mk node)
asking_live s mk node =
    let P = λ (v : Machine). Contains s.rows.machines v × (is_live s v ≡ true) in
    every_or P UnknownMachine (machine_of s.rows.machines mk.0) _ (λ row found.
    every_refuse P (not (bytes_eq row.node.0 node.0)) UnknownMachine _ (λ _.
    every_refuse P (not (is_live s row)) NotLive _ (λ lives.
    every_ok P row ((machine_found s.rows.machines mk row found).0, not-false _ lives))))

-- a machine of sound tables is the one that its key finds
own_row : (t : Rows) (m : Machine) (held : Option Machine) → AreSound t → Contains t.machines m → machine_of t.machines m.machine.0 ≡ held → held ≡ Some m
own_row t m None sound inside e =
    let fails : bytes_eq m.machine.0 m.machine.0 ≡ false = find_none (λ (r : Machine). bytes_eq r.machine.0 m.machine.0) t.machines e m inside in
    let passes : bytes_eq m.machine.0 m.machine.0 ≡ true = bytes_eq-from m.machine.0 m.machine.0 refl in
    absurd (cc)
own_row t m (Some r) sound inside e =
    let here = machine_found t.machines m.machine r e in
    let ids : r.id ≡ m.id = sound.machines.machine_keys r m here.0 inside here.1 in
    ap Some (one_row t r m sound here.0 inside ids)

asking_refused : (s : State) (m : Machine) → AreSound s.rows → IsExpired s m → asking s m.machine m.node ≡ Err NotLive
asking_refused s m sound h =
    let found : machine_of s.rows.machines m.machine.0 ≡ Some m = own_row s.rows m _ sound h.row refl in
    let same : bytes_eq m.node.0 m.node.0 ≡ true = bytes_eq-from m.node.0 m.node.0 refl in
    let past : is_live s m ≡ false = not_live s m h.past in
    rw (found, same, past) refl

pub map_refused : (s : State) (m : Machine) (told : Option Update) (words : Option (List ℕ)) → AreSound s.rows → IsExpired s m
    → decision s (ask.OneMap m.machine m.node told) words ≡ Err NotLive
map_refused s m told words sound h = ap (λ (r : Result Machine Refusal). r >>= (λ v. Ok (map_decision s v told))) (asking_refused s m sound h)

pub update_refused : (s : State) (m : Machine) (told : Update) (words : Option (List ℕ)) → AreSound s.rows → IsExpired s m
    → decision s (ask.Update m.machine m.node told) words ≡ Err NotLive
update_refused s m told words sound h = ap (λ (r : Result Machine Refusal). r >>= (λ v. Ok (updated s v (told_row v told)))) (asking_refused s m sound h)

pub attach_refused : (s : State) (m : Machine) (handle : List ℕ) (seq : ℕ) (words : Option (List ℕ)) → AreSound s.rows → IsExpired s m
    → attach s m.machine m.node handle seq words ≡ Err NotLive
attach_refused s m handle seq words sound h =
    ap (λ (r : Result Machine Refusal). r >>= (λ v. attach_to s v.id handle seq words (session_of s.sessions v.id))) (asking_refused s m sound h)

pub drain_ended : (s : State) (m : Machine) (handle : List ℕ) → AreSound s.rows → IsExpired s m → drain s m.machine handle ≡ None
drain_ended s m handle sound h =
    let found : machine_of s.rows.machines m.machine.0 ≡ Some m = own_row s.rows m _ sound h.row refl in
    let past : is_live s m ≡ false = not_live s m h.past in
    rw (found, past) refl
