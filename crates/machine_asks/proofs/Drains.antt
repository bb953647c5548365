-- The outcome of a drain: at most two responses, of a session that there is.
use Rattle.std.proofs.Common.{◌≡◌, ◌≤◌, ◌+◌, ◌==◌, ℕ, Bool, true, false, List, [], ◌∷◌, Option, Some, None, length, refl, sym, ap, subst, arith, if◌then◌else◌}
use Rattle.std.specs.Prelude.{IfSome, IsSome}
use Rattle.std.proofs.lemmas.Bool.{eqb-true}
use Rattle.tail_base.specs.declared.key.MachineKey.{MachineKey}
use Rattle.tailcfg.specs.declared.patch.Patch.{Patch}
use Rattle.tailcfg.specs.declared.response.Response.{Response}
use Rattle.net_rows.specs.Rows.{machine_of}
use Rattle.net_rows.specs.declared.machine.Machine.{Machine}
use Rattle.net_rows.proofs.Members.{find_member}
use Rattle.fresh_maps.specs.declared.view.View.{View}
use Rattle.map_delta.specs.Delta.{change, is_empty, patches_between, responses_for, responses_of, then_patch}
use Rattle.desk_state.specs.Sessions.{session_of}
use Rattle.desk_state.specs.State.{State, is_live}
use Rattle.desk_state.specs.declared.session.Session.{Session}
use Rattle.desk_state.proofs.RowLemmas.{machine_found}
use Rattle.machine_asks.specs.Drain.{drain, drain_machine, drain_session, if_live, is_drained, session_drained}
use Rattle.machine_asks.specs.OneMap.{IsLiveRow, fresh_for}
use Rattle.machine_asks.specs.declared.draining.DrainDecision.{DrainDecision}

few_patches : (ps : List Patch) (seq : ℕ) → length (then_patch ps seq) ≤ 1
few_patches [] seq = omega arith
few_patches (p ∷ ps) seq = omega arith

few_either : (b : Bool) (xs ys : List Response) → length xs ≤ 2 → length ys ≤ 2 → length (if b then xs else ys) ≤ 2
few_either true xs ys h k = h
few_either false xs ys h k = k

few_of : (c : Response) (ps : List Patch) (seq : ℕ) → length (responses_of c ps seq) ≤ 2
few_of c ps seq =
    let one = few_patches ps (seq + 1) in
    let other = few_patches ps (seq + 2) in
    few_either (is_empty c) (then_patch ps (seq + 1)) (c ∷ then_patch ps (seq + 2)) (omega arith) (omega arith)

-- at most a change and then patches
pub few_responses : (handle : List ℕ) (seq : ℕ) (sent : Option View) (view : View) → length (responses_for handle seq sent view) ≤ 2
few_responses handle seq None view = omega arith
few_responses handle seq (Some old) view = few_of (change old view (seq + 1)) (patches_between old.peers view.peers) seq

-- a value behind a test
some_if : {A : Type 0} (b : Bool) (x y : A) → (if b then Some x else None) ≡ Some y → (b ≡ true) × (x ≡ y)
some_if true x y h = (refl, cc)
some_if false x y h = absurd (cc)

live_if : (s : State) (o : Option Machine) (m : Machine) → if_live s o ≡ Some m → (o ≡ Some m) × (is_live s m ≡ true)
live_if s None m h = absurd (cc)
live_if s (Some r) m h =
    let parts = some_if (is_live s r) r m h in
    (ap (λ (x : Machine). Some x) parts.1, subst (λ (x : Machine). is_live s x ≡ true) parts.1 parts.0)

-- the machine whose session is drained is one of the tables, and live
pub live_row : (s : State) (mk : MachineKey) (m : Machine) → if_live s (machine_of s.rows.machines mk.0) ≡ Some m → IsLiveRow s m
live_row s mk m h =
    let parts = live_if s (machine_of s.rows.machines mk.0) m h in
    record { inside = (machine_found s.rows.machines mk m parts.0).0; live = parts.1 }

-- a session stands under its own id
own_session : (xs : List Session) (k : ℕ) (x : Session) → session_of xs k ≡ Some x → session_of xs x.id ≡ Some x
own_session xs k x h =
    let test : (x.id == k) ≡ true = (find_member (λ (r : Session). r.id == k) xs x h).1 in
    let same : x.id ≡ k = eqb-true x.id k test in
    subst (λ (j : ℕ). session_of xs j ≡ Some x) (sym same) h

is_there : (o : Option Session) (x : Session) → o ≡ Some x → IsSome o
is_there None x h = absurd (cc)
is_there (Some y) x h = refl

session_there : (s : State) (handle : List ℕ) (m : Machine) (o : Option Session) (d : DrainDecision) → session_of s.sessions m.id ≡ o
    → drain_session s handle m o ≡ Some d → IsSome (session_of s.sessions d.session.id)
session_there s handle m None d is h = absurd (cc)
session_there s handle m (Some x) d is h =
    let parts = some_if (is_drained s handle x) (session_drained s m x) d h in
    let id_is : x.id ≡ d.session.id = ap (λ (e : DrainDecision). e.session.id) parts.1 in
    subst (λ (k : ℕ). IsSome (session_of s.sessions k)) id_is (is_there (session_of s.sessions x.id) x (own_session s.sessions m.id x is))

machine_there : (s : State) (handle : List ℕ) (o : Option Machine) (d : DrainDecision) → drain_machine s handle o ≡ Some d → IsSome (session_of s.sessions d.session.id)
machine_there s handle None d h = absurd (cc)
machine_there s handle (Some m) d h = session_there s handle m (session_of s.sessions m.id) d refl h

-- the session that is drained is one that there is
pub session_found : (s : State) (mk : MachineKey) (handle : List ℕ) (o : Option DrainDecision) → o ≡ drain s mk handle
    → IfSome o (λ d. IsSome (session_of s.sessions d.session.id))
session_found s mk handle None h = tt
session_found s mk handle (Some d) h = machine_there s handle (if_live s (machine_of s.rows.machines mk.0)) d (sym h)

sent_by : (s : State) (handle : List ℕ) (m : Machine) (o : Option Session) (d : DrainDecision) → drain_session s handle m o ≡ Some d → d.session.sent ≡ Some (fresh_for s m)
sent_by s handle m None d h = absurd (cc)
sent_by s handle m (Some x) d h =
    let parts = some_if (is_drained s handle x) (session_drained s m x) d h in
    sym (ap (λ (e : DrainDecision). e.session.sent) parts.1)

sent_of : (s : State) (handle : List ℕ) (o : Option Machine) (d : DrainDecision) → drain_machine s handle o ≡ Some d
    → (m : Machine) × (o ≡ Some m) × (d.session.sent ≡ Some (fresh_for s m))
sent_of s handle None d h = absurd (cc)
sent_of s handle (Some m) d h = (m, refl, sent_by s handle m (session_of s.sessions m.id) d h)

-- what a drain sends is the map of a live machine, computed afresh
pub sent_fresh : (s : State) (mk : MachineKey) (handle : List ℕ) (d : DrainDecision) → drain s mk handle ≡ Some d
    → (m : Machine) × IsLiveRow s m × (d.session.sent ≡ Some (fresh_for s m))
sent_fresh s mk handle d h =
    let sent = sent_of s handle (if_live s (machine_of s.rows.machines mk.0)) d h in
    (sent.0, live_row s mk sent.0 sent.1, sent.2)
