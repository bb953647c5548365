-- Decisions on the routes of machines are sound.
use Rattle.std.proofs.Common.{◌≡◌, ◌≤◌, ℕ, Bool, true, List, [], ◌∷◌, Ok, arith, inl, inr, refl, ap, subst, length}
use Rattle.std.specs.Prelude.{Contains, filter}
use Rattle.std.specs.Cmp.Lexicographic.{pointwise}
use Rattle.std.proofs.lemmas.Bool.{cases_Bool, both_ways}
use Rattle.tail_base.proofs.SortedLemmas.{length-sorted_once}
use Rattle.tailcfg.specs.declared.limits.TheConstants.{ROUTE_LIMIT}
use Rattle.net_addr.specs.Bits.{Block}
use Rattle.net_addr.specs.Routes.{route_cmp}
use Rattle.net_rows.specs.Rows.{machine_with}
use Rattle.net_rows.specs.Sound.{AreSound}
use Rattle.net_rows.specs.declared.machine.Machine.{Machine}
use Rattle.desk_state.specs.Decisions.{IsPlain}
use Rattle.desk_state.specs.State.{State}
use Rattle.desk_state.specs.declared.refusal.Refusal.TheVariants.{UnknownMachine}
use Rattle.desk_state.proofs.Proper.{proper_bind, proper_choice, proper_none, proper_or}
use Rattle.desk_state.specs.Same.{prefix_eq}
use Rattle.desk_state.proofs.Sameness.{routes_is}
use Rattle.admin_asks.specs.Nodes.{same_node}
use Rattle.admin_asks.specs.Routes.{is_chosen, kept_routes, routed_node, routes_approvable, set_routes}
use Rattle.admin_asks.proofs.NamedLaws.{row_there}
use Rattle.admin_asks.proofs.NodeLaws.{changed_proper, own_name}

-- no more routes are kept than are advertised
length-filter : {T : Type 0} (test : T → Bool) (xs : List T) → length (filter test xs) ≤ length xs
length-filter test [] = omega arith
length-filter test (x ∷ xs) =
    let rest = length-filter test xs in
    elim (cases_Bool (test x)) [ inl passes ↦ rw passes (omega arith) | inr fails ↦ rw fails (omega arith) ]

kept_short : (advertised given : List Block) → length advertised ≤ ROUTE_LIMIT → length (kept_routes advertised given) ≤ ROUTE_LIMIT
kept_short advertised given short =
    let sorted : length (kept_routes advertised given) ≤ length (filter (is_chosen given) advertised) = length-sorted_once route_cmp (filter (is_chosen given) advertised) in
    let chosen = length-filter (is_chosen given) advertised in
    omega (arith, short, sorted, chosen)

-- other approvals
routed_proper : (s : State) (m : Machine) (routes : List Block) → AreSound s.rows → Contains s.rows.machines m → length routes ≤ ROUTE_LIMIT
    → IsPlain s.rows (Ok (routed_node s m routes))
routed_proper s m routes sound inside short =
    proper_choice s.rows (pointwise prefix_eq m.approved routes) _ _ (λ _. proper_none s.rows (same_node s m) refl refl) (λ other.
    changed_proper s m m.name m.tags routes m.expiry sound inside (own_name s.rows m sound inside) ((sound.machines.keeps m inside).tags, short) (λ e.
    both_ways (pointwise prefix_eq m.approved routes) other
    (subst (λ (held : List Block). pointwise prefix_eq held routes ≡ true) (ap (λ (x : Machine). x.approved) e) (routes_is routes))))

pub set_routes_proper : (s : State) (id : ℕ) (routes : List Block) → AreSound s.rows → IsPlain s.rows (set_routes s id routes)
set_routes_proper s id routes sound =
    let t = s.rows in
    proper_or t UnknownMachine (machine_with t.machines id) _ (λ (m : Machine) found.
    let inside = row_there (λ (x : Machine). x.id) t.machines id m found in
    proper_bind t (routes_approvable m.routes routes) _ (λ _ _.
    routed_proper s m (kept_routes m.routes routes) sound inside
    (kept_short m.routes routes (sound.machines.keeps m inside).routes)))
