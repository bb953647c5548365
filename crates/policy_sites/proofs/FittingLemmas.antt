-- Sites that were made earlier, and machines.
use Rattle.std.proofs.Common.{◌≡◌, ◌==◌, ℕ, true, false, List, [], ◌∷◌, ◌+◌, ◌<◌, length, add-one, arith, drop, drop-cons, get_or, ap, sym, subst, ◌∙◌, refl}
use Rattle.std.specs.Prelude.{Option, Some, None, filter}
use Rattle.std.specs.Cmp.Lexicographic.{pointwise}
use Rattle.std.specs.Str.{bytes_eq}
use Rattle.std.proofs.lemmas.Bool.{and_parts, eqb-true}
use Rattle.net_addr.specs.Bits.{Block}
use Rattle.net_rows.proofs.Members.{first_member, rest_member}
use Rattle.net_rows.specs.Damage.{address_eq}
use Rattle.net_rows.specs.Rows.{user_with}
use Rattle.net_rows.specs.declared.machine.Machine.{Machine}
use Rattle.net_rows.specs.declared.rows.Rows.{Rows}
use Rattle.net_rows.specs.declared.user.User.{User}
use Rattle.net_rows.proofs.Stands.{address_of}
use Rattle.tail_base.proofs.Bools.{all4, bytes_eq-true}
use Rattle.policy_rows.specs.declared.policy.Policy.{Policy}
use Rattle.policy_sites.specs.Approvals.{approved_of, is_exit}
use Rattle.policy_sites.specs.Exits.{route_eq}
use Rattle.policy_sites.specs.Owners.{login_or_empty}
use Rattle.policy_sites.specs.Fitting.{AreApproved, IsApproved, IsBehind, has_login_of, live_sites, same_place, same_routes, same_site}
use Rattle.policy_sites.specs.Sites.{is_among, site_of, sites_of}
use Rattle.policy_sites.specs.declared.site.Site.{Site}
use Rattle.policy_sites.proofs.SiteLemmas.{map_member}

tags_same : (xs ys : List (List ℕ)) → pointwise bytes_eq xs ys ≡ true → xs ≡ ys
tags_same [] [] h = refl
tags_same [] (y ∷ ys) h = absurd (cc)
tags_same (x ∷ xs) [] h = absurd (cc)
tags_same (x ∷ xs) (y ∷ ys) h =
    let passes = and_parts (bytes_eq x y) (pointwise bytes_eq xs ys) h in
    let first : x ≡ y = bytes_eq-true x y passes.0 in
    let rest : xs ≡ ys = tags_same xs ys passes.1 in
    cc

login_same : (login : List ℕ) (o : Option User) → has_login_of login o ≡ true → login ≡ login_or_empty o
login_same [] None h = refl
login_same (x ∷ xs) None h = let empty : length (x ∷ xs) ≡ 0 = eqb-true (length (x ∷ xs)) 0 h in absurd (omega arith)
login_same login (Some user) h = bytes_eq-true login user.login h

route_same : (p q : Block) → route_eq p q ≡ true → p ≡ q
route_same p q h =
    let parts = and_parts (address_eq p.base q.base) (p.len == q.len) h in
    let base = address_of p.base q.base parts.0 in
    let len : p.len ≡ q.len = eqb-true p.len q.len parts.1 in
    λ i. record { base = base i; len = len i }

routes_same : (xs ys : List Block) → pointwise route_eq xs ys ≡ true → xs ≡ ys
routes_same [] [] h = refl
routes_same [] (y ∷ ys) h = absurd (cc)
routes_same (x ∷ xs) [] h = absurd (cc)
routes_same (x ∷ xs) (y ∷ ys) h =
    let passes = and_parts (route_eq x y) (pointwise route_eq xs ys) h in
    let first = route_same x y passes.0 in
    let rest = routes_same xs ys passes.1 in
    λ i. first i ∷ rest i

-- a site of which the policy approves what it says, and that passes the test, is the machine's
pub site_same : (policy : Option Policy) (users : List User) (s : Site) (m : Machine) → IsApproved policy s → same_site users s m ≡ true → s ≡ site_of policy users m
site_same policy users s m told h =
    let parts = all4 (same_place s m) (has_login_of s.login (user_with users m.user)) (pointwise bytes_eq s.tags m.tags) (same_routes s m) h in
    let place = all4 (s.id == m.id) (s.user == m.user) (address_eq s.v4 m.v4) (address_eq s.v6 m.v6) parts.0 in
    let offers = and_parts (pointwise route_eq s.routes m.routes) (pointwise route_eq s.by_operator m.approved) parts.3 in
    let id : s.id ≡ m.id = eqb-true s.id m.id place.0 in
    let user : s.user ≡ m.user = eqb-true s.user m.user place.1 in
    let v4 = address_of s.v4 m.v4 place.2 in
    let v6 = address_of s.v6 m.v6 place.3 in
    let login = login_same s.login (user_with users m.user) parts.1 in
    let tags = tags_same s.tags m.tags parts.2 in
    let routes = routes_same s.routes m.routes offers.0 in
    let by_operator = routes_same s.by_operator m.approved offers.1 in
    let approved = told.approved m tags routes by_operator ∙ (λ i. approved_of policy (login i) m) in
    let exit = told.exit m tags routes by_operator ∙ (λ i. is_exit policy (login i) m) in
    λ i. record {
      id = id i;
      user = user i;
      login = login i;
      v4 = v4 i;
      v6 = v6 i;
      tags = tags i;
      routes = routes i;
      by_operator = by_operator i;
      approved = approved i;
      exit = exit i;
    }

-- what a policy approves of a machine depends on nothing but its login, tags and routes
approved_by : (policy : Option Policy) (login : List ℕ) (k m : Machine) → k.tags ≡ m.tags → k.routes ≡ m.routes → k.approved ≡ m.approved
    → approved_of policy login k ≡ approved_of policy login m
approved_by None login k m tags routes by_operator = λ i. approved_of None login (record m { tags = tags i; routes = routes i; approved = by_operator i })
approved_by (Some policy) login k m tags routes by_operator =
    λ i. approved_of (Some policy) login (record m { tags = tags i; routes = routes i; approved = by_operator i })

exit_by : (policy : Option Policy) (login : List ℕ) (k m : Machine) → k.tags ≡ m.tags → k.routes ≡ m.routes → k.approved ≡ m.approved
    → is_exit policy login k ≡ is_exit policy login m
exit_by None login k m tags routes by_operator = λ i. is_exit None login (record m { tags = tags i; routes = routes i; approved = by_operator i })
exit_by (Some policy) login k m tags routes by_operator =
    λ i. is_exit (Some policy) login (record m { tags = tags i; routes = routes i; approved = by_operator i })

-- so it approves what the sites say that are made under it
pub made_approved : (policy : Option Policy) (users : List User) (k : Machine) → IsApproved policy (site_of policy users k)
made_approved policy users k = record {
  approved = λ m tags routes by_operator. approved_by policy (site_of policy users k).login k m tags routes by_operator;
  exit = λ m tags routes by_operator. exit_by policy (site_of policy users k).login k m tags routes by_operator;
}

pub sites_approved : (policy : Option Policy) (rows : Rows) (live : List ℕ) → AreApproved policy (sites_of policy rows live)
sites_approved policy rows live s inside =
    let made = map_member (site_of policy rows.users) (filter (is_among live) rows.machines) s inside in
    subst (λ (z : Site). IsApproved policy z) made.2 (made_approved policy rows.users made.0)

dead_passed : (policy : Option Policy) (users : List User) (live : List ℕ) (m : Machine) (more : List Machine) → is_among live m ≡ false
    → live_sites policy users live (m ∷ more) ≡ live_sites policy users live more
dead_passed policy users live m more fails = rw fails refl

live_taken : (policy : Option Policy) (users : List User) (live : List ℕ) (m : Machine) (more : List Machine) → is_among live m ≡ true
    → live_sites policy users live (m ∷ more) ≡ site_of policy users m ∷ live_sites policy users live more
live_taken policy users live m more passes = rw passes refl

rest_approved : (policy : Option Policy) (site : Site) (rest sites : List Site) → sites ≡ site ∷ rest → AreApproved policy sites → AreApproved policy (site ∷ rest)
rest_approved policy site rest sites front told = subst (λ (ss : List Site). AreApproved policy ss) front told

-- the sites are those of the machine and of the machines behind
pub behind_same : (users : List User) (live : List ℕ) (m : Machine) (sites : List Site) (site : Site) (rest : List Site) → is_among live m ≡ true → sites ≡ site ∷ rest → same_site users site m ≡ true
    → IsBehind users live m sites rest
behind_same users live m sites site rest passes front same = record {
  approved = λ policy told s inside. rest_approved policy site rest sites front told s (rest_member site rest s inside);
  fits = λ policy more told behind.
      let here = site_same policy users site m (rest_approved policy site rest sites front told site (first_member site rest)) same in
      front ∙ ((λ i. here i ∷ behind i) ∙ sym (live_taken policy users live m more passes));
}

pub behind_dead : (users : List User) (live : List ℕ) (m : Machine) (sites : List Site) → is_among live m ≡ false → IsBehind users live m sites sites
behind_dead users live m sites fails = record {
  approved = λ policy told. told;
  fits = λ policy more told behind. behind ∙ sym (dead_passed policy users live m more fails);
}

-- Of the sites to come the policy approves what they say, and if they are those of the machines to come, then all are
-- those of all.
pub record AreUpTo (policy : Option Policy) (users : List User) (live : List ℕ) (machines : List Machine) (i : ℕ) (all rest : List Site) : Type 0 where
  pub approved : AreApproved policy rest
  pub fits : rest ≡ live_sites policy users live (drop i machines) → all ≡ live_sites policy users live machines

-- one machine more was looked at
pub sites_go_on : (policy : Option Policy) (users : List User) (live : List ℕ) (machines : List Machine) (i : ℕ) (m : Machine) (all rest behind : List Site) → i < length machines → m ≡ get_or machines i m
    → AreUpTo policy users live machines i all rest → IsBehind users live m rest behind → AreUpTo policy users live machines (i + 1) all behind
sites_go_on policy users live machines i m all rest behind lt is told step =
    let front : drop i machines ≡ get_or machines i m ∷ drop (i + 1) machines = rw (add-one, drop-cons machines i m) refl in
    let cut : drop i machines ≡ m ∷ drop (i + 1) machines = front ∙ ap (λ (z : Machine). z ∷ drop (i + 1) machines) (sym is) in
    record {
      approved = step.approved policy told.approved;
      fits = λ here. told.fits (step.fits policy (drop (i + 1) machines) told.approved here ∙ ap (live_sites policy users live) (sym cut));
    }
