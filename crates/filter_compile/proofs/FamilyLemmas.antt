-- In tables that keep their rules each live machine has an address of each family.
use Rattle.std.proofs.Common.{◌≡◌, ℕ, List, [], ◌∷◌, arith, sym, inl, inr, subst}
use Rattle.std.specs.Prelude.{Contains, Option, None, filter, map}
use Rattle.std.proofs.lemmas.Bool.{cases_Bool}
use Rattle.net_addr.specs.Tailnet.{tailnet_v4, tailnet_v6}
use Rattle.net_addr.proofs.BlockLemmas.{holds_parts}
use Rattle.net_rows.specs.Damage.{damage}
use Rattle.net_rows.specs.Sound.{MachineKeeps}
use Rattle.net_rows.specs.declared.machine.Machine.{Machine}
use Rattle.net_rows.specs.declared.rows.Rows.{Rows}
use Rattle.net_rows.specs.declared.user.User.{User}
use Rattle.net_rows.proofs.Members.{cut_member, first_member, no_member, rest_member}
use Rattle.net_rows.proofs.Sounds.{sound_of}
use Rattle.policy_rows.specs.declared.policy.Policy.{Policy}
use Rattle.policy_sites.specs.Sites.{is_among, site_of, sites_of}
use Rattle.policy_sites.specs.declared.site.Site.{Site}
use Rattle.filter_compile.specs.Unrestricted.{HasBothFamilies}

families_at : (policy : Option Policy) (users : List User) (r : Machine) → MachineKeeps users r → HasBothFamilies (site_of policy users r)
families_at policy users r k =
    let p = holds_parts tailnet_v4 r.v4 k.v4 in
    let q = holds_parts tailnet_v6 r.v6 k.v6 in
    let low = p.2 in
    let high = q.2 in
    record { v4 = sym p.0; v4_small = omega arith; v6 = sym q.0; v6_small = omega arith }

-- the machine whose site it is
machine_in : (policy : Option Policy) (users : List User) (live : List ℕ) (machines : List Machine) (m : Site) → Contains (map (site_of policy users) (filter (is_among live) machines)) m
    → (r : Machine) × Contains machines r × (site_of policy users r ≡ m)
machine_in policy users live [] m h = absurd (no_member m h)
machine_in policy users live (r ∷ rs) m h =
    elim (cases_Bool (is_among live r)) [
      | inl there ↦ elim (cut_member (site_of policy users r) (map (site_of policy users) (filter (is_among live) rs)) m (rw there at h)) [
        | inl e ↦ (r, first_member r rs, sym e)
        | inr more ↦ let w = machine_in policy users live rs m more in (w.0, rest_member r rs w.0 w.1, w.2)
      ]
      | inr away ↦ let w = machine_in policy users live rs m (rw away at h) in (w.0, rest_member r rs w.0 w.1, w.2)
    ]

pub families : (policy : Option Policy) (rows : Rows) (live : List ℕ) (m : Site) → damage rows ≡ None → Contains (sites_of policy rows live) m → HasBothFamilies m
families policy rows live m sound h =
    let w = machine_in policy rows.users live rows.machines m h in
    subst (λ (s : Site). HasBothFamilies s) w.2 (families_at policy rows.users w.0 ((sound_of rows sound).machines.keeps w.0 w.1))
