-- The ends without the machines: each other end has one of them that stands for it.
use Rattle.std.proofs.Common.{◌≡◌, Bool, true, List, [], ◌∷◌, ◌⊎◌, inl, inr, refl, sym, subst, ℕ}
use Rattle.std.specs.Prelude.{Contains, filter, flat_map}
use Rattle.std.specs.List.{list_any}
use Rattle.std.proofs.lemmas.Bool.{cases_Bool}
use Rattle.std.proofs.lemmas.List.Elements.{Contains-append_cases, Contains-append_left, Contains-append_right}
use Rattle.tail_base.proofs.Bools.{same_tests}
use Rattle.net_rows.proofs.Members.{cut_member, first_member, list_any_found, list_any_is, no_member, rest_member}
use Rattle.policy_rows.specs.Named.{members_of}
use Rattle.policy_rows.specs.declared.group.Group.{Group}
use Rattle.policy_rows.specs.declared.selector.Selector.{Selector}
use Rattle.policy_rows.specs.declared.selector.Selector.TheVariants as sel
use Rattle.policy_sites.specs.Covers.{joins_own}
use Rattle.policy_sites.specs.declared.end.End.{End}
use Rattle.policy_sites.specs.declared.site.Site.{Site}
use Rattle.policy_tests.specs.Lasting.{StandsFor}
use Rattle.policy_tests.specs.TestEnds.{ends_of, has_tag, is_users, site_ends, tag_ends, tag_phantom, user_ends, user_phantom}
use Rattle.policy_tests.specs.Trials.{core_of}
use Rattle.policy_tests.proofs.PhantomLemmas.{own_back}

-- ---- elements

pub flat_member : {X A : Type 0} (f : X → List A) (xs : List X) (a : A) → Contains (flat_map f xs) a → (x : X) × Contains xs x × Contains (f x) a
flat_member f [] a m = absurd (no_member a m)
flat_member f (x ∷ xs) a m =
    elim (Contains-append_cases (f x) (flat_map f xs) a m) [
      | inl here ↦ (x, first_member x xs, here)
      | inr more ↦ let rest = flat_member f xs a more in (rest.0, rest_member x xs rest.0 rest.1, rest.2)
    ]

pub member_flat : {X A : Type 0} (f : X → List A) (xs : List X) (x : X) (a : A) → Contains xs x → Contains (f x) a → Contains (flat_map f xs) a
member_flat f [] x a m h = absurd (no_member x m)
member_flat {X} {A} f (y ∷ ys) x a m h =
    elim (cut_member y ys x m) [
      | inl e ↦ Contains-append_left (f y) (flat_map f ys) a (subst (λ (z : X). Contains (f z) a) e h)
      | inr r ↦ Contains-append_right (f y) (flat_map f ys) a (member_flat f ys x a r h)
    ]

pub kept_passes : {A : Type 0} (test : A → Bool) (xs : List A) (a : A) → Contains (filter test xs) a → test a ≡ true
kept_passes test [] a m = absurd (no_member a m)
kept_passes {A} test (x ∷ xs) a m =
    elim (cases_Bool (test x)) [
      | inl passes ↦ elim (cut_member x (filter test xs) a (rw passes at m)) [
        | inl e ↦ subst (λ (z : A). test z ≡ true) (sym e) passes
        | inr r ↦ kept_passes test xs a r
      ]
      | inr fails ↦ kept_passes test xs a (rw fails at m)
    ]

-- ---- an end that stands for another

-- one of these is the end, or stands for it
abbrev pub IsBacked : List End → End → Type 0
IsBacked core e = (p : End) × Contains core p × ((p ≡ e) ⊎ StandsFor p e)

user_backed : (sites : List Site) (login : List ℕ) (e : End) → Contains (user_ends sites login) e → (user_phantom login ≡ e) ⊎ StandsFor (user_phantom login) e
user_backed sites login e m =
    elim (Contains-append_cases (flat_map site_ends (filter (is_users login) sites)) (user_phantom login ∷ []) e m) [
      | inl of_machine ↦
          let at = flat_member site_ends (filter (is_users login) sites) e of_machine in
          inr (inl (record { login = login; m = at.0; phantom = refl; own = kept_passes (is_users login) sites at.0 at.1; end = at.2 }))
      | inr last ↦ elim (cut_member (user_phantom login) [] e last) [ inl same ↦ inl (sym same) | inr none ↦ absurd (no_member e none) ]
    ]

tag_backed : (sites : List Site) (tag : List ℕ) (e : End) → Contains (tag_ends sites tag) e → (tag_phantom tag ≡ e) ⊎ StandsFor (tag_phantom tag) e
tag_backed sites tag e m =
    elim (Contains-append_cases (flat_map site_ends (filter (has_tag tag) sites)) (tag_phantom tag ∷ []) e m) [
      | inl of_machine ↦
          let at = flat_member site_ends (filter (has_tag tag) sites) e of_machine in
          inr (inr (record { tag = tag; m = at.0; phantom = refl; tagged = kept_passes (has_tag tag) sites at.0 at.1; end = at.2 }))
      | inr last ↦ elim (cut_member (tag_phantom tag) [] e last) [ inl same ↦ inl (sym same) | inr none ↦ absurd (no_member e none) ]
    ]

-- a user's phantom is among those of users
phantom_inside : (sites : List Site) (logins : List (List ℕ)) (login : List ℕ) → Contains logins login → Contains (flat_map (user_ends sites) logins) (user_phantom login)
phantom_inside sites logins login m =
    member_flat (user_ends sites) logins login (user_phantom login) m
    (Contains-append_right (flat_map site_ends (filter (is_users login) sites)) (user_phantom login ∷ []) (user_phantom login) (first_member (user_phantom login) []))

pub core_backs : (groups : List Group) (sites : List Site) (selector : Selector) (e : End) → Contains (ends_of groups sites selector) e → IsBacked (core_of groups sites selector) e
core_backs groups sites (sel.User login) e m = (user_phantom login, first_member (user_phantom login) [], user_backed sites login e m)
core_backs groups sites (sel.Group name) e m =
    let at = flat_member (user_ends sites) (members_of groups name) e m in
    (user_phantom at.0, phantom_inside [] (members_of groups name) at.0 at.1, user_backed sites at.0 e at.2)
core_backs groups sites (sel.Tagged tag) e m = (tag_phantom tag, first_member (tag_phantom tag) [], tag_backed sites tag e m)
core_backs groups sites (sel.Net net) e m = (e, m, inl refl)
core_backs groups sites sel.All e m = absurd (no_member e m)
core_backs groups sites sel.Member e m = absurd (no_member e m)
core_backs groups sites sel.AllTagged e m = absurd (no_member e m)
core_backs groups sites sel.Internet e m = absurd (no_member e m)
core_backs groups sites sel.OwnDevices e m = absurd (no_member e m)

only_one : (x e : End) (xs : List End) → Contains (x ∷ []) e → Contains xs x → Contains xs e
only_one x e xs m inside = elim (cut_member x [] e m) [ inl same ↦ subst (λ (z : End). Contains xs z) (sym same) inside | inr none ↦ absurd (no_member e none) ]

pub core_inside : (groups : List Group) (sites : List Site) (selector : Selector) (e : End) → Contains (core_of groups sites selector) e → Contains (ends_of groups sites selector) e
core_inside groups sites (sel.User login) e m =
    only_one (user_phantom login) e (user_ends sites login) m
    (Contains-append_right (flat_map site_ends (filter (is_users login) sites)) (user_phantom login ∷ []) (user_phantom login) (first_member (user_phantom login) []))
core_inside groups sites (sel.Group name) e m =
    let at = flat_member (user_ends []) (members_of groups name) e m in
    only_one (user_phantom at.0) e (flat_map (user_ends sites) (members_of groups name)) at.2 (phantom_inside sites (members_of groups name) at.0 at.1)
core_inside groups sites (sel.Tagged tag) e m =
    only_one (tag_phantom tag) e (tag_ends sites tag) m
    (Contains-append_right (flat_map site_ends (filter (has_tag tag) sites)) (tag_phantom tag ∷ []) (tag_phantom tag) (first_member (tag_phantom tag) []))
core_inside groups sites (sel.Net net) e m = m
core_inside groups sites sel.All e m = m
core_inside groups sites sel.Member e m = m
core_inside groups sites sel.AllTagged e m = m
core_inside groups sites sel.Internet e m = m
core_inside groups sites sel.OwnDevices e m = m

-- whom `autogroup:self` joins with some end it joins with one of those without machines
pub own_by_core : (groups : List Group) (sites : List Site) (selector : Selector) (s : End) → list_any (joins_own s) (core_of groups sites selector) ≡ list_any (joins_own s) (ends_of groups sites selector)
own_by_core groups sites selector s =
    same_tests (list_any (joins_own s) (core_of groups sites selector)) (list_any (joins_own s) (ends_of groups sites selector))
    (λ h. let at = list_any_found (joins_own s) (core_of groups sites selector) h in
    list_any_is (joins_own s) (ends_of groups sites selector) at.0 (core_inside groups sites selector at.0 at.1) at.2)
    (λ h. let at = list_any_found (joins_own s) (ends_of groups sites selector) h in
    let back = core_backs groups sites selector at.0 at.1 in
    let passes : joins_own s back.0 ≡ true = elim back.2 [
      | inl same ↦ subst (λ (z : End). joins_own s z ≡ true) (sym same) at.2
      | inr stands ↦ own_back back.0 at.0 s stands at.2
    ] in
    list_any_is (joins_own s) (core_of groups sites selector) back.0 back.1 passes)
