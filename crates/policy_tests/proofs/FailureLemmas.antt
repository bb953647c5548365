-- Where no entry fails, each accept entry passes, and goes on to.
use Rattle.std.proofs.Common.{◌≡◌, ◌+◌, ℕ, Bool, true, false, not, List, [], ◌∷◌, inl, inr, refl, sym, subst, ◌∙◌}
use Rattle.std.specs.Prelude.{Contains, Option, Some, None}
use Rattle.std.specs.List.{position_from}
use Rattle.std.specs.Option.{option_map}
use Rattle.std.proofs.lemmas.Bool.{cases_Bool}
use Rattle.tail_base.proofs.Bools.{option_or-none}
use Rattle.net_rows.proofs.Members.{cut_member, no_member}
use Rattle.policy_rows.specs.declared.dest.Dest.{Dest}
use Rattle.policy_rows.specs.declared.policy.Policy.{Policy}
use Rattle.policy_rows.specs.declared.test.Test.{Test}
use Rattle.net_rows.specs.declared.rows.Rows.{Rows}
use Rattle.policy_eval.specs.Expansion.{Expansion, expansion_of}
use Rattle.policy_sites.specs.Sites.{sites_of}
use Rattle.policy_sites.specs.declared.site.Site.{Site}
use Rattle.policy_tests.specs.Trials.{accepted_by, denied_by}
use Rattle.policy_tests.specs.Lasting.{AcceptsLast}
use Rattle.policy_tests.specs.Tests.{entry_failure, failure_from, first_failure, is_accepted, is_denied, test_failure}
use Rattle.policy_tests.specs.declared.failure.TestFailure.{TestFailure}
use Rattle.policy_tests.proofs.AcceptLemmas.{by_phantoms}

map_none : {A B : Type 0} (f : A → B) (o : Option A) → option_map f o ≡ None → o ≡ None
map_none f None h = refl
map_none f (Some x) h = absurd (cc)

entries_pass : (passes : Dest → Bool) (at : ℕ) (entries : List Dest) → position_from (λ e. not (passes e)) at entries ≡ None → (e : Dest) → Contains entries e → passes e ≡ true
entries_pass passes at [] h e m = absurd (no_member e m)
entries_pass passes at (x ∷ xs) h e m =
    elim (cases_Bool (passes x)) [
      | inl good ↦ elim (cut_member x xs e m) [
        | inl same ↦ subst (λ (z : Dest). passes z ≡ true) (sym same) good
        | inr more ↦ entries_pass passes (at + 1) xs (rw good at h) e more
      ]
      | inr bad ↦ let clash : Some at ≡ None = rw bad at h in absurd (cc)
    ]

accepts_pass : (accepted denied : Test → Dest → Bool) (at : ℕ) (tests : List Test) → failure_from accepted denied at tests ≡ None → (t : Test) (e : Dest) → Contains tests t → Contains t.accept e → accepted t e ≡ true
accepts_pass accepted denied at [] h t e mt me = absurd (no_member t mt)
accepts_pass accepted denied at (x ∷ xs) h t e mt me =
    let parts = option_or-none (test_failure accepted denied at x) (failure_from accepted denied (at + 1) xs) h in
    elim (cut_member x xs t mt) [
      | inl same ↦
          let lists = option_or-none (entry_failure at true (accepted x) x.accept) (entry_failure at false (denied x) x.deny) parts.0 in
          let none = map_none (λ index. record { test = at; accept = true; index = index }) (position_from (λ y. not (accepted x y)) 0 x.accept) lists.0 in
          let inside : Contains x.accept e = subst (λ (z : Test). Contains z.accept e) same me in
          subst (λ (z : Test). accepted z e ≡ true) (sym same) (entries_pass (accepted x) 0 x.accept none e inside)
      | inr more ↦ accepts_pass accepted denied (at + 1) xs parts.1 t e more me
    ]

pub accepts_last : (policy : Policy) (sites : List Site) → first_failure policy sites ≡ None → AcceptsLast policy
accepts_last policy sites h others t e mt me lasting =
    by_phantoms policy others t e lasting
    ∙ (sym (by_phantoms policy sites t e lasting) ∙ accepts_pass (is_accepted policy sites) (is_denied policy sites) 0 policy.tests h t e mt me)

-- the same of what the code has at hand
pub first_is : (policy : Policy) (rows : Rows) (live : List ℕ) (x : Expansion) (tests : List Test) (failure : Option TestFailure) → x ≡ expansion_of (Some policy) rows live → tests ≡ policy.tests
    → failure ≡ failure_from (accepted_by x.groups x.rules x.sites) (denied_by x.groups x.rules x.sites) 0 tests → failure ≡ first_failure policy (sites_of (Some policy) rows live)
first_is policy rows live x tests failure whole all told =
    told ∙ (λ i. failure_from (accepted_by (whole i).groups (whole i).rules (whole i).sites) (denied_by (whole i).groups (whole i).rules (whole i).sites) 0 (all i))
