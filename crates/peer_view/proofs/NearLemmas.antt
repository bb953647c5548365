-- What stands at the place that is looked at first.
use Rattle.std.proofs.Common.{◌≡◌, ◌==◌, ◌<◌, ℕ, true, List, length, get_or, arith, ap, sym, ◌∙◌}
use Rattle.std.specs.Ordering.{nat_cmp}
use Rattle.std.specs.declared.cmp.Ordering.TheVariants.{Equal}
use Rattle.std.proofs.lemmas.Bool.{eqb-true}
use Rattle.std.proofs.lemmas.Bool.Decides.{nat_tests}
use Rattle.std.proofs.lemmas.List.{get_or_default}
use Rattle.net_rows.specs.Shelf.{IsAscending, StandsAt}
use Rattle.net_rows.proofs.ShelfLemmas.{stands_at}

compared : (m k : ℕ) → m ≡ k → nat_cmp m k ≡ Equal
compared m k h = grind (arith, nat_tests)

-- one whose id it is stands there
pub stands_here : {T : Type 0} (id : T → ℕ) (xs : List T) (k i : ℕ) (x : T) → IsAscending id xs → i < length xs → x ≡ get_or xs i x → (id x == k) ≡ true → StandsAt id xs k i
stands_here {T} id xs k i x h inside is same =
    let has : id x ≡ k = eqb-true (id x) k same in
    stands_at id xs k i h inside (λ d. compared (id (get_or xs i d)) k (ap id (sym (is ∙ get_or_default xs i x d inside)) ∙ has))
