-- The canonical list has the greatest prefixes of a set, all of them, in order.
use Rattle.std.proofs.Common.{◌≡◌, ℕ, zero, suc, ◌+◌, ◌-◌, ◌*◌, ◌%◌, ◌^◌, ◌<◌, ◌≤◌, Bool, true, false, cond, List, [], ◌∷◌, ◌++◌, arith, refl, ap, sym, ◌∙◌, subst, inl, inr}
use Rattle.std.specs.List.{AllByRecursion, Contains}
use Rattle.std.proofs.lemmas.Bool.{and_from, both_ways, cases_eq, cases_lt, false≢true, le-leb, or_cases, or_left, or_right}
use Rattle.std.proofs.lemmas.List.Elements.{All-contains, All-from_recursion, Contains-append_left, Contains-append_right}
use Rattle.std.proofs.lemmas.List.Folds.{list_any-append}
use Rattle.std.proofs.Math.Nat.{two-pow-succ}
use Rattle.std.proofs.lemmas.Nat.{mod-mul-add, pow_pos}
use Rattle.tail_base.proofs.Bools.{beq-from, same_tests}
use Rattle.net_addr.specs.Bits.{Address, Block, IsBlock, family_bits, family_size, size_of}
use Rattle.net_addr.specs.Blocks.{holds, last_of}
use Rattle.net_addr.proofs.BlockLemmas.{family_is, holds_parts, prefix_fits}
use Rattle.range_sets.specs.Canonical.{IsCanonical, IsGreatest, all_in, block_at, canonical, greatest_in, parent}
use Rattle.range_sets.specs.Sets.{some_holds}
use Rattle.range_sets.proofs.GreatestLemmas.{all_at, all_false, all_from, greatest_same, some_false}
use Rattle.range_sets.proofs.MultipleLemmas.{IsMultiple, floor_above, floor_is, mod_of_multiple, multiple_add, multiple_from_mod, multiple_lower, multiple_next}
use Rattle.range_sets.proofs.OrderLemmas.{AreOrdered, IsBefore, all_append, all_map, before_by_base, ordered_append, pairs_from_ordered}

-- A prefix of 2 ^ bits numbers among the 2 ^ n from base on, all of which pass, while some number of
-- the prefix twice as large doesn't, if that is among them.
pub record Listed (v6 : Bool) (h : ℕ → Bool) (n base : ℕ) (p : Block) : Type 0 where
  pub bits : ℕ
  pub at : ℕ
  pub is : p ≡ block_at v6 bits at
  pub small : bits ≤ n
  pub from : base ≤ at
  pub to : at + 2 ^ bits ≤ base + 2 ^ n
  pub aligned : IsMultiple (2 ^ bits) at
  pub inside : all_in h bits at ≡ true
  pub greatest : bits < n → all_in h (suc bits) (at - at % 2 ^ suc bits) ≡ false

pub power_multiple : (m n : ℕ) → m ≤ n → IsMultiple (2 ^ m) (2 ^ n)
power_multiple m n le = multiple_lower m n (2 ^ n) le (record { times = 1; is = omega arith })

-- ---- what is listed

whole_listed : (v6 : Bool) (h : ℕ → Bool) (n base : ℕ) → IsMultiple (2 ^ n) base → all_in h n base ≡ true → Listed v6 h n base (block_at v6 n base)
whole_listed v6 h n base m e = record {
  bits = n;
  at = base;
  is = refl;
  small = omega arith;
  from = omega arith;
  to = omega arith;
  aligned = m;
  inside = e;
  greatest = λ lt. absurd (omega arith);
}

parent_of_half : (h : ℕ → Bool) (n base low at : ℕ) → IsMultiple (2 ^ suc n) base → low ≤ 2 ^ n → at ≡ base + low → all_in h (suc n) base ≡ false → all_in h (suc n) (at - at % 2 ^ suc n) ≡ false
parent_of_half h n base low at m le e out =
    let two : 2 ^ suc n ≡ 2 ^ n + 2 ^ n = two-pow-succ n in
    let one : zero < 2 ^ n = pow_pos n in
    let place : at ≡ m.times * 2 ^ suc n + low = e ∙ ap (λ k. k + low) m.is in
    let rest : at % 2 ^ suc n ≡ low = ap (λ k. k % 2 ^ suc n) place ∙ mod-mul-add m.times (2 ^ suc n) low (omega arith) in
    let whole : at - at % 2 ^ suc n ≡ base = omega arith in
    rw whole out

half_listed : (v6 : Bool) (h : ℕ → Bool) (n base low half : ℕ) (p : Block) → IsMultiple (2 ^ suc n) base → low ≤ 2 ^ n → half ≡ base + low → all_in h (suc n) base ≡ false → Listed v6 h n half p → Listed v6 h (suc n) base p
half_listed v6 h n base low half p m le e out l =
    let two : 2 ^ suc n ≡ 2 ^ n + 2 ^ n = two-pow-succ n in
    record {
      bits = l.bits;
      at = l.at;
      is = l.is;
      small = let s = l.small in omega arith;
      from = let f = l.from in omega arith;
      to = let t = l.to in omega arith;
      aligned = l.aligned;
      inside = l.inside;
      greatest = λ lt. elim (cases_eq l.bits n) [
        | inl same ↦ (let size : 2 ^ l.bits ≡ 2 ^ n = ap (λ k. 2 ^ k) same in
            let here : l.at ≡ half = (let f = l.from in let t = l.to in omega arith) in
            let P : ℕ → Type 0 = λ k. all_in h (suc k) (l.at - l.at % 2 ^ suc k) ≡ false in
            let Q : ℕ → Type 0 = λ a. all_in h (suc n) (a - a % 2 ^ suc n) ≡ false in
            subst P (sym same) (subst Q (sym here) (parent_of_half h n base low half m le e out)))
        | inr other ↦ l.greatest (let s = l.small in omega arith)
      ];
    }

listed_at : (v6 : Bool) (h : ℕ → Bool) (n base : ℕ) (left right : List Block) (t : Bool) → IsMultiple (2 ^ suc n) base → all_in h (suc n) base ≡ t →
    AllByRecursion (Listed v6 h n base) left → AllByRecursion (Listed v6 h n (base + 2 ^ n)) right →
    AllByRecursion (Listed v6 h (suc n) base) (cond t (block_at v6 (suc n) base ∷ []) (left ++ right))
listed_at v6 h n base left right true m e l r = (whole_listed v6 h (suc n) base m e, tt)
listed_at v6 h n base left right false m e l r =
    all_append (Listed v6 h (suc n) base) left right
    (all_map (Listed v6 h n base) (Listed v6 h (suc n) base) (λ p. half_listed v6 h n base 0 base p m (omega arith) (omega arith) e) left l)
    (all_map (Listed v6 h n (base + 2 ^ n)) (Listed v6 h (suc n) base) (λ p. half_listed v6 h n base (2 ^ n) (base + 2 ^ n) p m (omega arith) refl e) right r)

least_listed : (v6 : Bool) (h : ℕ → Bool) (base : ℕ) (t : Bool) → h base ≡ t → AllByRecursion (Listed v6 h 0 base) (cond t (block_at v6 0 base ∷ []) [])
unfolding all_in
least_listed v6 h base true e = (whole_listed v6 h 0 base (record { times = base; is = omega arith }) e, tt)
least_listed v6 h base false e = tt

half_multiple : (n base : ℕ) → IsMultiple (2 ^ suc n) base → IsMultiple (2 ^ n) base
half_multiple n base m = multiple_lower n (suc n) base (omega arith) m

other_multiple : (n base : ℕ) → IsMultiple (2 ^ suc n) base → IsMultiple (2 ^ n) (base + 2 ^ n)
other_multiple n base m = multiple_add (2 ^ n) base (2 ^ n) (half_multiple n base m) (power_multiple n n (omega arith))

listed_all : (v6 : Bool) (h : ℕ → Bool) (n base : ℕ) → IsMultiple (2 ^ n) base → AllByRecursion (Listed v6 h n base) (greatest_in v6 h n base)
unfolding greatest_in
listed_all v6 h zero base m = least_listed v6 h base (h base) refl
listed_all v6 h (suc n) base m =
    listed_at v6 h n base _ _ (all_in h (suc n) base) m refl (listed_all v6 h n base (half_multiple n base m)) (listed_all v6 h n (base + 2 ^ n) (other_multiple n base m))

-- ---- all are listed

one_contained : (p q : Block) → p ≡ q → Contains (q ∷ []) p
one_contained p q e = (0, omega arith, sym e)

-- as many numbers from there on as there are
same_place : (m n base at : ℕ) → m ≡ n → base ≤ at → at + 2 ^ m ≤ base + 2 ^ n → at ≡ base
same_place m n base at e low high = let size : 2 ^ m ≡ 2 ^ n = ap (λ k. 2 ^ k) e in omega arith

-- the parent lies among the numbers too
parent_within : (v6 : Bool) (h : ℕ → Bool) (n base : ℕ) (p : Block) (l : Listed v6 h n base p) → IsMultiple (2 ^ n) base → l.bits < n →
    (base ≤ l.at - l.at % 2 ^ suc l.bits) × ((l.at - l.at % 2 ^ suc l.bits) + 2 ^ suc l.bits ≤ base + 2 ^ n)
parent_within v6 h n base p l m lt =
    let pos = pow_pos (suc l.bits) in let one = pow_pos l.bits in
    let low = multiple_lower (suc l.bits) n base (omega arith) m in
    let high = multiple_add (2 ^ suc l.bits) base (2 ^ n) low (power_multiple (suc l.bits) n (omega arith)) in
    let f = l.from in let t = l.to in
    (floor_above (2 ^ suc l.bits) l.at base pos low f, multiple_next (2 ^ suc l.bits) (l.at - l.at % 2 ^ suc l.bits) (base + 2 ^ n) (floor_is (2 ^ suc l.bits) l.at pos) high (omega arith))

whole_found : (v6 : Bool) (h : ℕ → Bool) (n base : ℕ) (p : Block) → IsMultiple (2 ^ n) base → all_in h n base ≡ true → Listed v6 h n base p → Contains (block_at v6 n base ∷ []) p
whole_found v6 h n base p m e l =
    elim (cases_eq l.bits n) [
      | inl same ↦ (let here = same_place l.bits n base l.at same l.from l.to in
          one_contained p (block_at v6 n base) (l.is ∙ (ap (λ k. block_at v6 k l.at) same ∙ ap (λ a. block_at v6 n a) here)))
      | inr other ↦ absurd (let lt : l.bits < n = (let s = l.small in omega arith) in
          let within = parent_within v6 h n base p l m lt in
          let low = within.0 in let high = within.1 in
          both_ways _ (l.greatest lt) (all_from h (suc l.bits) _ (λ x a b. all_at h n base e x (omega arith) (omega arith))))
    ]

left_listed : (v6 : Bool) (h : ℕ → Bool) (n base : ℕ) (p : Block) → IsMultiple (2 ^ suc n) base → (l : Listed v6 h (suc n) base p) → l.bits ≤ n → l.at < base + 2 ^ n → Listed v6 h n base p
left_listed v6 h n base p m l small lt = record {
  bits = l.bits;
  at = l.at;
  is = l.is;
  small = small;
  from = l.from;
  to = multiple_next (2 ^ l.bits) l.at (base + 2 ^ n) l.aligned (multiple_lower l.bits n (base + 2 ^ n) small (other_multiple n base m)) lt;
  aligned = l.aligned;
  inside = l.inside;
  greatest = λ less. l.greatest (omega arith);
}

right_listed : (v6 : Bool) (h : ℕ → Bool) (n base : ℕ) (p : Block) → (l : Listed v6 h (suc n) base p) → l.bits ≤ n → base + 2 ^ n ≤ l.at → Listed v6 h n (base + 2 ^ n) p
right_listed v6 h n base p l small le = record {
  bits = l.bits;
  at = l.at;
  is = l.is;
  small = small;
  from = le;
  to = let two : 2 ^ suc n ≡ 2 ^ n + 2 ^ n = two-pow-succ n in let t = l.to in omega arith;
  aligned = l.aligned;
  inside = l.inside;
  greatest = λ less. l.greatest (omega arith);
}

not_whole : (v6 : Bool) (h : ℕ → Bool) (n base : ℕ) (p : Block) → all_in h n base ≡ false → (l : Listed v6 h n base p) → l.bits ≡ n → ⊥
not_whole v6 h n base p e l same =
    let here = same_place l.bits n base l.at same l.from l.to in
    let P : ℕ → Type 0 = λ k. all_in h k l.at ≡ true in
    let Q : ℕ → Type 0 = λ a. all_in h n a ≡ true in
    both_ways _ e (subst Q here (subst P same l.inside))

halves_found : (v6 : Bool) (h : ℕ → Bool) (n base : ℕ) (p : Block) (left right : List Block) → IsMultiple (2 ^ suc n) base → all_in h (suc n) base ≡ false → Listed v6 h (suc n) base p →
    (Listed v6 h n base p → Contains left p) → (Listed v6 h n (base + 2 ^ n) p → Contains right p) → Contains (left ++ right) p
halves_found v6 h n base p left right m e l f g =
    let not = not_whole v6 h (suc n) base p e l in
    let small : l.bits ≤ n = (let s = l.small in omega arith) in
    elim (cases_lt l.at (base + 2 ^ n)) [
      | inl low ↦ Contains-append_left left right p (f (left_listed v6 h n base p m l small low))
      | inr high ↦ Contains-append_right left right p (g (right_listed v6 h n base p l small high))
    ]

found_at : (v6 : Bool) (h : ℕ → Bool) (n base : ℕ) (p : Block) (left right : List Block) (t : Bool) → IsMultiple (2 ^ suc n) base → all_in h (suc n) base ≡ t → Listed v6 h (suc n) base p →
    (Listed v6 h n base p → Contains left p) → (Listed v6 h n (base + 2 ^ n) p → Contains right p) → Contains (cond t (block_at v6 (suc n) base ∷ []) (left ++ right)) p
found_at v6 h n base p left right true m e l f g = whole_found v6 h (suc n) base p m e l
found_at v6 h n base p left right false m e l f g = halves_found v6 h n base p left right m e l f g

least_found : (v6 : Bool) (h : ℕ → Bool) (base : ℕ) (p : Block) (t : Bool) → h base ≡ t → Listed v6 h 0 base p → Contains (cond t (block_at v6 0 base ∷ []) []) p
unfolding all_in
least_found v6 h base p true e l = whole_found v6 h 0 base p (record { times = base; is = omega arith }) e l
least_found v6 h base p false e l = absurd (not_whole v6 h 0 base p e l (let s = l.small in omega arith))

found : (v6 : Bool) (h : ℕ → Bool) (n base : ℕ) (p : Block) → IsMultiple (2 ^ n) base → Listed v6 h n base p → Contains (greatest_in v6 h n base) p
unfolding greatest_in
found v6 h zero base p m l = least_found v6 h base p (h base) refl l
found v6 h (suc n) base p m l =
    found_at v6 h n base p _ _ (all_in h (suc n) base) m refl l (found v6 h n base p (half_multiple n base m)) (found v6 h n (base + 2 ^ n) p (other_multiple n base m))

-- ---- the greatest prefixes, by addresses

-- whether a number of the prefix's family is in the set
abbrev pub in_family : (Address → Bool) → Bool → ℕ → Bool
in_family held v6 x = held (record { v6 = v6; bits = x })

pub holds_from : (p : Block) (x : ℕ) → p.base.bits ≤ x → x < p.base.bits + size_of p → holds p (record { v6 = p.base.v6; bits = x }) ≡ true
holds_from p x low high = and_from _ _ (and_from _ _ (beq-from p.base.v6 p.base.v6 refl) (le-leb _ _ low)) (le-leb x (last_of p) (omega arith))

double : (n : ℕ) → 2 * 2 ^ n ≡ 2 ^ suc n
double n = let two : 2 ^ suc n ≡ 2 ^ n + 2 ^ n = two-pow-succ n in omega arith

pub parent_size : (p : Block) → 0 < p.len → p.len ≤ family_bits p.base.v6 → size_of (parent p) ≡ 2 ^ suc (family_bits p.base.v6 - p.len)
parent_size p pos le = let one : family_bits p.base.v6 - (p.len - 1) ≡ suc (family_bits p.base.v6 - p.len) = omega arith in ap (λ k. 2 ^ k) one

pub parent_base : (p : Block) → (parent p).base.bits ≡ p.base.bits - p.base.bits % 2 ^ suc (family_bits p.base.v6 - p.len)
parent_base p = ap (λ k. p.base.bits - p.base.bits % k) (double (family_bits p.base.v6 - p.len))

greatest_is : (held : Address → Bool) (p : Block) → IsBlock p → all_in (in_family held p.base.v6) (family_bits p.base.v6 - p.len) p.base.bits ≡ true →
    (family_bits p.base.v6 - p.len < family_bits p.base.v6 → all_in (in_family held p.base.v6) (suc (family_bits p.base.v6 - p.len)) (p.base.bits - p.base.bits % 2 ^ suc (family_bits p.base.v6 - p.len)) ≡ false) →
    IsGreatest held p
greatest_is held p block all top = record {
  block = block;
  inside = λ addr e.
      let parts = holds_parts p addr e in let low = parts.1 in let high = parts.2 in let pos : 0 < size_of p = pow_pos _ in
      let P : Bool → Type 0 = λ f. in_family held f addr.bits ≡ true in
      subst P parts.0 (all_at (in_family held p.base.v6) (family_bits p.base.v6 - p.len) p.base.bits all addr.bits low (omega arith));
  greatest = λ pos.
      let fits = block.fits in
      let w = some_false (in_family held p.base.v6) _ _ (top (omega arith)) in
      let base = parent_base p in let size = parent_size p pos fits in
      let low = w.1 in let high = w.2 in
      (record { v6 = p.base.v6; bits = w.0 }, holds_from (parent p) w.0 (omega arith) (omega arith), w.3);
}

greatest_at : (held : Address → Bool) (v6 : Bool) (bits at : ℕ) → bits ≤ family_bits v6 → at + 2 ^ bits ≤ 2 ^ family_bits v6 → IsMultiple (2 ^ bits) at → all_in (in_family held v6) bits at ≡ true →
    (bits < family_bits v6 → all_in (in_family held v6) (suc bits) (at - at % 2 ^ suc bits) ≡ false) → IsGreatest held (block_at v6 bits at)
greatest_at held v6 bits at small to aligned all top =
    let same : family_bits v6 - (family_bits v6 - bits) ≡ bits = omega arith in
    let size : size_of (block_at v6 bits at) ≡ 2 ^ bits = ap (λ k. 2 ^ k) same in
    let pos : zero < 2 ^ bits = pow_pos bits in
    let family = family_is v6 in
    greatest_is held (block_at v6 bits at)
    (record {
      in_family = omega arith;
      fits = omega arith;
      aligned = rw size (mod_of_multiple (2 ^ bits) at pos aligned);
    })
    (let P : ℕ → Type 0 = λ k. all_in (in_family held v6) k at ≡ true in subst P (sym same) all)
    (let Q : ℕ → Type 0 = λ k. k < family_bits v6 → all_in (in_family held v6) (suc k) (at - at % 2 ^ suc k) ≡ false in subst Q (sym same) top)

greatest_from_listed : (held : Address → Bool) (v6 : Bool) (p : Block) → Listed v6 (in_family held v6) (family_bits v6) 0 p → IsGreatest held p
greatest_from_listed held v6 p l =
    let P : Block → Type 0 = λ q. IsGreatest held q in
    let t = l.to in
    subst P (sym l.is) (greatest_at held v6 l.bits l.at l.small (omega arith) l.aligned l.inside l.greatest)

listed_from_greatest : (held : Address → Bool) (p : Block) → IsGreatest held p → Listed p.base.v6 (in_family held p.base.v6) (family_bits p.base.v6) 0 p
listed_from_greatest held p g =
    let fits = g.block.fits in let family = family_is p.base.v6 in let room = prefix_fits p g.block in
    let len : p.len ≡ family_bits p.base.v6 - (family_bits p.base.v6 - p.len) = omega arith in
    let pos : 0 < size_of p = pow_pos _ in
    record {
      bits = family_bits p.base.v6 - p.len;
      at = p.base.bits;
      is = let Q : ℕ → Block = λ k. record { base = p.base; len = k } in ap Q len;
      small = omega arith;
      from = omega arith;
      to = omega arith;
      aligned = multiple_from_mod (size_of p) p.base.bits pos g.block.aligned;
      inside = all_from (in_family held p.base.v6) (family_bits p.base.v6 - p.len) p.base.bits (λ x a b. g.inside (record { v6 = p.base.v6; bits = x }) (holds_from p x a b));
      greatest = λ lt.
          let some : 0 < p.len = omega arith in
          let w = g.greatest some in
          let parts = holds_parts (parent p) w.0 w.1 in let low = parts.1 in let high = parts.2 in
          let base = parent_base p in let size = parent_size p some fits in let room = pow_pos (suc (family_bits p.base.v6 - p.len)) in
          let P : Bool → Type 0 = λ f. in_family held f w.0.bits ≡ false in
          all_false (in_family held p.base.v6) (suc (family_bits p.base.v6 - p.len)) _ w.0.bits (omega arith) (omega arith) (subst P (sym parts.0) w.2);
    }

-- ---- order

cross_ordered : (v6 : Bool) (h : ℕ → Bool) (n base : ℕ) (left right : List Block) → AllByRecursion (Listed v6 h n base) left → AllByRecursion (Listed v6 h n (base + 2 ^ n)) right → AllByRecursion (λ p. AllByRecursion (IsBefore p) right) left
cross_ordered v6 h n base left right l r = all_map (Listed v6 h n base) (λ p. AllByRecursion (IsBefore p) right) (λ p k. all_map (Listed v6 h n (base + 2 ^ n)) (IsBefore p) (λ q j. before p q k j) right r) left l
  where
    before : (p q : Block) → Listed v6 h n base p → Listed v6 h n (base + 2 ^ n) q → IsBefore p q
    before p q k j =
        let pos = pow_pos k.bits in let to = k.to in let from = j.from in
        let P : Block → Type 0 = λ b. IsBefore b q in
        let Q : Block → Type 0 = λ b. IsBefore (block_at v6 k.bits k.at) b in
        subst P (sym k.is) (subst Q (sym j.is) (before_by_base v6 k.bits k.at j.bits j.at (omega arith)))

ordered_at : (block : Block) (left right : List Block) (t : Bool) → AreOrdered left → AreOrdered right → AllByRecursion (λ p. AllByRecursion (IsBefore p) right) left → AreOrdered (cond t (block ∷ []) (left ++ right))
ordered_at block left right true l r f = (tt, tt)
ordered_at block left right false l r f = ordered_append left right l r f

least_ordered : (block : Block) (t : Bool) → AreOrdered (cond t (block ∷ []) [])
least_ordered block true = (tt, tt)
least_ordered block false = tt

ordered : (v6 : Bool) (h : ℕ → Bool) (n base : ℕ) → IsMultiple (2 ^ n) base → AreOrdered (greatest_in v6 h n base)
unfolding greatest_in
ordered v6 h zero base m = least_ordered (block_at v6 0 base) (h base)
ordered v6 h (suc n) base m =
    ordered_at (block_at v6 (suc n) base) (greatest_in v6 h n base) (greatest_in v6 h n (base + 2 ^ n)) (all_in h (suc n) base)
    (ordered v6 h n base (half_multiple n base m)) (ordered v6 h n (base + 2 ^ n) (other_multiple n base m))
    (cross_ordered v6 h n base _ _ (listed_all v6 h n base (half_multiple n base m)) (listed_all v6 h n (base + 2 ^ n) (other_multiple n base m)))

-- ---- the numbers that are held

block_holds : (v6 : Bool) (n base x : ℕ) → n ≤ family_bits v6 → base ≤ x → x < base + 2 ^ n → holds (block_at v6 n base) (record { v6 = v6; bits = x }) ≡ true
block_holds v6 n base x le low high =
    let same : family_bits v6 - (family_bits v6 - n) ≡ n = omega arith in
    let size : size_of (block_at v6 n base) ≡ 2 ^ n = ap (λ k. 2 ^ k) same in
    holds_from (block_at v6 n base) x low (omega arith)

held_at : (v6 : Bool) (n base x : ℕ) (left right : List Block) (t : Bool) → suc n ≤ family_bits v6 → base ≤ x → x < base + 2 ^ suc n →
    (x < base + 2 ^ n → some_holds left (record { v6 = v6; bits = x }) ≡ true) → (base + 2 ^ n ≤ x → some_holds right (record { v6 = v6; bits = x }) ≡ true) →
    some_holds (cond t (block_at v6 (suc n) base ∷ []) (left ++ right)) (record { v6 = v6; bits = x }) ≡ true
held_at v6 n base x left right true le low high f g = or_left _ _ (block_holds v6 (suc n) base x le low high)
held_at v6 n base x left right false le low high f g =
    list_any-append (λ p. holds p (record { v6 = v6; bits = x })) left right
    ∙ elim (cases_lt x (base + 2 ^ n)) [
      | inl below ↦ or_left (some_holds left (record { v6 = v6; bits = x })) _ (f below)
      | inr above ↦ or_right (some_holds left (record { v6 = v6; bits = x })) _ (g above)
    ]

held_found : (v6 : Bool) (h : ℕ → Bool) (n base x : ℕ) → n ≤ family_bits v6 → base ≤ x → x < base + 2 ^ n → h x ≡ true → some_holds (greatest_in v6 h n base) (record { v6 = v6; bits = x }) ≡ true
unfolding greatest_in
held_found v6 h zero base x le low high e =
    let here : x ≡ base = omega arith in
    let passes : h base ≡ true = rw here at e in
    rw passes (or_left _ _ (block_holds v6 0 base x le low high))
held_found v6 h (suc n) base x le low high e =
    let two : 2 ^ suc n ≡ 2 ^ n + 2 ^ n = two-pow-succ n in
    held_at v6 n base x _ _ (all_in h (suc n) base) le low high
    (λ below. held_found v6 h n base x (omega arith) low below e) (λ above. held_found v6 h n (base + 2 ^ n) x (omega arith) above (omega arith) e)

-- what prefixes inside the set hold is in it
held_inside : (held : Address → Bool) (ps : List Block) (addr : Address) → AllByRecursion (IsGreatest held) ps → some_holds ps addr ≡ true → held addr ≡ true
held_inside held [] addr all e = absurd (false≢true e)
held_inside held (p ∷ ps) addr all e =
    elim (or_cases (holds p addr) (some_holds ps addr) e) [
      | inl here ↦ all.0.inside addr here
      | inr later ↦ held_inside held ps addr all.1 later
    ]

-- ---- both families

abbrev family_list : (Address → Bool) → Bool → List Block
family_list held v6 = greatest_in v6 (in_family held v6) (family_bits v6) 0

zero_multiple : (d : ℕ) → IsMultiple d 0
zero_multiple d = record { times = 0; is = omega arith }

family_listed : (held : Address → Bool) (v6 : Bool) → AllByRecursion (Listed v6 (in_family held v6) (family_bits v6) 0) (family_list held v6)
family_listed held v6 = listed_all v6 (in_family held v6) (family_bits v6) 0 (zero_multiple _)

family_greatest : (held : Address → Bool) (v6 : Bool) → AllByRecursion (IsGreatest held) (family_list held v6)
family_greatest held v6 = all_map (Listed v6 (in_family held v6) (family_bits v6) 0) (IsGreatest held) (greatest_from_listed held v6) (family_list held v6) (family_listed held v6)

canonical_greatest : (held : Address → Bool) → AllByRecursion (IsGreatest held) (canonical held)
canonical_greatest held = all_append (IsGreatest held) (family_list held false) (family_list held true) (family_greatest held false) (family_greatest held true)

family_found : (held : Address → Bool) (v6 : Bool) (p : Block) → Contains (family_list held v6) p → Contains (canonical held) p
family_found held false p h = Contains-append_left (family_list held false) (family_list held true) p h
family_found held true p h = Contains-append_right (family_list held false) (family_list held true) p h

canonical_found : (held : Address → Bool) (p : Block) → IsGreatest held p → Contains (canonical held) p
canonical_found held p g = family_found held p.base.v6 p (found p.base.v6 (in_family held p.base.v6) (family_bits p.base.v6) 0 p (zero_multiple _) (listed_from_greatest held p g))

families_ordered : (held : Address → Bool) → AllByRecursion (λ p. AllByRecursion (IsBefore p) (family_list held true)) (family_list held false)
families_ordered held =
    all_map (Listed false (in_family held false) 32 0) (λ p. AllByRecursion (IsBefore p) (family_list held true))
    (λ p k. all_map (Listed true (in_family held true) 128 0) (IsBefore p) (λ q j. before p q k j) (family_list held true) (family_listed held true)) (family_list held false) (family_listed held false)
  where
    before : (p q : Block) → Listed false (in_family held false) 32 0 p → Listed true (in_family held true) 128 0 q → IsBefore p q
    before p q k j =
        let P : Block → Type 0 = λ b. IsBefore b q in
        let Q : Block → Type 0 = λ b. IsBefore (block_at false k.bits k.at) b in
        subst P (sym k.is) (subst Q (sym j.is) refl)

canonical_ordered : (held : Address → Bool) → AreOrdered (canonical held)
canonical_ordered held =
    ordered_append (family_list held false) (family_list held true) (ordered false (in_family held false) 32 0 (zero_multiple _)) (ordered true (in_family held true) 128 0 (zero_multiple _)) (families_ordered held)

family_held : (held : Address → Bool) (v6 : Bool) (x : ℕ) → x < family_size v6 → in_family held v6 x ≡ true → some_holds (canonical held) (record { v6 = v6; bits = x }) ≡ true
family_held held false x lt e =
    list_any-append (λ p. holds p (record { v6 = false; bits = x })) (family_list held false) (family_list held true)
    ∙ or_left _ _ (held_found false (in_family held false) 32 0 x (omega arith) (omega arith) (omega arith) e)
family_held held true x lt e =
    list_any-append (λ p. holds p (record { v6 = true; bits = x })) (family_list held false) (family_list held true)
    ∙ or_right (some_holds (family_list held false) (record { v6 = true; bits = x })) _ (held_found true (in_family held true) 128 0 x (omega arith) (omega arith) (omega arith) e)

pub canonical_is : (held : Address → Bool) → IsCanonical held (canonical held)
canonical_is held = record {
  listed = λ p. (λ h. All-contains (IsGreatest held) (canonical held) p (All-from_recursion (IsGreatest held) (canonical held) (canonical_greatest held)) h, canonical_found held p);
  order = pairs_from_ordered (canonical held) (canonical_ordered held);
  same = λ addr lt. same_tests _ _ (held_inside held (canonical held) addr (canonical_greatest held)) (family_held held addr.v6 addr.bits lt);
}

pub canonical_same : (held other : Address → Bool) → ((addr : Address) → addr.bits < family_size addr.v6 → held addr ≡ other addr) → canonical held ≡ canonical other
canonical_same held other f =
    ap (λ ps. ps ++ family_list held true) (greatest_same false (in_family held false) (in_family other false) 32 0 (λ x a b. f (record { v6 = false; bits = x }) (omega arith)))
    ∙ ap (λ ps. family_list other false ++ ps) (greatest_same true (in_family held true) (in_family other true) 128 0 (λ x a b. f (record { v6 = true; bits = x }) (omega arith)))
