-- Lists of prefixes in order.
use Rattle.std.proofs.Common.{ℕ, ◌<◌, Bool, List, [], ◌∷◌, ◌++◌, IsTrue, arith, refl}
use Rattle.std.specs.List.{AllByRecursion, AllPairs}
use Rattle.std.proofs.lemmas.Bool.{lt-ltb}
use Rattle.std.proofs.lemmas.List.Elements.{All-from_recursion}
use Rattle.std.proofs.lemmas.List.Kept.{AllPairs-cons}
use Rattle.tail_base.proofs.Bools.{beq-from}
use Rattle.net_addr.specs.Bits.{Block}
use Rattle.range_sets.specs.Canonical.{block_at, comes_before}

pub all_map : (P Q : Block → Type 0) → ((p : Block) → P p → Q p) → (ps : List Block) → AllByRecursion P ps → AllByRecursion Q ps
all_map P Q f [] h = tt
all_map P Q f (p ∷ ps) h = (f p h.0, all_map P Q f ps h.1)

pub all_append : (P : Block → Type 0) (ps qs : List Block) → AllByRecursion P ps → AllByRecursion P qs → AllByRecursion P (ps ++ qs)
all_append P [] qs h k = k
all_append P (p ∷ ps) qs h k = (h.0, all_append P ps qs h.1 k)

-- one comes before the other
abbrev pub IsBefore : Block → Block → Type 0
IsBefore p q = IsTrue (comes_before p q)

-- each comes before all later ones
abbrev pub AreOrdered : List Block → Type 0
AreOrdered [] = Unit {0}
AreOrdered (p ∷ ps) = AllByRecursion (IsBefore p) ps × AreOrdered ps

pub ordered_append : (ps qs : List Block) → AreOrdered ps → AreOrdered qs → AllByRecursion (λ p. AllByRecursion (IsBefore p) qs) ps → AreOrdered (ps ++ qs)
ordered_append [] qs h k f = k
ordered_append (p ∷ ps) qs h k f = (all_append (IsBefore p) ps qs h.0 f.0, ordered_append ps qs h.1 k f.1)

pub pairs_from_ordered : (ps : List Block) → AreOrdered ps → AllPairs IsBefore ps
pairs_from_ordered [] h = λ i j d lt below. absurd (omega arith)
pairs_from_ordered (p ∷ ps) h = AllPairs-cons IsBefore p ps (All-from_recursion (IsBefore p) ps h.0) (pairs_from_ordered ps h.1)

pub before_by_base : (v6 : Bool) (m a n b : ℕ) → a < b → IsBefore (block_at v6 m a) (block_at v6 n b)
before_by_base v6 m a n b lt = rw (beq-from v6 v6 refl, lt-ltb a b lt) refl
