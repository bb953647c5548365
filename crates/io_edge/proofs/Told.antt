-- Laws of what is known.
use Rattle.std.proofs.Common.{◌≡◌, ◌≤◌, ◌+◌, ℕ, Option, None, Some, List, [], ◌++◌, refl, ap, sym, append_assoc, arith}
use Rattle.std.proofs.lemmas.List.{append-nil}
use Rattle.io_edge.specs.Edge.{and_then_left, and_held, Rose, RoseBy}

-- no bytes change nothing
pub held_nothing : (o : Option (List ℕ)) → o ≡ and_held o []
held_nothing None = refl
held_nothing (Some xs) = ap Some (sym (append-nil xs))

-- two pieces that went onto it are one
pub held_more : (o : Option (List ℕ)) (a b : List ℕ) → and_held (and_held o a) b ≡ and_held o (a ++ b)
held_more None a b = refl
held_more (Some xs) a b = ap Some (append_assoc xs a b)

-- no bytes change nothing
pub left_nothing : (o : Option (List ℕ)) → o ≡ and_then_left [] o
left_nothing None = refl
left_nothing (Some xs) = refl

-- two pieces that were taken are one
pub left_more : (o : Option (List ℕ)) (a b : List ℕ) → and_then_left a (and_then_left b o) ≡ and_then_left (a ++ b) o
left_more None a b = refl
left_more (Some xs) a b = ap Some (sym (append_assoc a b xs))

-- a count that rises later has risen since
pub rose_later : (before mid now : ℕ) → before ≤ mid → Rose mid now → Rose before now
rose_later before mid now le rose = omega arith

-- a count that has risen stays so
pub rose_earlier : (before mid now : ℕ) → Rose before mid → mid ≤ now → Rose before now
rose_earlier before mid now rose le = omega arith

-- the same of a count that rises by so much
pub rose_by_later : (n before mid now : ℕ) → before ≤ mid → RoseBy n mid now → RoseBy n before now
rose_by_later n before mid now le rose = omega arith

-- two rises are their sum
pub rose_by_more : (n m before mid now : ℕ) → RoseBy n before mid → RoseBy m mid now → RoseBy (n + m) before now
rose_by_more n m before mid now first second = omega arith
