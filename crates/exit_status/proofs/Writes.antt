-- Writing in pieces.
use Rattle.std.proofs.Common.{◌≡◌, ◌≤◌, ℕ, Option, List, [], ◌++◌, refl, ap, sym, ◌∙◌, append_assoc, arith, Bool, true, false, take, drop, length, ◌-◌}
use Rattle.std.proofs.lemmas.List.{take_rest, take-append-drop}
use Rattle.io_edge.specs.Edge.{and_held, Counted}
use Rattle.io_edge.proofs.Told.{held_nothing, held_more, rose_later}
use Rattle.exit_status.specs.Pieces.{Wrote, IsPrefix}

abbrev pub prefix_more : (p w all : List ℕ) → IsPrefix w all → IsPrefix (p ++ w) (p ++ all)
prefix_more p w all f = (f.0, ap (λ x. p ++ x) f.1 ∙ sym (append_assoc p w f.0))

-- nothing is left to write
pub wrote_nothing : (o : Option (List ℕ)) (n : ℕ) → Wrote o o n n [] false
wrote_nothing o n = record { written = []; front = ([], refl); to_sink = held_nothing o; whole = λ _. refl; counted = record { later = omega arith; rose = λ t. cc } }

-- the first write failed
pub wrote_none : (o new : Option (List ℕ)) (n m : ℕ) (bytes : List ℕ) → new ≡ o → Counted n m true → Wrote o new n m bytes true
wrote_none o new n m bytes e c = record { written = []; front = (bytes, refl); to_sink = e ∙ held_nothing o; whole = λ t. cc; counted = c }

-- a piece, and then the rest
pub wrote_more : (o mid new : Option (List ℕ)) (n m k : ℕ) (piece rest all : List ℕ) (failed : Bool) → all ≡ piece ++ rest → mid ≡ and_held o piece → n ≤ m → Wrote mid new m k rest failed → Wrote o new n k all failed
wrote_more o mid new n m k piece rest all failed is e le w =
    record {
      written = piece ++ w.written;
      front = (w.front.0, is ∙ (prefix_more piece w.written rest w.front).1);
      to_sink = w.to_sink ∙ ap (λ x. and_held x w.written) e ∙ held_more o piece w.written;
      whole = λ t. ap (λ x. piece ++ x) (w.whole t) ∙ sym is;
      counted = record { later = omega (arith, w.counted.later); rose = λ t. rose_later n m k le (w.counted.rose t) };
    }

-- a list in two parts, as a slice has them
pub parts : (xs : List ℕ) (n : ℕ) → xs ≡ take n xs ++ take (length xs - n) (drop n xs)
parts xs n = sym (ap (λ r. take n xs ++ r) (take_rest xs n) ∙ take-append-drop n xs)
