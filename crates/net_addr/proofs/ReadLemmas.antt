-- The parts that are read, one by one.
use Rattle.std.proofs.Common.{◌≡◌, ◌≤◌, ◌+◌, ℕ, true, List, [], ◌∷◌, ◌++◌, length, ltb, Some, None, arith, sym, ap, ◌∙◌}
use Rattle.std.specs.Option.{option_map, option_and_then}
use Rattle.std.proofs.lemmas.Bool.{cond-true, lt-ltb}
use Rattle.std.proofs.lemmas.List.{append-nil, append_assoc, length-append}
use Rattle.net_addr.specs.declared.parts.Notation.{Notation}
use Rattle.net_addr.specs.Parts.{part_of, with_part, parts_from}
use Rattle.net_addr.proofs.PartLemmas.{and_then_some, with_part_some}

-- each text spells the part at its place
abbrev pub ReadAs : Notation → List (List ℕ) → List ℕ → Type 0
ReadAs notation [] [] = Unit {0}
ReadAs notation [] (part ∷ parts) = ⊥
ReadAs notation (bs ∷ more) [] = ⊥
ReadAs notation (bs ∷ more) (part ∷ parts) = (part_of notation bs ≡ Some part) × ReadAs notation more parts

pub parts_read : (notation : Notation) (parts : List ℕ) (texts : List (List ℕ)) (r : List ℕ) → parts_from notation parts texts ≡ Some r
    → (more : List ℕ) × (r ≡ parts ++ more) × ReadAs notation texts more
parts_read notation parts [] r h =
    let same : parts ≡ r = cc (h) in
    ([], sym same ∙ sym (append-nil parts), tt)
parts_read notation parts (bs ∷ texts) r h =
    let step = and_then_some (with_part notation parts bs) (λ longer. parts_from notation longer texts) r h in
    let last = with_part_some notation parts bs step.0 step.1 in
    let rest = parts_read notation step.0 texts r step.2 in
    (last.0 ∷ rest.0, rest.1 ∙ ap (λ xs. xs ++ rest.0) (sym last.2) ∙ append_assoc parts (last.0 ∷ []) rest.0, (last.1, rest.2))

pub read_parts : (notation : Notation) (parts : List ℕ) (texts : List (List ℕ)) (more : List ℕ) → ReadAs notation texts more → length parts + length more ≤ 8
    → parts_from notation parts texts ≡ Some (parts ++ more)
read_parts notation parts [] [] h few = ap Some (sym (append-nil parts))
read_parts notation parts [] (part ∷ more) h few = absurd h
read_parts notation parts (bs ∷ texts) [] h few = absurd h
read_parts notation parts (bs ∷ texts) (part ∷ more) h few =
    let room : ltb (length parts) 8 ≡ true = lt-ltb (length parts) 8 (omega arith) in
    let one : with_part notation parts bs ≡ Some (parts ++ part ∷ []) =
    cond-true (ltb (length parts) 8) (option_map (λ p. parts ++ p ∷ []) (part_of notation bs)) None room ∙ ap (option_map (λ p. parts ++ p ∷ [])) h.0 in
    let rest = read_parts notation (parts ++ part ∷ []) texts more h.1 (omega (arith, length-append parts (part ∷ []))) in
    ap (option_and_then (λ longer. parts_from notation longer texts)) one ∙ rest ∙ ap Some (append_assoc parts (part ∷ []) more)
