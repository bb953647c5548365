-- The parts of an address's text.
use Rattle.std.proofs.Common.{◌≡◌, ◌<◌, ◌+◌, ◌*◌, ◌^◌, ℕ, Bool, true, false, List, [], ◌∷◌, ◌++◌, length, take, drop, cond, ltb, leb, ◌==◌, Option, Some, None, arith, refl, sym, ap, ◌∙◌}
use Rattle.std.specs.List.{position, position_or_len, slice_split, list_all}
use Rattle.std.specs.Option.{option_map, option_and_then}
use Rattle.std.proofs.lemmas.Bool.{and_from, and_parts, le-leb, ltb-true, ltb-false, leb-true}
use Rattle.std.proofs.lemmas.List.Splits.{slice_split_first, slice_split_none}
use Rattle.std.proofs.lemmas.List.Sums.{fails_before_first}
use Rattle.net_addr.specs.declared.parts.Notation.{Notation}
use Rattle.net_addr.specs.declared.parts.Notation.TheVariants.{Decimal, Hexadecimal}
use Rattle.net_addr.specs.Parts.{mark_of, part_of, parts_of, with_part, parts_from}
use Rattle.net_addr.specs.QuadTexts.{quad_number, quad_of_text}
use Rattle.tail_base.proofs.AllBytes.{all_append}
use Rattle.tail_base.proofs.NumeralLemmas.{group_fits, number_in_fits, pick_some}

pub part_fits : (notation : Notation) (bs : List ℕ) (n : ℕ) → part_of notation bs ≡ Some n → n < 65536
part_fits Decimal bs n h = omega (arith, (number_in_fits 3 0 255 n bs h).1)
part_fits Hexadecimal bs n h = group_fits bs n h

pub some_place : (t : Bool) (n i : ℕ) → cond t (Some n) None ≡ Some i → (t ≡ true) × (n ≡ i)
some_place t n i h =
    let parts = pick_some t (Some n) i h in
    let same : n ≡ i = cc (parts.1) in
    (parts.0, same)

no_place : (t : Bool) (n : ℕ) → cond t (Some n) None ≡ None → t ≡ false
no_place true n h = absurd (cc)
no_place false n h = refl

-- the first part ends at the first mark
pub split_here : (p : ℕ → Bool) (bs : List ℕ) (at : ℕ) → position p bs ≡ Some at → slice_split p bs ≡ take at bs ∷ slice_split p (drop (at + 1) bs)
split_here p bs at h =
    let found = some_place (ltb (position_or_len p bs) (length bs)) (position_or_len p bs) at h in
    rw (← found.1) (slice_split_first p bs 0 (ltb-true _ _ found.0))

-- with no mark there is one part
pub split_whole : (p : ℕ → Bool) (bs : List ℕ) → position p bs ≡ None → slice_split p bs ≡ bs ∷ []
split_whole p bs h =
    let none = ltb-false (position_or_len p bs) (length bs) (no_place (ltb (position_or_len p bs) (length bs)) (position_or_len p bs) h) in
    slice_split_none p bs (λ k d inside. fails_before_first p bs k d (omega arith))

pub and_then_some : {A B : Type 0} (o : Option A) (f : A → Option B) (r : B) → option_and_then f o ≡ Some r → (x : A) × (o ≡ Some x) × (f x ≡ Some r)
and_then_some (Some x) f r h = (x, refl, h)
and_then_some None f r h = absurd (cc)

pub map_some : {A B : Type 0} (o : Option A) (f : A → B) (r : B) → option_map f o ≡ Some r → (x : A) × (o ≡ Some x) × (f x ≡ r)
map_some (Some x) f r h = (x, refl, cc)
map_some None f r h = absurd (cc)

-- one part more is read
pub with_part_some : (notation : Notation) (parts bs longer : List ℕ) → with_part notation parts bs ≡ Some longer
    → (part : ℕ) × (part_of notation bs ≡ Some part) × (parts ++ part ∷ [] ≡ longer) × (length parts < 8)
with_part_some notation parts bs longer h =
    let picked = pick_some (ltb (length parts) 8) (option_map (λ part. parts ++ part ∷ []) (part_of notation bs)) longer h in
    let mapped = map_some (part_of notation bs) (λ part. parts ++ part ∷ []) longer picked.1 in
    (mapped.0, mapped.1, mapped.2, ltb-true (length parts) 8 picked.0)

abbrev is_byte : ℕ → Bool
is_byte part = leb part 255

decimal_bytes : (parts : List ℕ) (more : List (List ℕ)) (r : List ℕ) → list_all is_byte parts ≡ true → parts_from Decimal parts more ≡ Some r → list_all is_byte r ≡ true
decimal_bytes parts [] r all h =
    let same : parts ≡ r = cc (h) in
    rw (← same) all
decimal_bytes parts (bs ∷ more) r all h =
    let step = and_then_some (with_part Decimal parts bs) (λ longer. parts_from Decimal longer more) r h in
    let last = with_part_some Decimal parts bs step.0 step.1 in
    let small : is_byte last.0 ≡ true = le-leb last.0 255 (number_in_fits 3 0 255 last.0 bs last.1).1 in
    let longer = all_append is_byte parts (last.0 ∷ []) all (and_from _ _ small refl) in
    decimal_bytes step.0 more r (ap (list_all is_byte) (sym last.2) ∙ longer) step.2

quad_small : (parts : List ℕ) (n : ℕ) → list_all is_byte parts ≡ true → quad_number parts ≡ Some n → n < 2 ^ 32
quad_small (a ∷ b ∷ c ∷ d ∷ []) n all h =
    let first = and_parts (is_byte a) (list_all is_byte (b ∷ c ∷ d ∷ [])) all in
    let second = and_parts (is_byte b) (list_all is_byte (c ∷ d ∷ [])) first.1 in
    let third = and_parts (is_byte c) (list_all is_byte (d ∷ [])) second.1 in
    let fourth = and_parts (is_byte d) true third.1 in
    let one = leb-true a 255 first.0 in
    let two = leb-true b 255 second.0 in
    let three = leb-true c 255 third.0 in
    let four = leb-true d 255 fourth.0 in
    let same : ((a * 256 + b) * 256 + c) * 256 + d ≡ n = cc (h) in
    omega arith
quad_small [] n all h = absurd (cc)
quad_small (a ∷ []) n all h = absurd (cc)
quad_small (a ∷ b ∷ []) n all h = absurd (cc)
quad_small (a ∷ b ∷ c ∷ []) n all h = absurd (cc)
quad_small (a ∷ b ∷ c ∷ d ∷ e ∷ more) n all h = absurd (cc)

-- the number of four bytes is an IPv4 address
pub quad_below : (text : List ℕ) (n : ℕ) → quad_of_text text ≡ Some n → n < 2 ^ 32
quad_below text n h =
    let step = and_then_some (parts_of Decimal text) quad_number n h in
    quad_small step.0 n (decimal_bytes [] (slice_split (λ b. b == 46) text) step.0 refl step.1) step.2

only_part : (o : Option (List ℕ)) → option_and_then (λ longer. Some longer) o ≡ o
only_part (Some x) = refl
only_part None = refl

-- the last part
pub last_part : (notation : Notation) (parts bs : List ℕ) → parts_from notation parts (bs ∷ []) ≡ with_part notation parts bs
last_part notation parts bs = only_part (with_part notation parts bs)

-- one part further
pub next_part : (notation : Notation) (parts bs whole : List ℕ) (at : ℕ) → position (λ b. b == mark_of notation) bs ≡ Some at
    → parts_from notation parts (slice_split (λ b. b == mark_of notation) bs) ≡ parts_of notation whole
    → option_and_then (λ longer. parts_from notation longer (slice_split (λ b. b == mark_of notation) (drop (at + 1) bs))) (with_part notation parts (take at bs)) ≡ parts_of notation whole
next_part notation parts bs whole at h leads =
    sym (ap (parts_from notation parts) (split_here (λ b. b == mark_of notation) bs at h)) ∙ leads

-- the part that no mark ends
pub end_part : (notation : Notation) (parts bs whole : List ℕ) → position (λ b. b == mark_of notation) bs ≡ None
    → parts_from notation parts (slice_split (λ b. b == mark_of notation) bs) ≡ parts_of notation whole
    → with_part notation parts bs ≡ parts_of notation whole
end_part notation parts bs whole h leads =
    sym (last_part notation parts bs) ∙ sym (ap (parts_from notation parts) (split_whole (λ b. b == mark_of notation) bs h)) ∙ leads

-- what a part leads to
pub with_next : (o : Option (List ℕ)) (f : List ℕ → Option (List ℕ)) (x : List ℕ) (r : Option (List ℕ)) → o ≡ Some x → option_and_then f o ≡ r → f x ≡ r
with_next o f x r h leads = sym (ap (option_and_then f) h) ∙ leads

pub with_none : (o : Option (List ℕ)) (f : List ℕ → Option (List ℕ)) (r : Option (List ℕ)) → o ≡ None → option_and_then f o ≡ r → None ≡ r
with_none o f r h leads = sym (ap (option_and_then f) h) ∙ leads
