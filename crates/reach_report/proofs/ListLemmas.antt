-- Lists that grow by what elements stand for.
use Rattle.std.proofs.Common.{◌≡◌, ◌<◌, ◌+◌, ℕ, List, [], ◌∷◌, ◌++◌, length, add-one, drop, drop-cons, get_or, append_assoc, refl, ap, sym, subst, ◌∙◌}
use Rattle.std.specs.Prelude.{Option, Some, None, filter_map, flat_map}
use Rattle.std.specs.List.{cons_option}

-- the elements from a place on are the one there and those behind it
cut_here : {A : Type 0} (xs items : List A) (i : ℕ) (x : A) → items ≡ xs → i < length items → x ≡ get_or items i x → drop i xs ≡ x ∷ drop (i + 1) xs
cut_here {A} xs items i x same lt is =
    let front : drop i items ≡ get_or items i x ∷ drop (i + 1) items = rw (add-one, drop-cons items i x) refl in
    let cut : drop i items ≡ x ∷ drop (i + 1) items = front ∙ ap (λ (z : A). z ∷ drop (i + 1) items) (sym is) in
    subst (λ (zs : List A). drop i zs ≡ x ∷ drop (i + 1) zs) same cut

optional_assoc : {B : Type 0} (out : List B) (o : Option B) (rest : List B) → (out ++ cons_option o []) ++ rest ≡ out ++ cons_option o rest
optional_assoc out None rest = append_assoc out [] rest
optional_assoc out (Some y) rest = append_assoc out (y ∷ []) rest

-- one more element, which may stand for something
pub kept_more : {A B : Type 0} (f : A → Option B) (xs items : List A) (i : ℕ) (out new : List B) (x : A) (all : List B) → items ≡ xs → i < length items → x ≡ get_or items i x
    → out ++ filter_map f (drop i xs) ≡ all → new ≡ out ++ cons_option (f x) [] → new ++ filter_map f (drop (i + 1) xs) ≡ all
kept_more {A} {B} f xs items i out new x all same lt is told put =
    let rest = filter_map f (drop (i + 1) xs) in
    let whole : out ++ filter_map f (x ∷ drop (i + 1) xs) ≡ all = ap (λ (zs : List A). out ++ filter_map f zs) (sym (cut_here xs items i x same lt is)) ∙ told in
    ap (λ (zs : List B). zs ++ rest) put ∙ (optional_assoc out (f x) rest ∙ whole)

-- one more, which stands for a list
pub joined_more : {A B : Type 0} (f : A → List B) (xs items : List A) (i : ℕ) (out new : List B) (x : A) (all : List B) → items ≡ xs → i < length items → x ≡ get_or items i x
    → out ++ flat_map f (drop i xs) ≡ all → new ≡ out ++ f x → new ++ flat_map f (drop (i + 1) xs) ≡ all
joined_more {A} {B} f xs items i out new x all same lt is told put =
    let rest = flat_map f (drop (i + 1) xs) in
    let whole : out ++ flat_map f (x ∷ drop (i + 1) xs) ≡ all = ap (λ (zs : List A). out ++ flat_map f zs) (sym (cut_here xs items i x same lt is)) ∙ told in
    ap (λ (zs : List B). zs ++ rest) put ∙ (append_assoc out (f x) rest ∙ whole)
