-- JSON tells the values that it was made of; and it is a tree if they are.
use Rattle.std.proofs.Common.{◌≡◌, ℕ, suc, List, [], ◌∷◌, Bool, Option, Some, None, refl, ap, ap₂}
use Rattle.std.specs.Prelude.{⊤, IfSome, map, option_map}
use Rattle.std.specs.List.{AllByRecursion}
use Rattle.serde_json.specs.Data.{Data, string, boolean, array, object, Items, Members, member}
use Rattle.serde_json.specs.View.{items_of}
use Rattle.wire_write.specs.Parts.{array_data, number_data, some_array}
use Rattle.wire_laws.specs.Trees.{AreTrees, IsTree}

-- no two values of a kind have one form
abbrev pub Tells : {X Y : Type 0} → (X → Y) → (X → Type 0) → Type 0
Tells {X} f P = (x y : X) → P x → P y → f x ≡ f y → x ≡ y

pub strings_tell : (s t : List ℕ) → string s ≡ string t → s ≡ t
strings_tell s t e = cc (e)

pub booleans_tell : (a b : Bool) → boolean a ≡ boolean b → a ≡ b
booleans_tell a b e = cc (e)

pub numbers_tell : (m n : ℕ) → number_data m ≡ number_data n → m ≡ n
numbers_tell m n e = cc (e)

pub objects_tell : (ms ns : Members) → object ms ≡ object ns → ms ≡ ns
objects_tell ms ns e = cc (e)

value_same : (k : List ℕ) (d e : Data) (ms ns : Members) → member k d ms ≡ member k e ns → d ≡ e
value_same k d e ms ns h = cc (h)

rest_same : (k : List ℕ) (d e : Data) (ms ns : Members) → member k d ms ≡ member k e ns → ms ≡ ns
rest_same k d e ms ns h = cc (h)

-- a member's value, and the members behind it
pub members_tell : (k : List ℕ) (d e : Data) (ms ns : Members) → member k d ms ≡ member k e ns → (d ≡ e) × (ms ≡ ns)
members_tell k d e ms ns h = (value_same k d e ms ns h, rest_same k d e ms ns h)

-- ---- lists

items_tell : {X : Type 0} (f : X → Data) (P : X → Type 0) → Tells f P → (xs ys : List X) → AllByRecursion P xs → AllByRecursion P ys → items_of (map f xs) ≡ items_of (map f ys) → xs ≡ ys
items_tell f P tells [] [] p q e = refl
items_tell f P tells [] (y ∷ ys) p q e = absurd (cc (e))
items_tell f P tells (x ∷ xs) [] p q e = absurd (cc (e))
items_tell f P tells (x ∷ xs) (y ∷ ys) p q e =
    let first : f x ≡ f y = cc (e) in
    let rest : items_of (map f xs) ≡ items_of (map f ys) = cc (e) in
    ap₂ (λ z zs. z ∷ zs) (tells x y p.0 q.0 first) (items_tell f P tells xs ys p.1 q.1 rest)

items_same : (ds es : Items) → array ds ≡ array es → ds ≡ es
items_same ds es h = cc (h)

pub arrays_tell : {X : Type 0} (f : X → Data) (P : X → Type 0) → Tells f P → Tells (array_data f) (AllByRecursion P)
arrays_tell f P tells xs ys p q e = items_tell f P tells xs ys p q (items_same _ _ e)

pub everywhere : {X : Type 0} (xs : List X) → AllByRecursion (λ x. ⊤) xs
everywhere [] = tt
everywhere (x ∷ xs) = (tt, everywhere xs)

pub texts_tell : (ss ts : List (List ℕ)) → array_data string ss ≡ array_data string ts → ss ≡ ts
texts_tell ss ts e = arrays_tell string (λ s. ⊤) (λ s t p q. strings_tell s t) ss ts (everywhere ss) (everywhere ts) e

some_tells : (d e : Data) → Some d ≡ Some e → d ≡ e
some_tells d e h = cc (h)

-- what isn't there has no form
pub options_tell : {X : Type 0} (f : X → Data) (P : X → Type 0) → Tells f P → (o p : Option X) → IfSome o P → IfSome p P → option_map f o ≡ option_map f p → o ≡ p
options_tell f P tells None None h k e = refl
options_tell f P tells None (Some y) h k e = absurd (cc (e))
options_tell f P tells (Some x) None h k e = absurd (cc (e))
options_tell f P tells (Some x) (Some y) h k e = ap Some (tells x y h k (some_tells (f x) (f y) e))

-- an empty list has none either
pub lists_tell : {X : Type 0} (f : X → Data) (P : X → Type 0) → Tells f P → (xs ys : List X) → AllByRecursion P xs → AllByRecursion P ys → some_array f xs ≡ some_array f ys → xs ≡ ys
lists_tell f P tells [] [] p q e = refl
lists_tell f P tells [] (y ∷ ys) p q e = absurd (cc (e))
lists_tell f P tells (x ∷ xs) [] p q e = absurd (cc (e))
lists_tell f P tells (x ∷ xs) (y ∷ ys) p q e = arrays_tell f P tells (x ∷ xs) (y ∷ ys) p q (some_tells _ _ e)

-- ---- trees

-- the forms are trees, of values of a kind
abbrev pub Grows : {X : Type 0} → (X → Data) → (X → Type 0) → ℕ → Type 0
Grows {X} f P n = (x : X) → P x → IsTree n (f x)

items_grow : {X : Type 0} (f : X → Data) (P : X → Type 0) (n : ℕ) → Grows f P n → (xs : List X) → AllByRecursion P xs → AreTrees n (items_of (map f xs))
items_grow f P n grows [] p = tt
items_grow f P n grows (x ∷ xs) p = (grows x p.0, items_grow f P n grows xs p.1)

pub arrays_grow : {X : Type 0} (f : X → Data) (P : X → Type 0) (n : ℕ) → Grows f P n → Grows (array_data f) (AllByRecursion P) (suc n)
arrays_grow f P n grows xs p = items_grow f P n grows xs p

pub texts_grow : (n : ℕ) (ss : List (List ℕ)) → IsTree (suc n) (array_data string ss)
texts_grow n ss = arrays_grow string (λ s. ⊤) n (λ s p. tt) ss (everywhere ss)

-- it is a tree, where there is one
pub options_grow : {X : Type 0} (f : X → Data) (P : X → Type 0) (n : ℕ) → Grows f P n → (o : Option X) → IfSome o P → IfSome (option_map f o) (IsTree n)
options_grow f P n grows None h = tt
options_grow f P n grows (Some x) h = grows x h

pub lists_grow : {X : Type 0} (f : X → Data) (P : X → Type 0) (n : ℕ) → Grows f P n → (xs : List X) → AllByRecursion P xs → IfSome (some_array f xs) (IsTree (suc n))
lists_grow f P n grows [] p = tt
lists_grow f P n grows (x ∷ xs) p = arrays_grow f P n grows (x ∷ xs) p
