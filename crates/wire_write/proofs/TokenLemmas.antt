-- The tokens of lists and objects, and the text of tokens.
use Rattle.std.proofs.Common.{◌≡◌, ℕ, List, [], ◌∷◌, ◌++◌, refl, sym, ap, ap₂, ◌∙◌, ◌==◌, false, length, append_assoc, append-nil}
use Rattle.std.specs.Prelude.{map}
use Rattle.json.specs.Token.{Token, key, begin_array, end_array, begin_object, end_object}
use Rattle.json.specs.Print.{print}
use Rattle.json.specs.Tree.{items_tokens}
use Rattle.json.specs.Written.{Written}
use Rattle.serde_json.specs.Data.{Data, object, Members, no_members, member}
use Rattle.serde_json.specs.View.{items_of}
use Rattle.serde_json.specs.Written.{items_outline, compact_text}
use Rattle.serde_json.proofs.Texts.{print-outline}
use Rattle.wire_write.specs.Parts.{array_data, some_array}
use Rattle.wire_write.specs.Tokens.{Adds, data_tokens, closing_tokens, each_tokens, option_tokens}

pub print_data : (d : Data) → print (data_tokens d) ≡ compact_text d
unfolding data_tokens
print_data d = print-outline d

-- the bytes that a writer began behind, and the text of the tokens that were added
pub printed : {bytes made : List ℕ} {ts : List Token} {a b : Written} → a.before ≡ bytes → a.tokens ≡ [] → Adds ts a b → made ≡ b.before ++ print b.tokens → made ≡ bytes ++ print ts
printed {bytes} {made} {ts} before none wrote text =
    text ∙ ap₂ (λ xs us. xs ++ print us) (wrote.before ∙ before) (wrote.tokens ∙ ap (λ us. us ++ ts) none)

-- one after the other
pub then : {xs ys : List Token} {a b c : Written} → Adds xs a b → Adds ys b c → Adds (xs ++ ys) a c
then {xs} {ys} {a} p q = record {
  before = q.before ∙ p.before;
  tokens = q.tokens ∙ ap (λ ts. ts ++ ys) p.tokens ∙ append_assoc a.tokens xs ys;
}

-- nothing was added
pub nothing : {a : Written} → Adds [] a a
nothing {a} = record { before = refl; tokens = sym (append-nil a.tokens) }

pub recast : {xs ys : List Token} {a b : Written} → xs ≡ ys → Adds xs a b → Adds ys a b
recast {xs} {ys} {a} same p = record {
  before = p.before;
  tokens = p.tokens ∙ ap (λ ts. a.tokens ++ ts) same;
}

-- a member, and then others
pub next : {k : List ℕ} (d : Data) (ms : Members) {a b c : Written} → Adds (key k ∷ data_tokens d) a b → Adds (closing_tokens ms) b c → Adds (closing_tokens (member k d ms)) a c
unfolding data_tokens closing_tokens
next d ms p q = then p q

-- the closing brace
pub last : {a b : Written} → Adds (end_object ∷ []) a b → Adds (closing_tokens no_members) a b
unfolding closing_tokens
last p = p

-- an object with those members
pub opened : (ms : Members) {a b c : Written} → Adds (begin_object ∷ []) a b → Adds (closing_tokens ms) b c → Adds (data_tokens (object ms)) a c
unfolding data_tokens closing_tokens
opened ms p q = then p q

-- the elements in turn, and the closing bracket
items_each : {X : Type 0} (f : X → Data) (xs : List X) → items_tokens (items_outline (items_of (map f xs))) ≡ each_tokens f xs ++ end_array ∷ []
unfolding data_tokens
items_each f [] = refl
items_each f (x ∷ xs) = ap (λ ts. data_tokens (f x) ++ ts) (items_each f xs) ∙ sym (append_assoc (data_tokens (f x)) (each_tokens f xs) (end_array ∷ []))

pub array_each : {X : Type 0} (f : X → Data) (xs : List X) → begin_array ∷ (each_tokens f xs ++ end_array ∷ []) ≡ data_tokens (array_data f xs)
unfolding data_tokens
array_each f xs = ap (λ ts. begin_array ∷ ts) (sym (items_each f xs))

-- a list of those elements
pub listed : {X : Type 0} (f : X → Data) (xs : List X) {a b c d : Written} → Adds (begin_array ∷ []) a b → Adds (each_tokens f xs) b c → Adds (end_array ∷ []) c d → Adds (data_tokens (array_data f xs)) a d
listed f xs p q r = recast (array_each f xs) (then p (then q r))

-- a list of one
pub one_of : {X : Type 0} (f : X → Data) (x : X) {a b : Written} → Adds (data_tokens (f x)) a b → Adds (each_tokens f (x ∷ [])) a b
one_of f x p = recast (sym (append-nil (data_tokens (f x)))) p

-- a list that isn't empty, as a member
pub some_listed : {X : Type 0} (k : List ℕ) (f : X → Data) (xs : List X) {a b : Written} → (length xs == 0) ≡ false → Adds (key k ∷ data_tokens (array_data f xs)) a b → Adds (option_tokens k (some_array f xs)) a b
some_listed k f [] some p = cc
some_listed k f (x ∷ xs) some p = p
