-- No number that is written is a float.
use Rattle.std.proofs.Common.{◌≡◌, List, [], ◌∷◌, Bool, false, ◌||◌, refl, ap, ◌∙◌, Option, Some, None, ℤ}
use Rattle.std.specs.Prelude.{map}
use Rattle.serde_json.specs.Data.{Data}
use Rattle.serde_json.specs.View.{items_of}
use Rattle.serde_json.specs.Written.{has_float, items_have_float}
use Rattle.net_addr.specs.Bits.{Block}
use Rattle.wire_write.specs.Parts.{moment_data, prefix_data, time_data}

pub neither : (a b : Bool) → a ≡ false → b ≡ false → (a || b) ≡ false
neither a b x y = ap (λ v. v || b) x ∙ y

pub items_plain : {X : Type 0} (f : X → Data) (xs : List X) → ((x : X) → has_float (f x) ≡ false) → items_have_float (items_of (map f xs)) ≡ false
items_plain f [] h = refl
items_plain f (x ∷ xs) h = neither (has_float (f x)) (items_have_float (items_of (map f xs))) (h x) (items_plain f xs h)

pub time_plain : (t : Option ℤ) → has_float (time_data t) ≡ false
unfolding moment_data
time_plain None = refl
time_plain (Some t) = refl

pub prefix_plain : (p : Block) → has_float (prefix_data p) ≡ false
unfolding prefix_data
prefix_plain p = refl
