-- No number in a body is a float.
use Rattle.std.proofs.Common.{◌≡◌, ℕ, List, [], ◌∷◌, Bool, false, ◌||◌, refl, ap, ◌∙◌, Option, Some, None}
use Rattle.serde_json.specs.Written.{has_float}
use Rattle.operator_requests.specs.Bodies.{admission_body, elements_of, key_body, list_data, only_member, tags_data, texts_data}

neither : (a b : Bool) → a ≡ false → b ≡ false → (a || b) ≡ false
neither a b x y = ap (λ v. v || b) x ∙ y

texts_plain : (texts : List (List ℕ)) → has_float (texts_data texts) ≡ false
texts_plain [] = refl
texts_plain (t ∷ ts) = texts_plain ts

tags_plain : (tags : Option (List ℕ)) → has_float (tags_data tags) ≡ false
tags_plain None = refl
tags_plain (Some list) = texts_plain (elements_of list)

-- a POST of one list
pub list_plain : (key list : List ℕ) → has_float (only_member key (list_data list)) ≡ false
list_plain key list = neither _ _ (texts_plain (elements_of list)) refl

-- a new key
pub key_plain : (login : List ℕ) (reusable ephemeral : Bool) (expiry tags : Option (List ℕ)) → has_float (key_body login reusable ephemeral expiry tags) ≡ false
unfolding key_body
key_plain login reusable ephemeral None tags = neither _ _ (tags_plain tags) refl
key_plain login reusable ephemeral (Some time) tags = neither _ _ (tags_plain tags) refl

-- an admission
pub admission_plain : (pending login : List ℕ) → has_float (admission_body pending login) ≡ false
unfolding admission_body
admission_plain pending login = refl
