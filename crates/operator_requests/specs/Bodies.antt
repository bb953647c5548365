-- The bodies of requests: compact JSON, keys in byte order.
use Rattle.std.specs.Prelude.{ℕ, Bool, List, [], Option, Some, None, codes, map, if◌then◌else◌, ◌==◌}
use Rattle.std.specs.List.{slice_split}
use Rattle.std.specs.Str.{bytes_eq}
use Rattle.serde_json.specs.Data.{Data, string, boolean, array, object, Members, no_members, member}
use Rattle.serde_json.specs.View.{items_of}

-- The elements of a LIST: it is cut at each comma, and `none` alone is the empty list.
abbrev pub elements_of : List ℕ → List (List ℕ)
elements_of list = if bytes_eq list (codes "none") then [] else slice_split (λ b. b == 44) list

-- a list of texts
abbrev pub texts_data : List (List ℕ) → Data
texts_data texts = array (items_of (map string texts))

abbrev pub list_data : List ℕ → Data
list_data list = texts_data (elements_of list)

-- the tags of a key: none where they aren't given
abbrev pub tags_data : Option (List ℕ) → Data
tags_data None = texts_data []
tags_data (Some list) = list_data list

-- one member
abbrev pub only_member : List ℕ → Data → Data
only_member key d = object (member key d no_members)

-- the members of a new key from `reusable` on
abbrev pub key_members : List ℕ → Bool → Option (List ℕ) → Members
key_members login reusable tags =
    member (codes "reusable") (boolean reusable) (
    member (codes "tags") (tags_data tags) (
    member (codes "user") (string login) no_members))

-- an expiry, where it is given, before other members
abbrev pub and_expiry : Option (List ℕ) → Members → Members
and_expiry None ms = ms
and_expiry (Some time) ms = member (codes "expiry") (string time) ms

-- a new key
unfoldable pub key_body : List ℕ → Bool → Bool → Option (List ℕ) → Option (List ℕ) → Data
key_body login reusable ephemeral expiry tags =
    object (member (codes "ephemeral") (boolean ephemeral) (and_expiry expiry (key_members login reusable tags)))

-- a machine that is admitted
unfoldable pub admission_body : List ℕ → List ℕ → Data
admission_body pending login =
    object (member (codes "id") (string pending) (member (codes "user") (string login) no_members))
