-- What the value of a field says, if it has the field's form.
use Rattle.std.specs.Prelude.{ℕ, ℤ, List, [], ◌∷◌, Bool, if◌then◌else◌, nat_le, int_lt, Option, Some, None, Result, Ok, Err, codes, option_and_then, option_map, is_some, replicate, length}
use Rattle.std.specs.Str.{bytes_eq}
use Rattle.serde_json.specs.Data.{Data, Items, no_items, item}
use Rattle.serde_json.specs.Find.{as_str, as_object, as_array, as_number, as_u64}
use Rattle.serde_json.specs.Events.{items_len}
use Rattle.net_addr.specs.Moments.{first_moment}
use Rattle.net_addr.specs.MomentReads.{moment_of_text}
use Rattle.tail_base.specs.declared.key.DiscoKey.{DiscoKey}
use Rattle.tail_base.specs.declared.key.NodeKey.{NodeKey}
use Rattle.tail_base.specs.Keys.{key_of_text}
use Rattle.tail_base.specs.Steps.{or_fault}
use Rattle.wire_json.specs.Body.{field_of}
use Rattle.wire_json.specs.declared.field.Field.{Field}
use Rattle.wire_json.specs.declared.fault.WireFault.{WireFault}
use Rattle.wire_json.specs.declared.fault.WireFault.TheVariants as fault

-- a value that has to be there
abbrev pub there : {A : Type 0} → Field → (Data → Option A) → Option Data → Result A WireFault
there f reads None = Err (fault.Missing f)
there f reads (Some d) = or_fault (fault.BadField f) (reads d)

-- a field that has to be there
abbrev pub required : {A : Type 0} → Field → (Data → Option A) → Option Data → Result A WireFault
required f reads object = there f reads (field_of f object)

-- a value that may be absent
abbrev pub given_or : {A : Type 0} → Field → A → (Data → Option A) → Option Data → Result A WireFault
given_or f default reads None = Ok default
given_or f default reads (Some d) = or_fault (fault.BadField f) (reads d)

-- a field that may be absent: then it has that value
abbrev pub optional : {A : Type 0} → Field → A → (Data → Option A) → Option Data → Result A WireFault
optional f default reads object = given_or f default reads (field_of f object)

-- an object, or nothing where it is absent
abbrev pub some_object : Data → Option (Option Data)
some_object d = if is_some (as_object d) then Some (Some d) else None

-- a field that is an object, if it is there
abbrev pub object_of : Field → Option Data → Result (Option Data) WireFault
object_of f object = optional f None some_object object

-- all bytes are zero
abbrev pub is_zero : List ℕ → Bool
is_zero key = bytes_eq key (replicate 32 0)

-- a node key, unless it is zero
abbrev pub node_key_unless_zero : List ℕ → Option NodeKey
node_key_unless_zero key = if is_zero key then None else Some (record { 0 = key })

-- the 32 bytes of a node key
abbrev pub node_key_text : Data → Option (List ℕ)
node_key_text d = option_and_then (key_of_text (codes "nodekey:")) (as_str d)

-- a node key that isn't zero
abbrev pub node_key : Data → Option NodeKey
node_key d = option_and_then node_key_unless_zero (node_key_text d)

-- a node key, of which zero stands for none
abbrev pub some_node_key : Data → Option (Option NodeKey)
some_node_key d = option_map node_key_unless_zero (node_key_text d)

-- a disco key, unless it is zero
abbrev pub disco_key_unless_zero : List ℕ → Option DiscoKey
disco_key_unless_zero key = if is_zero key then None else Some (record { 0 = key })

-- a disco key, of which zero stands for none
abbrev pub some_disco_key : Data → Option (Option DiscoKey)
some_disco_key d = option_map disco_key_unless_zero (option_and_then (key_of_text (codes "discokey:")) (as_str d))

-- a time, unless it is Go's zero time, 0001-01-01T00:00:00Z
abbrev pub unless_zero_time : ℤ → Option ℤ
unless_zero_time t = if int_lt first_moment t then Some t else None

-- a time in the form of RFC 3339, of which the zero time stands for none
abbrev pub some_time : Data → Option (Option ℤ)
some_time d = option_map unless_zero_time (option_and_then moment_of_text (as_str d))

-- a number up to a greatest
abbrev pub up_to : ℕ → ℕ → Option ℕ
up_to limit n = if nat_le n limit then Some n else None

-- a whole number from 0 in plain digits
abbrev pub whole : Data → Option ℕ
whole d = option_and_then as_u64 (as_number d)

-- such a number up to a greatest
abbrev pub whole_up_to : ℕ → Data → Option ℕ
whole_up_to limit d = option_and_then (up_to limit) (whole d)

-- a text of at most so many bytes
abbrev pub short : ℕ → List ℕ → Option (List ℕ)
short limit text = if nat_le (length text) limit then Some text else None

-- such a text, where it is given
abbrev pub some_short_text : ℕ → Data → Option (Option (List ℕ))
some_short_text limit d = option_map Some (option_and_then (short limit) (as_str d))

-- each value is a text that spells an element
abbrev pub all_spelled : {A : Type 0} → (List ℕ → Option A) → Items → Option (List A)
all_spelled spells no_items = Some []
all_spelled spells (item d ds) = option_and_then (λ x. option_map (λ xs. x ∷ xs) (all_spelled spells ds)) (option_and_then spells (as_str d))

-- a list of at most so many values, as sent
abbrev pub short_items : ℕ → Items → Option Items
short_items limit ds = if nat_le (items_len ds) limit then Some ds else None

-- a list of at most so many values
abbrev pub short_array : ℕ → Data → Option Items
short_array limit d = option_and_then (short_items limit) (as_array d)

-- a list of at most so many texts, each of which spells an element
abbrev pub short_list : {A : Type 0} → ℕ → (List ℕ → Option A) → Data → Option (List A)
short_list limit spells d = option_and_then (all_spelled spells) (short_array limit d)
