-- Pre-auth keys as operators are shown them: keys in byte order, without spaces.
use Rattle.std.specs.Prelude.{ℕ, List, codes}
use Rattle.serde_json.specs.Data.{Data, string, boolean, object, Members, no_members, member}
use Rattle.serde_json.specs.Written.{compact_text}
use Rattle.desk_state.specs.declared.lines.KeyLine.{KeyLine}
use Rattle.wire_write.specs.Parts.{number_data, array_data, time_data}

-- the members from `reusable` on
abbrev pub use_members : KeyLine → Members
use_members k =
    member (codes "reusable") (boolean k.row.reusable) (
    member (codes "tags") (array_data string k.row.tags) (
    member (codes "used") (boolean k.row.used) (
    member (codes "user") (string k.login) no_members)))

-- a pre-auth key: its text, and the login of its user
unfoldable pub key_data : KeyLine → Data
key_data k = object (
    member (codes "ephemeral") (boolean k.row.ephemeral) (
    member (codes "expiry") (time_data k.row.expiry) (
    member (codes "id") (number_data k.row.id) (
    member (codes "key") (string k.row.text) (use_members k)))))

abbrev pub key_text : KeyLine → List ℕ
key_text k = compact_text (key_data k)

-- pre-auth keys in their order
unfoldable pub keys_data : List KeyLine → Data
keys_data ks = object (member (codes "keys") (array_data key_data ks) no_members)

abbrev pub keys_text : List KeyLine → List ℕ
keys_text ks = compact_text (keys_data ks)
