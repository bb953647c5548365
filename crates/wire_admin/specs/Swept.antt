-- How many rows a sweep removed: keys in byte order, without spaces.
use Rattle.std.specs.Prelude.{ℕ, List, codes}
use Rattle.serde_json.specs.Data.{Data, object, no_members, member}
use Rattle.serde_json.specs.Written.{compact_text}
use Rattle.wire_write.specs.Parts.{number_data}

-- so many machines, and so many pending entries
unfoldable pub swept_data : ℕ → ℕ → Data
swept_data machines pending = object (
    member (codes "machines") (number_data machines) (
    member (codes "pending") (number_data pending) no_members))

abbrev pub swept_text : ℕ → ℕ → List ℕ
swept_text machines pending = compact_text (swept_data machines pending)
