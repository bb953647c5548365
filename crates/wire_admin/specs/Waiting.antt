-- Machines that wait to be admitted, as operators are shown them: keys in byte order, without spaces.
use Rattle.std.specs.Prelude.{ℕ, List, codes}
use Rattle.serde_json.specs.Data.{Data, string, object, no_members, member}
use Rattle.serde_json.specs.Written.{compact_text}
use Rattle.net_rows.specs.declared.pending.Pending.{Pending}
use Rattle.wire_write.specs.Parts.{array_data, machine_key_data, node_key_data}

-- a machine that waits: `id` is the text by which it is admitted
unfoldable pub pending_data : Pending → Data
pending_data p = object (
    member (codes "host") (string p.host) (
    member (codes "id") (string p.text) (
    member (codes "machine") (machine_key_data p.machine) (
    member (codes "node") (node_key_data p.node) no_members))))

-- machines that wait, in their order
unfoldable pub waiting_data : List Pending → Data
waiting_data ps = object (member (codes "pending") (array_data pending_data ps) no_members)

abbrev pub waiting_text : List Pending → List ℕ
waiting_text ps = compact_text (waiting_data ps)
