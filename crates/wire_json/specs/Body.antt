-- Bodies as functions of the value that their JSON text has: the first fault counts.
use Rattle.std.specs.Prelude.{ℕ, List, if◌then◌else◌, Option, Some, None, Result, Ok, Err, option_and_then, is_some}
use Rattle.std.specs.Str.{is_utf8}
use Rattle.serde_json.specs.Data.{Data}
use Rattle.serde_json.specs.Read.{read}
use Rattle.serde_json.specs.Find.{get, as_array, as_null, as_object}
use Rattle.tail_base.specs.Steps.{or_fault}
use Rattle.wire_json.specs.Fields.{field_name}
use Rattle.wire_json.specs.declared.field.Field.{Field}
use Rattle.wire_json.specs.declared.fault.WireFault.{WireFault}
use Rattle.wire_json.specs.declared.fault.WireFault.TheVariants as fault

-- `null` is as absent
abbrev pub unless_null : Data → Option Data
unless_null d = if is_some (as_null d) then None else Some d

-- a member that is there and not null; of members with one key the last counts
abbrev pub member_of : List ℕ → Data → Option Data
member_of name d = option_and_then unless_null (get name d)

-- a field of an object, where there is an object
abbrev pub field_of : Field → Option Data → Option Data
field_of f object = option_and_then (member_of (field_name f)) object

-- the object that a read text is, if it is one
unfoldable pub object_at : Option Data → Result Data WireFault
object_at read = or_fault fault.NotJson (option_and_then (λ d. if is_some (as_object d) then Some d else None) read)

-- the list that a read text is, if it is one
unfoldable pub list_at : Option Data → Result Data WireFault
list_at read = or_fault fault.NotJson (option_and_then (λ d. if is_some (as_array d) then Some d else None) read)

-- the value that a body is, if it is UTF-8 and a JSON text (RFC 8259)
abbrev pub body_value : List ℕ → Option Data
body_value body = if is_utf8 body then read body else None
