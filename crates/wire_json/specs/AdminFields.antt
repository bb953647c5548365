-- The names of fields in the bodies that operators send.
use Rattle.std.specs.Prelude.{ℕ, List, codes}
use Rattle.wire_json.specs.declared.admin_field.AdminField.{AdminField}
use Rattle.wire_json.specs.declared.admin_field.AdminField.TheVariants as admin

-- the name of an operator's field
abbrev pub admin_field_name : AdminField → List ℕ
admin_field_name admin.Name = codes "name"
admin_field_name admin.User = codes "user"
admin_field_name admin.Reusable = codes "reusable"
admin_field_name admin.Ephemeral = codes "ephemeral"
admin_field_name admin.Expiry = codes "expiry"
admin_field_name admin.Tags = codes "tags"
admin_field_name admin.Routes = codes "routes"
admin_field_name admin.Id = codes "id"
admin_field_name admin.RecordName = codes "Name"
admin_field_name admin.RecordType = codes "Type"
admin_field_name admin.RecordValue = codes "Value"
