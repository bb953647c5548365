-- The names of fields in JSON: as `tailcfg` has them, and those of operators.
use Rattle.std.specs.Prelude.{ℕ, List, codes}
use Rattle.wire_json.specs.AdminFields.{admin_field_name}
use Rattle.wire_json.specs.declared.field.Field.{Field}
use Rattle.wire_json.specs.declared.field.Field.TheVariants as field

-- the name of a field
abbrev pub field_name : Field → List ℕ
field_name field.Auth = codes "Auth"
field_name field.AuthKey = codes "AuthKey"
field_name field.Compress = codes "Compress"
field_name field.DiscoKey = codes "DiscoKey"
field_name field.Endpoints = codes "Endpoints"
field_name field.Ephemeral = codes "Ephemeral"
field_name field.Expiry = codes "Expiry"
field_name field.Hostinfo = codes "Hostinfo"
field_name field.Hostname = codes "Hostname"
field_name field.MapSessionHandle = codes "MapSessionHandle"
field_name field.MapSessionSeq = codes "MapSessionSeq"
field_name field.NetInfo = codes "NetInfo"
field_name field.NodeKey = codes "NodeKey"
field_name field.OldNodeKey = codes "OldNodeKey"
field_name field.OmitPeers = codes "OmitPeers"
field_name field.PreferredDerp = codes "PreferredDERP"
field_name field.ReadOnly = codes "ReadOnly"
field_name field.RequestTags = codes "RequestTags"
field_name field.RoutableIps = codes "RoutableIPs"
field_name field.Stream = codes "Stream"
field_name (field.Admin f) = admin_field_name f
