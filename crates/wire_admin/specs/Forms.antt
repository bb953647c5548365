-- The bodies that operators send.
use Rattle.std.specs.Prelude.{ℕ, ℤ, List, [], false, Option, Some, None, Result, Ok}
use Rattle.serde_json.specs.Data.{Data}
use Rattle.serde_json.specs.Find.{as_str, as_bool}
use Rattle.tail_base.specs.Tags.{tag_of}
use Rattle.net_addr.specs.Bits.{Block}
use Rattle.net_addr.specs.Routes.{sorted_routes}
use Rattle.tailcfg.specs.declared.limits.TheConstants.{ASKED_TAG_LIMIT, ROUTE_LIMIT}
use Rattle.net_rows.specs.declared.limits.TheConstants.{TAG_LIMIT}
use Rattle.tail_base.specs.Steps.{◌>>=◌}
use Rattle.wire_json.specs.Body.{object_at, body_value}
use Rattle.wire_json.specs.Readers.{required, optional, some_time, short_list}
use Rattle.wire_json.specs.Register.{prefix_spelled}
use Rattle.wire_json.specs.declared.admin_field.AdminField.{AdminField}
use Rattle.wire_json.specs.declared.admin_field.AdminField.TheVariants as admin
use Rattle.wire_json.specs.declared.field.Field.TheVariants as field
use Rattle.wire_json.specs.declared.fault.WireFault.{WireFault}
use Rattle.desk_state.specs.declared.key_form.KeyForm.{KeyForm}
use Rattle.wire_admin.specs.declared.forms.AdmitForm.{AdmitForm}

-- a text that has to be there
abbrev pub needed_text : AdminField → Data → Result (List ℕ) WireFault
needed_text f d = required (field.Admin f) as_str (Some d)

-- a time that may be absent
abbrev pub some_expiry : Data → Result (Option ℤ) WireFault
some_expiry d = optional (field.Admin admin.Expiry) None some_time (Some d)

-- the name of a new user
abbrev pub user_form_of_body : List ℕ → Result (List ℕ) WireFault
user_form_of_body body = object_at (body_value body) >>= needed_text admin.Name

-- the fields in their order: the first fault counts
unfoldable pub key_form_at : Data → Result KeyForm WireFault
key_form_at d = do
  login ← needed_text admin.User d
  reusable ← optional (field.Admin admin.Reusable) false as_bool (Some d)
  ephemeral ← optional (field.Admin admin.Ephemeral) false as_bool (Some d)
  expiry ← some_expiry d
  tags ← optional (field.Admin admin.Tags) [] (short_list ASKED_TAG_LIMIT tag_of) (Some d)
  Ok (record { login = login; reusable = reusable; ephemeral = ephemeral; expiry = expiry; tags = tags })

-- what is asked of a new key
abbrev pub key_form_of_body : List ℕ → Result KeyForm WireFault
key_form_of_body body = object_at (body_value body) >>= key_form_at

-- the time from which a node key has expired, where one is given
abbrev pub expiry_form_of_body : List ℕ → Result (Option ℤ) WireFault
expiry_form_of_body body = object_at (body_value body) >>= some_expiry

-- the new name of a machine
abbrev pub rename_form_of_body : List ℕ → Result (List ℕ) WireFault
rename_form_of_body body = object_at (body_value body) >>= needed_text admin.Name

-- the tags, that have to be there
abbrev pub needed_tags : Data → Result (List (List ℕ)) WireFault
needed_tags d = required (field.Admin admin.Tags) (short_list TAG_LIMIT tag_of) (Some d)

-- the new tags of a machine
abbrev pub tags_form_of_body : List ℕ → Result (List (List ℕ)) WireFault
tags_form_of_body body = object_at (body_value body) >>= needed_tags

-- the routes, that have to be there
abbrev pub needed_routes : Data → Result (List Block) WireFault
needed_routes d = required (field.Admin admin.Routes) (short_list ROUTE_LIMIT prefix_spelled) (Some d)

-- such routes in order, each once
abbrev pub routes_form_at : Data → Result (List Block) WireFault
routes_form_at d = needed_routes d >>= (λ routes. Ok (sorted_routes routes))

-- the routes of a machine that are approved
abbrev pub routes_form_of_body : List ℕ → Result (List Block) WireFault
routes_form_of_body body = object_at (body_value body) >>= routes_form_at

-- the entry, and then the user
unfoldable pub admit_form_at : Data → Result AdmitForm WireFault
admit_form_at d = do
  pending ← needed_text admin.Id d
  login ← needed_text admin.User d
  Ok (record { pending = pending; login = login })

-- who is admitted, and for whom
abbrev pub admit_form_of_body : List ℕ → Result AdmitForm WireFault
admit_form_of_body body = object_at (body_value body) >>= admit_form_at

-- a body that has to be an object, of which no field is read
abbrev pub empty_form_of_body : List ℕ → Result (Unit {0}) WireFault
empty_form_of_body body = object_at (body_value body) >>= (λ d. Ok tt)
