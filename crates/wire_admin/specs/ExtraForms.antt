-- The extra DNS records that operators send.
use Rattle.std.specs.Prelude.{ℕ, Bool, ◌||◌, ◌==◌, List, [], ◌∷◌, Option, Some, None, Result, Ok, if◌then◌else◌, is_some, length, option_and_then}
use Rattle.std.specs.Str.{bytes_eq}
use Rattle.serde_json.specs.Data.{Data, Items, no_items, item}
use Rattle.serde_json.specs.Find.{as_object, as_str}
use Rattle.tail_base.specs.Steps.{◌>>=◌, or_fault, refuse_unless}
use Rattle.net_addr.specs.AddrTexts.{addr_of_text}
use Rattle.net_addr.specs.Bits.{Address}
use Rattle.tailcfg.specs.declared.dns.DnsExtra.{DnsExtra}
use Rattle.settings.specs.Settings.{is_domain}
use Rattle.net_rows.specs.declared.limits.TheConstants.{EXTRA_LIMIT}
use Rattle.wire_json.specs.Body.{body_value, list_at}
use Rattle.wire_json.specs.Readers.{optional, required, short_array}
use Rattle.wire_json.specs.declared.admin_field.AdminField.TheVariants as admin
use Rattle.wire_json.specs.declared.fault.WireFault.{WireFault}
use Rattle.wire_json.specs.declared.fault.WireFault.TheVariants as fault
use Rattle.wire_json.specs.declared.field.Field.TheVariants as field
use Rattle.wire_write.specs.Dns.{record_type}

-- the fault of an element that is no object, and of a list that is too long, is that of `Name`
abbrev pub no_record : WireFault
no_record = fault.BadField (field.Admin admin.RecordName)

-- a text of labels joined by dots, no longer than a name in the DNS may be
abbrev pub domain_text : List ℕ → Option (List ℕ)
domain_text text = if is_domain text then Some text else None

-- a name, that has to be there
abbrev pub needed_name : Data → Result (List ℕ) WireFault
needed_name d = required (field.Admin admin.RecordName) (λ v. option_and_then domain_text (as_str v)) (Some d)

-- the text of a type; absent, it is empty
abbrev pub given_type : Data → Result (List ℕ) WireFault
given_type d = optional (field.Admin admin.RecordType) [] as_str (Some d)

-- an address, that has to be there
abbrev pub needed_addr : Data → Result Address WireFault
needed_addr d = required (field.Admin admin.RecordValue) (λ v. option_and_then addr_of_text (as_str v)) (Some d)

-- an empty type fits each address
abbrev pub fits_type : List ℕ → Address → Bool
fits_type given addr = length given == 0 || bytes_eq given (record_type addr)

-- any other has to be that of the address
abbrev pub type_checked : List ℕ → Address → Result (Unit {0}) WireFault
type_checked given addr = refuse_unless (fits_type given addr) (fault.BadField (field.Admin admin.RecordType))

-- A record: an object, whose type is tried against its address when that was read. The first fault counts.
unfoldable pub extra_at : Data → Result DnsExtra WireFault
extra_at d = do
  shape ← refuse_unless (is_some (as_object d)) no_record
  name ← needed_name d
  given ← given_type d
  addr ← needed_addr d
  fits ← type_checked given addr
  Ok (record { name = name; addr = addr })

-- the records that elements are, in their order
abbrev pub each_extra : Items → Result (List DnsExtra) WireFault
each_extra no_items = Ok []
each_extra (item d ds) = do
  extra ← extra_at d
  extras ← each_extra ds
  Ok (extra ∷ extras)

-- a list of them, whose length is tried first
abbrev pub extras_at : Data → Result (List DnsExtra) WireFault
extras_at d = or_fault no_record (short_array EXTRA_LIMIT d) >>= each_extra

-- the extra records from now on
abbrev pub extras_form_of_body : List ℕ → Result (List DnsExtra) WireFault
extras_form_of_body body = list_at (body_value body) >>= extras_at
