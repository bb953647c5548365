-- Which rows a database gives back as they were stored: values of their types, whose texts are UTF-8.
use Rattle.std.specs.Prelude.{◌≡◌, ◌<◌, ◌^◌, ℕ, true, false, List, length, IfSome, ⊤}
use Rattle.std.specs.List.{All, AllByRecursion}
use Rattle.std.specs.Str.{is_utf8}
use Rattle.net_addr.specs.Moments.{IsMoment}
use Rattle.net_addr.specs.AddrTexts.{addr_text}
use Rattle.net_addr.specs.Bits.{IsBlock}
use Rattle.net_rows.specs.declared.change.Change.{Change}
use Rattle.net_rows.specs.declared.change.Row.{Row}
use Rattle.net_rows.specs.declared.change.Row.TheVariants as row
use Rattle.net_rows.specs.declared.machine.Machine.{Machine}
use Rattle.net_rows.specs.declared.rows.Rows.{Rows}
use Rattle.tail_base.specs.Labels.{is_label}
use Rattle.tail_base.specs.Tags.{is_tag}
use Rattle.tailcfg.specs.declared.dns.DnsExtra.{DnsExtra}
use Rattle.store_rows.specs.Addresses.{IsAddress}
use Rattle.store_rows.specs.Cells.{IsExpiry}
use Rattle.store_rows.specs.Endpoints.{IsEndpoint}
use Rattle.store_rows.specs.Rows.{IsTypedCounters, IsTypedExtra, IsTypedKey, IsTypedMachine, IsTypedPending, IsTypedUser, auth_key_cells, machine_cells, name_cells, pending_cells, user_cells, way_cells}
use Rattle.store_rows.specs.declared.cell.Cell.{Cell}
use Rattle.store_rows.specs.declared.cell.Cell.TheVariants.{Null, Number, Text, Blob, Other}

-- a database gives the cell back as it was stored
abbrev pub IsGivenBack : Cell → Type 0
IsGivenBack Null = ⊤
IsGivenBack (Number n) = ⊤
IsGivenBack (Text bytes) = is_utf8 bytes ≡ true
IsGivenBack (Blob bytes) = ⊤
IsGivenBack Other = ⊥

-- The value is one of its type, and its cell is given back.
abbrev pub IsWritable : {T : Type 0} → (T → Cell) → (T → Type 0) → T → Type 0
IsWritable stored Has x = Has x × IsGivenBack (stored x)

-- The fields have values of their types, and the texts are UTF-8.
abbrev pub IsReadable : {T : Type 0} → (T → List Cell) → (T → Type 0) → T → Type 0
IsReadable cells Typed x = Typed x × AllByRecursion IsGivenBack (cells x)

-- The same of an extra record, whatever its place.
abbrev pub IsReadableExtra : DnsExtra → Type 0
IsReadableExtra x = IsTypedExtra x × (is_utf8 x.name ≡ true) × (is_utf8 (addr_text x.addr) ≡ true)

-- The addresses are of the families that their columns are for.
pub record HasFamilies (m : Machine) : Type 0 where
  pub v4 : m.v4.v6 ≡ false
  pub v6 : m.v6.v6 ≡ true

-- What each machine has up to its addresses, as it is written.
pub record AreNamesReadable (m : Machine) : Type 0 where
  pub id : m.id < 2 ^ 32
  pub user : m.user < 2 ^ 32
  pub machine : length m.machine.0 ≡ 32
  pub node : length m.node.0 ≡ 32
  pub disco : length m.disco.0 ≡ 32
  pub name : is_label m.name ≡ true
  pub v4 : IsAddress m.v4
  pub v6 : IsAddress m.v6
  pub texts : AllByRecursion IsGivenBack (name_cells m)

-- What each machine has from its endpoints on, as it is written.
pub record AreWaysReadable (m : Machine) : Type 0 where
  pub endpoints : All IsEndpoint m.endpoints
  pub derp : m.derp < 2 ^ 32
  pub routes : All IsBlock m.routes
  pub approved : All IsBlock m.approved
  pub tags : All (λ tag. is_tag tag ≡ true) m.tags
  pub expiry : IsExpiry m.expiry
  pub created : IsMoment m.created
  pub texts : AllByRecursion IsGivenBack (way_cells m)

-- The same of a machine, if its addresses are of those families.
abbrev pub IsReadableMachine : Machine → Type 0
IsReadableMachine m = HasFamilies m → IsReadable machine_cells IsTypedMachine m

-- The row that is put is such a row.
abbrev pub IsReadableRow : Row → Type 0
IsReadableRow (row.User x) = IsReadable user_cells IsTypedUser x
IsReadableRow (row.Key x) = IsReadable auth_key_cells IsTypedKey x
IsReadableRow (row.Pending x) = IsReadable pending_cells IsTypedPending x
IsReadableRow (row.Machine x) = IsReadableMachine x
IsReadableRow (row.Extras xs) = AllByRecursion IsReadableExtra xs
IsReadableRow (row.Policy text) = is_utf8 text ≡ true

-- All rows that the change puts are such rows.
pub record IsReadableChange (change : Change) : Type 0 where
  pub puts : AllByRecursion IsReadableRow change.puts
  pub next : IsTypedCounters change.next

-- All rows are such rows.
pub record AreReadable (rows : Rows) : Type 0 where
  pub next : IsTypedCounters rows.next
  pub users : AllByRecursion (IsReadable user_cells IsTypedUser) rows.users
  pub keys : AllByRecursion (IsReadable auth_key_cells IsTypedKey) rows.keys
  pub pending : AllByRecursion (IsReadable pending_cells IsTypedPending) rows.pending
  pub machines : AllByRecursion (IsReadable machine_cells IsTypedMachine) rows.machines
  pub extras : AllByRecursion IsReadableExtra rows.extras
  pub policy : IfSome rows.policy (λ body. is_utf8 body ≡ true)
