-- The rows of the tables as they are stored, columns in the order of the schema; a query shows the same columns.
use Rattle.std.specs.Prelude.{◌≡◌, ◌<◌, ◌^◌, ℕ, pos, true, List, [], ◌∷◌, ◌++◌, length}
use Rattle.std.specs.List.{All}
use Rattle.net_addr.specs.Moments.{IsMoment}
use Rattle.net_addr.specs.Bits.{IsBlock}
use Rattle.net_addr.specs.EndpointTexts.{endpoint_text}
use Rattle.net_addr.specs.PrefixTexts.{prefix_text}
use Rattle.net_rows.specs.declared.change.Counters.{Counters}
use Rattle.net_rows.specs.declared.key.AuthKey.{AuthKey}
use Rattle.net_rows.specs.declared.machine.Machine.{Machine}
use Rattle.net_rows.specs.declared.pending.Pending.{Pending}
use Rattle.net_rows.specs.declared.user.User.{User}
use Rattle.tail_base.specs.Labels.{is_label}
use Rattle.tail_base.specs.Logins.{is_login}
use Rattle.tail_base.specs.Tags.{is_tag}
use Rattle.tailcfg.specs.declared.dns.DnsExtra.{DnsExtra}
use Rattle.store_rows.specs.Addresses.{IsAddress, IsV4, IsV6, address_cell, address_text_cell}
use Rattle.store_rows.specs.Cells.{IsExpiry, expiry_cell, truth_cell}
use Rattle.store_rows.specs.Endpoints.{IsEndpoint}
use Rattle.store_rows.specs.Lists.{list_text}
use Rattle.store_rows.specs.declared.cell.Cell.{Cell}
use Rattle.store_rows.specs.declared.cell.Cell.TheVariants.{Blob, Number, Text}

-- the tags of a row
abbrev pub tags_cell : List (List ℕ) → Cell
tags_cell tags = Text (list_text (λ tag. tag) tags)

-- `meta`: k, version, next_user, next_key, next_pending, next_machine
abbrev pub meta_cells : Counters → List Cell
meta_cells next =
    Number (pos 1) ∷ Number (pos 1) ∷ Number (pos next.user) ∷ Number (pos next.key) ∷ Number (pos next.pending)
    ∷ Number (pos next.machine) ∷ []

pub record IsTypedCounters (next : Counters) : Type 0 where
  pub user : next.user < 2 ^ 32
  pub key : next.key < 2 ^ 32
  pub pending : next.pending < 2 ^ 32
  pub machine : next.machine < 2 ^ 32

-- `users`: id, login
abbrev pub user_cells : User → List Cell
user_cells user = Number (pos user.id) ∷ Text user.login ∷ []

pub record IsTypedUser (user : User) : Type 0 where
  pub id : user.id < 2 ^ 32
  pub login : is_login user.login ≡ true

-- `auth_keys`: id, secret, user, reusable, ephemeral, used, expiry, tags
abbrev pub auth_key_cells : AuthKey → List Cell
auth_key_cells key =
    Number (pos key.id) ∷ Text key.text ∷ Number (pos key.user)
    ∷ truth_cell key.reusable ∷ truth_cell key.ephemeral ∷ truth_cell key.used
    ∷ expiry_cell key.expiry ∷ tags_cell key.tags ∷ []

pub record IsTypedKey (key : AuthKey) : Type 0 where
  pub id : key.id < 2 ^ 32
  pub user : key.user < 2 ^ 32
  pub expiry : IsExpiry key.expiry
  pub tags : All (λ tag. is_tag tag ≡ true) key.tags

-- `pending`: id, secret, machine, node, host, routes, tags, ephemeral, expiry, made
abbrev pub pending_cells : Pending → List Cell
pending_cells p =
    Number (pos p.id) ∷ Text p.text ∷ Blob p.machine.0
    ∷ Blob p.node.0 ∷ Text p.host ∷ Text (list_text prefix_text p.routes)
    ∷ tags_cell p.tags ∷ truth_cell p.ephemeral ∷ expiry_cell p.expiry
    ∷ Number p.made ∷ []

pub record IsTypedPending (p : Pending) : Type 0 where
  pub id : p.id < 2 ^ 32
  pub machine : length p.machine.0 ≡ 32
  pub node : length p.node.0 ≡ 32
  pub routes : All IsBlock p.routes
  pub tags : All (λ tag. is_tag tag ≡ true) p.tags
  pub expiry : IsExpiry p.expiry
  pub made : IsMoment p.made

-- `machines`: id, user, machine, node, disco, host, name, v4, v6, ..
abbrev pub name_cells : Machine → List Cell
name_cells m =
    Number (pos m.id) ∷ Number (pos m.user) ∷ Blob m.machine.0
    ∷ Blob m.node.0 ∷ Blob m.disco.0 ∷ Text m.host
    ∷ Text m.name ∷ address_cell m.v4 ∷ address_cell m.v6 ∷ []

-- .. endpoints, derp, routes, approved, tags, ephemeral, expiry, created
abbrev pub way_cells : Machine → List Cell
way_cells m =
    Text (list_text endpoint_text m.endpoints) ∷ Number (pos m.derp) ∷ Text (list_text prefix_text m.routes)
    ∷ Text (list_text prefix_text m.approved) ∷ tags_cell m.tags ∷ truth_cell m.ephemeral
    ∷ expiry_cell m.expiry ∷ Number m.created ∷ []

-- all columns of a machine
abbrev pub machine_cells : Machine → List Cell
machine_cells m = name_cells m ++ way_cells m

-- The fields have values of their types, `v4` is an IPv4 address, and `v6` an IPv6 address.
pub record IsTypedMachine (m : Machine) : Type 0 where
  pub id : m.id < 2 ^ 32
  pub user : m.user < 2 ^ 32
  pub machine : length m.machine.0 ≡ 32
  pub node : length m.node.0 ≡ 32
  pub disco : length m.disco.0 ≡ 32
  pub name : is_label m.name ≡ true
  pub v4 : IsV4 m.v4
  pub v6 : IsV6 m.v6
  pub endpoints : All IsEndpoint m.endpoints
  pub derp : m.derp < 2 ^ 32
  pub routes : All IsBlock m.routes
  pub approved : All IsBlock m.approved
  pub tags : All (λ tag. is_tag tag ≡ true) m.tags
  pub expiry : IsExpiry m.expiry
  pub created : IsMoment m.created

-- `extras`: place, name, addr; the record of this place, counted from 1
abbrev pub extra_cells : ℕ → DnsExtra → List Cell
extra_cells place extra = Number (pos place) ∷ Text extra.name ∷ address_text_cell extra.addr ∷ []

abbrev pub IsTypedExtra : DnsExtra → Type 0
IsTypedExtra extra = IsAddress extra.addr

-- `policy`: k, body
abbrev pub policy_cells : List ℕ → List Cell
policy_cells body = Number (pos 1) ∷ Text body ∷ []
