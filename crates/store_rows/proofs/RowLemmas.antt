-- No two values of a table have one row.
use Rattle.std.proofs.Common.{◌≡◌, ◌<◌, ◌^◌, ℕ, ℤ, pos, Bool, true, false, List, cond, Option, Some, None, refl, sym, ap, ◌∙◌}
use Rattle.std.specs.List.{All}
use Rattle.std.specs.Prelude.{slice_index_or}
use Rattle.std.specs.Result.{result_ok}
use Rattle.net_addr.specs.AddrTexts.{addr_text}
use Rattle.net_addr.specs.Bits.{Address, Block, IsBlock}
use Rattle.net_addr.specs.EndpointTexts.{endpoint_of_text, endpoint_text}
use Rattle.net_addr.specs.PrefixTexts.{prefix_of_text, prefix_text}
use Rattle.net_addr.specs.declared.endpoint.Endpoint.{Endpoint}
use Rattle.net_addr.proofs.TextLemmas.{addr_text-injective}
use Rattle.net_rows.specs.declared.change.Counters.{Counters}
use Rattle.net_rows.specs.declared.key.AuthKey.{AuthKey}
use Rattle.net_rows.specs.declared.machine.Machine.{Machine}
use Rattle.net_rows.specs.declared.pending.Pending.{Pending}
use Rattle.net_rows.specs.declared.user.User.{User}
use Rattle.tail_base.specs.Tags.{is_tag, tag_of}
use Rattle.tail_base.specs.declared.key.DiscoKey.{DiscoKey}
use Rattle.tail_base.specs.declared.key.MachineKey.{MachineKey}
use Rattle.tail_base.specs.declared.key.NodeKey.{NodeKey}
use Rattle.tailcfg.specs.declared.dns.DnsExtra.{DnsExtra}
use Rattle.store_rows.specs.Addresses.{IsV4, IsV6, address_cell, v6_bytes, v6_in}
use Rattle.store_rows.specs.Cells.{expiry_cell, truth_cell}
use Rattle.store_rows.specs.Endpoints.{IsEndpoint}
use Rattle.store_rows.specs.Lists.{list_text}
use Rattle.store_rows.specs.Rows.{IsTypedCounters, IsTypedExtra, IsTypedKey, IsTypedMachine, IsTypedPending, IsTypedUser, auth_key_cells, extra_cells, machine_cells, meta_cells, pending_cells, policy_cells, user_cells}
use Rattle.store_rows.specs.declared.cell.Cell.{Cell}
use Rattle.store_rows.specs.declared.cell.Cell.TheVariants.{Blob, Null, Number, Text}
use Rattle.store_rows.proofs.AddressLemmas.{IsV6Number, v4_stored, v6_again, v6_stored}
use Rattle.store_rows.proofs.ListLemmas.{list_text-injective}
use Rattle.store_rows.proofs.ReadLemmas.{guess_differ}
use Rattle.store_rows.proofs.RouteTexts.{endpoint_listed, prefix_listed}
use Rattle.store_rows.proofs.TagTexts.{tag_listed}

numbers_differ : (m n : ℕ) → Number (pos m) ≡ Number (pos n) → m ≡ n
numbers_differ m n e = cc (e)

moments_differ : (m n : ℤ) → Number m ≡ Number n → m ≡ n
moments_differ m n e = cc (e)

texts_differ : (s t : List ℕ) → Text s ≡ Text t → s ≡ t
texts_differ s t e = cc (e)

blobs_differ : (s t : List ℕ) → Blob s ≡ Blob t → s ≡ t
blobs_differ s t e = cc (e)

truths_differ : (a b : Bool) → truth_cell a ≡ truth_cell b → a ≡ b
truths_differ true true e = refl
truths_differ false false e = refl
truths_differ true false e = absurd (cc (numbers_differ 1 0 e))
truths_differ false true e = absurd (cc (numbers_differ 0 1 e))

expiries_differ : (a b : Option ℤ) → expiry_cell a ≡ expiry_cell b → a ≡ b
expiries_differ None None e = refl
expiries_differ (Some m) (Some n) e = ap Some (moments_differ m n e)
expiries_differ None (Some n) e = absurd (cc (e))
expiries_differ (Some m) None e = absurd (cc (e))

tags_differ : (a b : List (List ℕ)) → All (λ tag. is_tag tag ≡ true) a → All (λ tag. is_tag tag ≡ true) b → Text (list_text (λ tag. tag) a) ≡ Text (list_text (λ tag. tag) b) → a ≡ b
tags_differ a b left right e = list_text-injective (λ tag. tag) tag_of (λ tag. is_tag tag ≡ true) tag_listed a b left right (texts_differ _ _ e)

routes_differ : (a b : List Block) → All IsBlock a → All IsBlock b → Text (list_text prefix_text a) ≡ Text (list_text prefix_text b) → a ≡ b
routes_differ a b left right e = list_text-injective prefix_text (λ text. result_ok (prefix_of_text text)) IsBlock prefix_listed a b left right (texts_differ _ _ e)

endpoints_differ : (a b : List Endpoint) → All IsEndpoint a → All IsEndpoint b → Text (list_text endpoint_text a) ≡ Text (list_text endpoint_text b) → a ≡ b
endpoints_differ a b left right e = list_text-injective endpoint_text endpoint_of_text IsEndpoint endpoint_listed a b left right (texts_differ _ _ e)

-- the cell at a place
abbrev column : ℕ → List Cell → Cell
column place row = slice_index_or row place Null

address : Bool → ℕ → Address
address v6 bits = record { v6 = v6; bits = bits }

same_address : (a b : Address) → a.v6 ≡ b.v6 → a.bits ≡ b.bits → a ≡ b
unfolding address
same_address a b family bits = ap (λ v6. address v6 a.bits) family ∙ ap (address b.v6) bits

v4_differ : (a b : Address) → IsV4 a → IsV4 b → address_cell a ≡ address_cell b → a ≡ b
v4_differ a b left right e =
    same_address a b (left.family ∙ sym right.family) (numbers_differ _ _ (sym (v4_stored a left.family) ∙ e ∙ v4_stored b right.family))

small_v6 : (v6 : Bool) (bits : ℕ) → v6 ≡ true → bits < cond v6 (2 ^ 128) (2 ^ 32) → IsV6Number bits
small_v6 true bits e fits = fits
small_v6 false bits e fits = absurd (cc (e))

v6_differ : (a b : Address) → IsV6 a → IsV6 b → address_cell a ≡ address_cell b → a ≡ b
v6_differ a b left right e =
    let bytes = blobs_differ _ _ (sym (v6_stored a left.family) ∙ e ∙ v6_stored b right.family) in
    same_address a b (left.family ∙ sym right.family)
    (guess_differ v6_bytes IsV6Number v6_in v6_again a.bits b.bits (small_v6 a.v6 a.bits left.family left.number) (small_v6 b.v6 b.bits right.family right.number) bytes)

user_of : ℕ → List ℕ → User
user_of id login = record { id = id; login = login }

same_user : (a b : User) → a.id ≡ b.id → a.login ≡ b.login → a ≡ b
unfolding user_of
same_user a b id_same login_same =
    ap (λ z. user_of z a.login) id_same
    ∙ ap (λ z. user_of b.id z) login_same

pub user_cells-injective : (a b : User) → IsTypedUser a → IsTypedUser b → user_cells a ≡ user_cells b → a ≡ b
user_cells-injective a b left right e = same_user a b
    (numbers_differ a.id b.id (ap (column 0) e))
    (texts_differ a.login b.login (ap (column 1) e))

authkey_of : ℕ → List ℕ → ℕ → Bool → Bool → Bool → Option ℤ → List (List ℕ) → AuthKey
authkey_of id text user reusable ephemeral used expiry tags = record { id = id; text = text; user = user; reusable = reusable; ephemeral = ephemeral; used = used; expiry = expiry; tags = tags }

same_authkey : (a b : AuthKey) → a.id ≡ b.id → a.text ≡ b.text → a.user ≡ b.user → a.reusable ≡ b.reusable → a.ephemeral ≡ b.ephemeral → a.used ≡ b.used → a.expiry ≡ b.expiry → a.tags ≡ b.tags → a ≡ b
unfolding authkey_of
same_authkey a b id_same text_same user_same reusable_same ephemeral_same used_same expiry_same tags_same =
    ap (λ z. authkey_of z a.text a.user a.reusable a.ephemeral a.used a.expiry a.tags) id_same
    ∙ ap (λ z. authkey_of b.id z a.user a.reusable a.ephemeral a.used a.expiry a.tags) text_same
    ∙ ap (λ z. authkey_of b.id b.text z a.reusable a.ephemeral a.used a.expiry a.tags) user_same
    ∙ ap (λ z. authkey_of b.id b.text b.user z a.ephemeral a.used a.expiry a.tags) reusable_same
    ∙ ap (λ z. authkey_of b.id b.text b.user b.reusable z a.used a.expiry a.tags) ephemeral_same
    ∙ ap (λ z. authkey_of b.id b.text b.user b.reusable b.ephemeral z a.expiry a.tags) used_same
    ∙ ap (λ z. authkey_of b.id b.text b.user b.reusable b.ephemeral b.used z a.tags) expiry_same
    ∙ ap (λ z. authkey_of b.id b.text b.user b.reusable b.ephemeral b.used b.expiry z) tags_same

pub auth_key_cells-injective : (a b : AuthKey) → IsTypedKey a → IsTypedKey b → auth_key_cells a ≡ auth_key_cells b → a ≡ b
auth_key_cells-injective a b left right e = same_authkey a b
    (numbers_differ a.id b.id (ap (column 0) e))
    (texts_differ a.text b.text (ap (column 1) e))
    (numbers_differ a.user b.user (ap (column 2) e))
    (truths_differ a.reusable b.reusable (ap (column 3) e))
    (truths_differ a.ephemeral b.ephemeral (ap (column 4) e))
    (truths_differ a.used b.used (ap (column 5) e))
    (expiries_differ a.expiry b.expiry (ap (column 6) e))
    (tags_differ a.tags b.tags left.tags right.tags (ap (column 7) e))

pending_of : ℕ → List ℕ → MachineKey → NodeKey → List ℕ → List Block → List (List ℕ) → Bool → Option ℤ → ℤ → Pending
pending_of id text machine node host routes tags ephemeral expiry made = record { id = id; text = text; machine = machine; node = node; host = host; routes = routes; tags = tags; ephemeral = ephemeral; expiry = expiry; made = made }

same_pending : (a b : Pending) → a.id ≡ b.id → a.text ≡ b.text → a.machine ≡ b.machine → a.node ≡ b.node → a.host ≡ b.host → a.routes ≡ b.routes → a.tags ≡ b.tags → a.ephemeral ≡ b.ephemeral → a.expiry ≡ b.expiry → a.made ≡ b.made → a ≡ b
unfolding pending_of
same_pending a b id_same text_same machine_same node_same host_same routes_same tags_same ephemeral_same expiry_same made_same =
    ap (λ z. pending_of z a.text a.machine a.node a.host a.routes a.tags a.ephemeral a.expiry a.made) id_same
    ∙ ap (λ z. pending_of b.id z a.machine a.node a.host a.routes a.tags a.ephemeral a.expiry a.made) text_same
    ∙ ap (λ z. pending_of b.id b.text z a.node a.host a.routes a.tags a.ephemeral a.expiry a.made) machine_same
    ∙ ap (λ z. pending_of b.id b.text b.machine z a.host a.routes a.tags a.ephemeral a.expiry a.made) node_same
    ∙ ap (λ z. pending_of b.id b.text b.machine b.node z a.routes a.tags a.ephemeral a.expiry a.made) host_same
    ∙ ap (λ z. pending_of b.id b.text b.machine b.node b.host z a.tags a.ephemeral a.expiry a.made) routes_same
    ∙ ap (λ z. pending_of b.id b.text b.machine b.node b.host b.routes z a.ephemeral a.expiry a.made) tags_same
    ∙ ap (λ z. pending_of b.id b.text b.machine b.node b.host b.routes b.tags z a.expiry a.made) ephemeral_same
    ∙ ap (λ z. pending_of b.id b.text b.machine b.node b.host b.routes b.tags b.ephemeral z a.made) expiry_same
    ∙ ap (λ z. pending_of b.id b.text b.machine b.node b.host b.routes b.tags b.ephemeral b.expiry z) made_same

pub pending_cells-injective : (a b : Pending) → IsTypedPending a → IsTypedPending b → pending_cells a ≡ pending_cells b → a ≡ b
pending_cells-injective a b left right e = same_pending a b
    (numbers_differ a.id b.id (ap (column 0) e))
    (texts_differ a.text b.text (ap (column 1) e))
    (ap (λ (bytes : List ℕ). let k : MachineKey = record { 0 = bytes } in k) (blobs_differ a.machine.0 b.machine.0 (ap (column 2) e)))
    (ap (λ (bytes : List ℕ). let k : NodeKey = record { 0 = bytes } in k) (blobs_differ a.node.0 b.node.0 (ap (column 3) e)))
    (texts_differ a.host b.host (ap (column 4) e))
    (routes_differ a.routes b.routes left.routes right.routes (ap (column 5) e))
    (tags_differ a.tags b.tags left.tags right.tags (ap (column 6) e))
    (truths_differ a.ephemeral b.ephemeral (ap (column 7) e))
    (expiries_differ a.expiry b.expiry (ap (column 8) e))
    (moments_differ a.made b.made (ap (column 9) e))

machine_of : ℕ → ℕ → MachineKey → NodeKey → DiscoKey → List ℕ → List ℕ → Address → Address → List Endpoint → ℕ → List Block → List Block → List (List ℕ) → Bool → Option ℤ → ℤ → Machine
machine_of id user machine node disco host name v4 v6 endpoints derp routes approved tags ephemeral expiry created = record { id = id; user = user; machine = machine; node = node; disco = disco; host = host; name = name; v4 = v4; v6 = v6; endpoints = endpoints; derp = derp; routes = routes; approved = approved; tags = tags; ephemeral = ephemeral; expiry = expiry; created = created }

same_machine : (a b : Machine) → a.id ≡ b.id → a.user ≡ b.user → a.machine ≡ b.machine → a.node ≡ b.node → a.disco ≡ b.disco → a.host ≡ b.host → a.name ≡ b.name → a.v4 ≡ b.v4 → a.v6 ≡ b.v6 → a.endpoints ≡ b.endpoints → a.derp ≡ b.derp → a.routes ≡ b.routes → a.approved ≡ b.approved → a.tags ≡ b.tags → a.ephemeral ≡ b.ephemeral → a.expiry ≡ b.expiry → a.created ≡ b.created → a ≡ b
unfolding machine_of
same_machine a b id_same user_same machine_same node_same disco_same host_same name_same v4_same v6_same endpoints_same derp_same routes_same approved_same tags_same ephemeral_same expiry_same created_same =
    ap (λ z. machine_of z a.user a.machine a.node a.disco a.host a.name a.v4 a.v6 a.endpoints a.derp a.routes a.approved a.tags a.ephemeral a.expiry a.created) id_same
    ∙ ap (λ z. machine_of b.id z a.machine a.node a.disco a.host a.name a.v4 a.v6 a.endpoints a.derp a.routes a.approved a.tags a.ephemeral a.expiry a.created) user_same
    ∙ ap (λ z. machine_of b.id b.user z a.node a.disco a.host a.name a.v4 a.v6 a.endpoints a.derp a.routes a.approved a.tags a.ephemeral a.expiry a.created) machine_same
    ∙ ap (λ z. machine_of b.id b.user b.machine z a.disco a.host a.name a.v4 a.v6 a.endpoints a.derp a.routes a.approved a.tags a.ephemeral a.expiry a.created) node_same
    ∙ ap (λ z. machine_of b.id b.user b.machine b.node z a.host a.name a.v4 a.v6 a.endpoints a.derp a.routes a.approved a.tags a.ephemeral a.expiry a.created) disco_same
    ∙ ap (λ z. machine_of b.id b.user b.machine b.node b.disco z a.name a.v4 a.v6 a.endpoints a.derp a.routes a.approved a.tags a.ephemeral a.expiry a.created) host_same
    ∙ ap (λ z. machine_of b.id b.user b.machine b.node b.disco b.host z a.v4 a.v6 a.endpoints a.derp a.routes a.approved a.tags a.ephemeral a.expiry a.created) name_same
    ∙ ap (λ z. machine_of b.id b.user b.machine b.node b.disco b.host b.name z a.v6 a.endpoints a.derp a.routes a.approved a.tags a.ephemeral a.expiry a.created) v4_same
    ∙ ap (λ z. machine_of b.id b.user b.machine b.node b.disco b.host b.name b.v4 z a.endpoints a.derp a.routes a.approved a.tags a.ephemeral a.expiry a.created) v6_same
    ∙ ap (λ z. machine_of b.id b.user b.machine b.node b.disco b.host b.name b.v4 b.v6 z a.derp a.routes a.approved a.tags a.ephemeral a.expiry a.created) endpoints_same
    ∙ ap (λ z. machine_of b.id b.user b.machine b.node b.disco b.host b.name b.v4 b.v6 b.endpoints z a.routes a.approved a.tags a.ephemeral a.expiry a.created) derp_same
    ∙ ap (λ z. machine_of b.id b.user b.machine b.node b.disco b.host b.name b.v4 b.v6 b.endpoints b.derp z a.approved a.tags a.ephemeral a.expiry a.created) routes_same
    ∙ ap (λ z. machine_of b.id b.user b.machine b.node b.disco b.host b.name b.v4 b.v6 b.endpoints b.derp b.routes z a.tags a.ephemeral a.expiry a.created) approved_same
    ∙ ap (λ z. machine_of b.id b.user b.machine b.node b.disco b.host b.name b.v4 b.v6 b.endpoints b.derp b.routes b.approved z a.ephemeral a.expiry a.created) tags_same
    ∙ ap (λ z. machine_of b.id b.user b.machine b.node b.disco b.host b.name b.v4 b.v6 b.endpoints b.derp b.routes b.approved b.tags z a.expiry a.created) ephemeral_same
    ∙ ap (λ z. machine_of b.id b.user b.machine b.node b.disco b.host b.name b.v4 b.v6 b.endpoints b.derp b.routes b.approved b.tags b.ephemeral z a.created) expiry_same
    ∙ ap (λ z. machine_of b.id b.user b.machine b.node b.disco b.host b.name b.v4 b.v6 b.endpoints b.derp b.routes b.approved b.tags b.ephemeral b.expiry z) created_same

pub machine_cells-injective : (a b : Machine) → IsTypedMachine a → IsTypedMachine b → machine_cells a ≡ machine_cells b → a ≡ b
machine_cells-injective a b left right e = same_machine a b
    (numbers_differ a.id b.id (ap (column 0) e))
    (numbers_differ a.user b.user (ap (column 1) e))
    (ap (λ (bytes : List ℕ). let k : MachineKey = record { 0 = bytes } in k) (blobs_differ a.machine.0 b.machine.0 (ap (column 2) e)))
    (ap (λ (bytes : List ℕ). let k : NodeKey = record { 0 = bytes } in k) (blobs_differ a.node.0 b.node.0 (ap (column 3) e)))
    (ap (λ (bytes : List ℕ). let k : DiscoKey = record { 0 = bytes } in k) (blobs_differ a.disco.0 b.disco.0 (ap (column 4) e)))
    (texts_differ a.host b.host (ap (column 5) e))
    (texts_differ a.name b.name (ap (column 6) e))
    (v4_differ a.v4 b.v4 left.v4 right.v4 (ap (column 7) e))
    (v6_differ a.v6 b.v6 left.v6 right.v6 (ap (column 8) e))
    (endpoints_differ a.endpoints b.endpoints left.endpoints right.endpoints (ap (column 9) e))
    (numbers_differ a.derp b.derp (ap (column 10) e))
    (routes_differ a.routes b.routes left.routes right.routes (ap (column 11) e))
    (routes_differ a.approved b.approved left.approved right.approved (ap (column 12) e))
    (tags_differ a.tags b.tags left.tags right.tags (ap (column 13) e))
    (truths_differ a.ephemeral b.ephemeral (ap (column 14) e))
    (expiries_differ a.expiry b.expiry (ap (column 15) e))
    (moments_differ a.created b.created (ap (column 16) e))

counters_of : ℕ → ℕ → ℕ → ℕ → Counters
counters_of user key pending machine = record { user = user; key = key; pending = pending; machine = machine }

same_counters : (a b : Counters) → a.user ≡ b.user → a.key ≡ b.key → a.pending ≡ b.pending → a.machine ≡ b.machine → a ≡ b
unfolding counters_of
same_counters a b user_same key_same pending_same machine_same =
    ap (λ z. counters_of z a.key a.pending a.machine) user_same
    ∙ ap (λ z. counters_of b.user z a.pending a.machine) key_same
    ∙ ap (λ z. counters_of b.user b.key z a.machine) pending_same
    ∙ ap (λ z. counters_of b.user b.key b.pending z) machine_same

pub meta_cells-injective : (a b : Counters) → IsTypedCounters a → IsTypedCounters b → meta_cells a ≡ meta_cells b → a ≡ b
meta_cells-injective a b left right e = same_counters a b
    (numbers_differ a.user b.user (ap (column 2) e))
    (numbers_differ a.key b.key (ap (column 3) e))
    (numbers_differ a.pending b.pending (ap (column 4) e))
    (numbers_differ a.machine b.machine (ap (column 5) e))

extra_of : List ℕ → Address → DnsExtra
extra_of name addr = record { name = name; addr = addr }

same_extra : (a b : DnsExtra) → a.name ≡ b.name → a.addr ≡ b.addr → a ≡ b
unfolding extra_of
same_extra a b name_same addr_same = ap (λ z. extra_of z a.addr) name_same ∙ ap (extra_of b.name) addr_same

pub extra_cells-injective : (m n : ℕ) (a b : DnsExtra) → IsTypedExtra a → IsTypedExtra b → extra_cells m a ≡ extra_cells n b → (m ≡ n) × (a ≡ b)
extra_cells-injective m n a b left right e = (
  numbers_differ m n (ap (column 0) e),
  same_extra a b (texts_differ a.name b.name (ap (column 1) e))
      (addr_text-injective a.addr b.addr left right (texts_differ (addr_text a.addr) (addr_text b.addr) (ap (column 2) e))),
)

pub policy_cells-injective : (a b : List ℕ) → policy_cells a ≡ policy_cells b → a ≡ b
policy_cells-injective a b e = texts_differ a b (ap (column 1) e)
