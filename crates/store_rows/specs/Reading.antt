-- What a row of each table is read as, column by column: nothing where it is the row of no value.
use Rattle.std.specs.Prelude.{ℕ, ℤ, pos, negsuc, Bool, true, false, List, [], ◌∷◌, length, Option, Some, None, ⊤, if◌then◌else◌, ◌&&◌, ◌==◌, ◌^◌, ◌%◌, nat_lt, nat_le, int_le, bytes_eq}
use Rattle.std.specs.List.{list_all}
use Rattle.std.specs.Option.{option_and_then, option_map}
use Rattle.std.specs.Result.{result_ok}
use Rattle.net_addr.specs.Moments.{first_moment, last_moment}
use Rattle.net_addr.specs.AddrTexts.{addr_of_text, addr_text}
use Rattle.net_addr.specs.Bits.{Address, Block, family_bits, family_size, size_of}
use Rattle.net_addr.specs.EndpointTexts.{endpoint_of_text, endpoint_text}
use Rattle.net_addr.specs.PrefixTexts.{prefix_of_text, prefix_text}
use Rattle.net_addr.specs.declared.endpoint.Endpoint.{Endpoint}
use Rattle.net_rows.specs.declared.change.Counters.{Counters}
use Rattle.net_rows.specs.declared.key.AuthKey.{AuthKey}
use Rattle.net_rows.specs.declared.machine.Machine.{Machine}
use Rattle.net_rows.specs.declared.pending.Pending.{Pending}
use Rattle.net_rows.specs.declared.user.User.{User}
use Rattle.tail_base.specs.Labels.{is_label}
use Rattle.tail_base.specs.Logins.{is_login}
use Rattle.tail_base.specs.Tags.{is_tag, tag_of}
use Rattle.tailcfg.specs.declared.dns.DnsExtra.{DnsExtra}
use Rattle.store_rows.specs.Addresses.{v6_bytes, v6_in}
use Rattle.store_rows.specs.Lists.{list_text, spelled_list}
use Rattle.store_rows.specs.declared.cell.Cell.{Cell}
use Rattle.store_rows.specs.declared.cell.Cell.TheVariants.{Null, Number, Text, Blob, Other}

-- ---- cells of one kind

abbrev pub on_number : {T : Type 0} → (ℤ → Option T) → Cell → Option T
on_number f Null = None
on_number f (Number n) = f n
on_number f (Text bytes) = None
on_number f (Blob bytes) = None
on_number f Other = None

abbrev pub on_text : {T : Type 0} → (List ℕ → Option T) → Cell → Option T
on_text f Null = None
on_text f (Number n) = None
on_text f (Text bytes) = f bytes
on_text f (Blob bytes) = None
on_text f Other = None

abbrev pub on_blob : {T : Type 0} → (List ℕ → Option T) → Cell → Option T
on_blob f Null = None
on_blob f (Number n) = None
on_blob f (Text bytes) = None
on_blob f (Blob bytes) = f bytes
on_blob f Other = None

-- what is guessed of bytes, where it passes the test and is stored as these bytes
abbrev pub checked_text : {T : Type 0} → (T → List ℕ) → (T → Bool) → (List ℕ → Option T) → List ℕ → Option T
checked_text stored fits guess given = option_and_then (λ x. if bytes_eq (stored x) given && fits x then Some x else None) (guess given)

-- ---- columns

-- a number of 32 bits
abbrev pub natural_of : ℤ → Option ℕ
natural_of (pos n) = if nat_lt n (2 ^ 32) then Some n else None
natural_of (negsuc n) = None

-- 0 or 1
abbrev pub truth_of : ℤ → Option Bool
truth_of (pos n) = if n == 0 then Some false else (if n == 1 then Some true else None)
truth_of (negsuc n) = None

-- the seconds of a moment
abbrev pub moment_in_cell : ℤ → Option ℤ
moment_in_cell n = if int_le first_moment n && int_le n last_moment then Some n else None

-- this number
abbrev pub this_of : ℕ → ℤ → Option ⊤
this_of m (pos n) = if n == m then Some tt else None
this_of m (negsuc n) = None

abbrev pub expiry_in_cell : Cell → Option (Option ℤ)
expiry_in_cell Null = Some None
expiry_in_cell (Number n) = option_map (λ m. Some m) (moment_in_cell n)
expiry_in_cell (Text bytes) = None
expiry_in_cell (Blob bytes) = None
expiry_in_cell Other = None

-- a text of any form
abbrev pub any_text : Cell → Option (List ℕ)
any_text = on_text (λ bytes. Some bytes)

-- a text of a form
abbrev pub text_that : (List ℕ → Bool) → Cell → Option (List ℕ)
text_that fits = on_text (checked_text (λ bytes. bytes) fits (λ bytes. Some bytes))

-- the 32 bytes of a key
abbrev pub key_in_cell : Cell → Option (List ℕ)
key_in_cell = on_blob (checked_text (λ bytes. bytes) (λ bytes. length bytes == 32) (λ bytes. Some bytes))

-- the elements of a list, which pass the test
abbrev pub list_in_cell : {T : Type 0} → (T → List ℕ) → (T → Bool) → (List ℕ → Option T) → Cell → Option (List T)
list_in_cell text fits of_text = on_text (checked_text (list_text text) (list_all fits) (spelled_list of_text))

abbrev pub tags_of : Cell → Option (List (List ℕ))
tags_of = list_in_cell (λ tag. tag) is_tag tag_of

abbrev pub is_block : Block → Bool
is_block p = nat_lt p.base.bits (family_size p.base.v6) && nat_le p.len (family_bits p.base.v6) && (p.base.bits % size_of p == 0)

abbrev pub routes_of : Cell → Option (List Block)
routes_of = list_in_cell prefix_text is_block (λ text. result_ok (prefix_of_text text))

-- the address's number is one of its family
abbrev pub is_address : Address → Bool
is_address addr = nat_lt addr.bits (family_size addr.v6)

abbrev pub is_endpoint : Endpoint → Bool
is_endpoint e = is_address e.addr && nat_lt e.port (2 ^ 16)

abbrev pub endpoints_of : Cell → Option (List Endpoint)
endpoints_of = list_in_cell endpoint_text is_endpoint endpoint_of_text

abbrev pub v4_of : Cell → Option Address
v4_of cell = option_map (λ bits. record { v6 = false; bits = bits }) (on_number natural_of cell)

abbrev pub v6_of : Cell → Option Address
v6_of cell = option_map (λ bits. record { v6 = true; bits = bits }) (on_blob (checked_text v6_bytes (λ bits. nat_lt bits (2 ^ 128)) v6_in) cell)

abbrev pub address_of : Cell → Option Address
address_of = on_text (checked_text addr_text is_address addr_of_text)

-- ---- rows

-- no more columns
abbrev pub end_of_cells : List Cell → Option ⊤
end_of_cells [] = Some tt
end_of_cells (cell ∷ cells) = None

-- one column, and those behind it
abbrev pub then_of : {A B : Type 0} → (Cell → Option A) → (List Cell → Option B) → List Cell → Option (A × B)
then_of f g [] = None
then_of f g (cell ∷ cells) = option_and_then (λ a. option_map (λ b. (a, b)) (g cells)) (f cell)

abbrev pub meta_of : List Cell → Option Counters
meta_of cells =
    option_map (λ p. record { user = p.1.1.0; key = p.1.1.1.0; pending = p.1.1.1.1.0; machine = p.1.1.1.1.1.0 })
    (then_of (on_number (this_of 1)) (then_of (on_number (this_of 1))
    (then_of (on_number natural_of) (then_of (on_number natural_of) (then_of (on_number natural_of) (then_of (on_number natural_of) end_of_cells))))) cells)

abbrev pub user_in_cells : List Cell → Option User
user_in_cells cells = option_map (λ p. record { id = p.0; login = p.1.0 }) (then_of (on_number natural_of) (then_of (text_that is_login) end_of_cells) cells)

abbrev pub auth_key_of : List Cell → Option AuthKey
auth_key_of cells =
    option_map (λ p. record {
      id = p.0;
      text = p.1.0;
      user = p.1.1.0;
      reusable = p.1.1.1.0;
      ephemeral = p.1.1.1.1.0;
      used = p.1.1.1.1.1.0;
      expiry = p.1.1.1.1.1.1.0;
      tags = p.1.1.1.1.1.1.1.0;
    })
    (then_of (on_number natural_of) (then_of any_text (then_of (on_number natural_of)
    (then_of (on_number truth_of) (then_of (on_number truth_of) (then_of (on_number truth_of)
    (then_of expiry_in_cell (then_of tags_of end_of_cells))))))) cells)

abbrev pub pending_in_cells : List Cell → Option Pending
pending_in_cells cells =
    option_map (λ p. record {
      id = p.0;
      text = p.1.0;
      machine = record { 0 = p.1.1.0 };
      node = record { 0 = p.1.1.1.0 };
      host = p.1.1.1.1.0;
      routes = p.1.1.1.1.1.0;
      tags = p.1.1.1.1.1.1.0;
      ephemeral = p.1.1.1.1.1.1.1.0;
      expiry = p.1.1.1.1.1.1.1.1.0;
      made = p.1.1.1.1.1.1.1.1.1.0;
    })
    (then_of (on_number natural_of) (then_of any_text (then_of key_in_cell (then_of key_in_cell (then_of any_text
    (then_of routes_of (then_of tags_of (then_of (on_number truth_of) (then_of expiry_in_cell (then_of (on_number moment_in_cell) end_of_cells))))))))) cells)

abbrev pub machine_in_cells : List Cell → Option Machine
machine_in_cells cells =
    option_map (λ p. record {
      id = p.0;
      user = p.1.0;
      machine = record { 0 = p.1.1.0 };
      node = record { 0 = p.1.1.1.0 };
      disco = record { 0 = p.1.1.1.1.0 };
      host = p.1.1.1.1.1.0;
      name = p.1.1.1.1.1.1.0;
      v4 = p.1.1.1.1.1.1.1.0;
      v6 = p.1.1.1.1.1.1.1.1.0;
      endpoints = p.1.1.1.1.1.1.1.1.1.0;
      derp = p.1.1.1.1.1.1.1.1.1.1.0;
      routes = p.1.1.1.1.1.1.1.1.1.1.1.0;
      approved = p.1.1.1.1.1.1.1.1.1.1.1.1.0;
      tags = p.1.1.1.1.1.1.1.1.1.1.1.1.1.0;
      ephemeral = p.1.1.1.1.1.1.1.1.1.1.1.1.1.1.0;
      expiry = p.1.1.1.1.1.1.1.1.1.1.1.1.1.1.1.0;
      created = p.1.1.1.1.1.1.1.1.1.1.1.1.1.1.1.1.0;
    })
    (then_of (on_number natural_of) (then_of (on_number natural_of) (then_of key_in_cell (then_of key_in_cell (then_of key_in_cell
    (then_of any_text (then_of (text_that is_label) (then_of v4_of (then_of v6_of
    (then_of endpoints_of (then_of (on_number natural_of) (then_of routes_of (then_of routes_of (then_of tags_of
    (then_of (on_number truth_of) (then_of expiry_in_cell (then_of (on_number moment_in_cell) end_of_cells)))))))))))))))) cells)

-- the extra record of a place
abbrev pub extra_of : ℕ → List Cell → Option DnsExtra
extra_of place cells = option_map (λ p. record { name = p.1.0; addr = p.1.1.0 }) (then_of (on_number (this_of place)) (then_of any_text (then_of address_of end_of_cells)) cells)

abbrev pub policy_in_cells : List Cell → Option (List ℕ)
policy_in_cells cells = option_map (λ p. p.1.0) (then_of (on_number (this_of 1)) (then_of any_text end_of_cells) cells)
