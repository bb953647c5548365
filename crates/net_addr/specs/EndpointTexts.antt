-- Endpoints as texts: an address, a colon, and the port in decimal; an IPv6 address in brackets.
use Rattle.std.specs.Prelude.{ℕ, ◌+◌, ◌==◌, List, [], ◌∷◌, ◌++◌, Bool, true, false, codes, take, drop, position, Option, None, if◌then◌else◌}
use Rattle.std.specs.Fmt.{decimal}
use Rattle.std.specs.Option.{option_map, option_and_then}
use Rattle.tail_base.specs.Numerals.{number_in}
use Rattle.net_addr.specs.declared.endpoint.Endpoint.{Endpoint}
use Rattle.net_addr.specs.Bits.{Address}
use Rattle.net_addr.specs.AddrTexts.{addr_text}
use Rattle.net_addr.specs.GroupReads.{v6_of_text}
use Rattle.net_addr.specs.QuadTexts.{quad_of_text}

-- the address as it stands before a port
abbrev pub host_part : Address → List ℕ
host_part addr = if addr.v6 then codes "[" ++ addr_text addr ++ codes "]" else addr_text addr

-- the one text that is written of an endpoint
abbrev pub endpoint_text : Endpoint → List ℕ
endpoint_text e = host_part e.addr ++ codes ":" ++ decimal e.port

-- the port behind a colon
abbrev pub port_behind_colon : List ℕ → Option ℕ
port_behind_colon [] = None
port_behind_colon (b ∷ bs) = if b == 58 then number_in 5 0 65535 bs else None

abbrev pub made : Bool → ℕ → ℕ → Endpoint
made v6 bits port = record { addr = record { v6 = v6; bits = bits }; port = port }

-- the endpoint of an IPv4 address up to a place, and the port from there
abbrev pub plain_at : List ℕ → ℕ → Option Endpoint
plain_at text at = option_and_then (λ bits. option_map (made false bits) (port_behind_colon (drop at text))) (quad_of_text (take at text))

-- the endpoint of an IPv6 address up to the closing bracket, and the port behind it
abbrev pub bracketed_at : List ℕ → ℕ → Option Endpoint
bracketed_at text at = option_and_then (λ bits. option_map (made true bits) (port_behind_colon (drop (at + 1) text))) (v6_of_text (take at text))

abbrev pub plain : List ℕ → Option Endpoint
plain text = option_and_then (plain_at text) (position (λ b. b == 58) text)

abbrev pub bracketed : List ℕ → Option Endpoint
bracketed text = option_and_then (bracketed_at text) (position (λ b. b == 93) text)

-- the endpoint that a text spells: an IPv6 address behind a bracket, else an IPv4 address up to the
-- first colon
abbrev pub endpoint_of_text : List ℕ → Option Endpoint
endpoint_of_text [] = None
endpoint_of_text (b ∷ bs) = if b == 91 then bracketed bs else plain (b ∷ bs)
