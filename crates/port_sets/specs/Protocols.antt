-- The protocols that a rule is about, by their IANA numbers.
use Rattle.std.specs.Prelude.{ℕ, ◌≤◌, ◌==◌, ◌||◌, Bool, List, [], ◌∷◌, Option, Some, None, codes, if◌then◌else◌}
use Rattle.std.specs.List.{list_any, list_all}
use Rattle.std.specs.Option.{option_or}
use Rattle.std.specs.Str.{bytes_eq}
use Rattle.tail_base.specs.Numerals.{number_in}

-- the members: one protocol, or else ICMP, TCP, UDP and ICMPv6
abbrev pub members : Option ℕ → List ℕ
members (Some proto) = proto ∷ []
members None = 1 ∷ 6 ∷ 17 ∷ 58 ∷ []

-- the one protocol is 1 to 255
abbrev pub IsProtos : Option ℕ → Type 0
IsProtos (Some proto) = (1 ≤ proto) × (proto ≤ 255)
IsProtos None = Unit {0}

-- a member
abbrev pub has_member : Option ℕ → ℕ → Bool
has_member protos proto = list_any (λ p. p == proto) (members protos)

-- TCP, UDP and SCTP have ports
abbrev pub is_ported : ℕ → Bool
is_ported proto = proto == 6 || proto == 17 || proto == 132

-- each member has ports
abbrev pub all_ported : Option ℕ → Bool
all_ported protos = list_all is_ported (members protos)

-- the number of a protocol's name that has up to four letters
abbrev pub short_named : List ℕ → Option ℕ
short_named text =
    if bytes_eq text (codes "icmp") then Some 1
    else if bytes_eq text (codes "igmp") then Some 2
    else if bytes_eq text (codes "ipv4") then Some 4
    else if bytes_eq text (codes "tcp") then Some 6
    else if bytes_eq text (codes "egp") then Some 8
    else if bytes_eq text (codes "igp") then Some 9
    else if bytes_eq text (codes "udp") then Some 17
    else if bytes_eq text (codes "gre") then Some 47
    else if bytes_eq text (codes "esp") then Some 50
    else if bytes_eq text (codes "ah") then Some 51
    else if bytes_eq text (codes "sctp") then Some 132
    else None

-- the number of a protocol's name
abbrev pub proto_named : List ℕ → Option ℕ
proto_named text = if bytes_eq text (codes "ip-in-ip") then Some 4 else short_named text

-- the protocol that a text names, or whose number from 1 to 255 it spells, without leading zeros
abbrev pub proto_of_text : List ℕ → Option ℕ
proto_of_text text = option_or (proto_named text) (number_in 5 1 255 text)
