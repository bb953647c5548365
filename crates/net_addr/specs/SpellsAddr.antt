-- Which texts spell an address.
use Rattle.std.specs.Prelude.{◌≡◌, ◌<◌, ◌^◌, ℕ, List}
use Rattle.std.specs.Bool.{MatchBool}
use Rattle.net_addr.specs.Bits.{Address}
use Rattle.net_addr.specs.QuadTexts.{quad_text}
use Rattle.net_addr.specs.V6Texts.{SpellsV6}

-- an IPv4 address has one text; an IPv6 address has those of RFC 4291 section 2.2's first two forms
abbrev pub SpellsAddr : List ℕ → Address → Type 0
SpellsAddr text addr = MatchBool addr.v6 (SpellsV6 text addr.bits) ((addr.bits < 2 ^ 32) × (text ≡ quad_text addr.bits))
