-- Sets of addresses.
use Rattle.std.specs.Prelude.{◌≡◌, ◌+◌, ◌<◌, ◌^◌, Bool, true, false, List, [], ◌∷◌, if◌then◌else◌}
use Rattle.std.specs.Bool.{beq}
use Rattle.std.specs.List.{list_any}
use Rattle.net_addr.specs.Bits.{Address, Block, family_size}
use Rattle.net_addr.specs.Blocks.{holds, last_of}
use Rattle.range_sets.specs.declared.span.Span.{Span}
use Rattle.range_sets.specs.Spans.{AreApart, spans_hold}

-- A set: the numbers of its IPv4 and of its IPv6 addresses, as spans.
pub record Ranges : Type 0 where
  pub v4 : List Span
  pub v6 : List Span

-- the spans of a family are in order, neither overlap nor adjoin, and end within the family
pub record AreRanges (s : Ranges) : Type 0 where
  pub v4_apart : AreApart 0 s.v4 (2 ^ 32 + 1)
  pub v6_apart : AreApart 0 s.v6 (2 ^ 128 + 1)

-- the set has the address
abbrev pub has : Ranges → Address → Bool
has s addr = spans_hold (if addr.v6 then s.v6 else s.v4) addr.bits

-- no address is in the set
abbrev pub IsEmpty : Ranges → Type 0
IsEmpty s = (addr : Address) → addr.bits < family_size addr.v6 → has s addr ≡ false

-- some address is in both sets
abbrev pub ShareAddress : Ranges → Ranges → Type 0
ShareAddress s t = (addr : Address) × (addr.bits < family_size addr.v6) × (has s addr ≡ true) × (has t addr ≡ true)

-- some prefix of the list holds the address
abbrev pub some_holds : List Block → Address → Bool
some_holds ps addr = list_any (λ p. holds p addr) ps

-- the numbers of a prefix's addresses
abbrev pub span_of : Block → Span
span_of p = record { first = p.base.bits; last = last_of p }

-- those of a family's prefixes
abbrev pub family_spans : Bool → List Block → List Span
family_spans v6 [] = []
family_spans v6 (p ∷ ps) = if beq p.base.v6 v6 then span_of p ∷ family_spans v6 ps else family_spans v6 ps
