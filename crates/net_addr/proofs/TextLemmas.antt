-- Values with one text are equal, since what is written is read again.
use Rattle.std.proofs.Common.{◌≡◌, ◌<◌, ◌^◌, Some, Result, Ok, refl, sym, ◌∙◌}
use Rattle.net_addr.specs.declared.endpoint.Endpoint.{Endpoint}
use Rattle.net_addr.specs.declared.prefix_fault.PrefixFault.{PrefixFault}
use Rattle.net_addr.specs.AddrTexts.{addr_text}
use Rattle.net_addr.specs.Bits.{Address, Block, IsBlock, family_size}
use Rattle.net_addr.specs.EndpointTexts.{endpoint_text}
use Rattle.net_addr.specs.PrefixTexts.{prefix_text}
use Rattle.net_addr.proofs.EndpointLemmas.{endpoint_again}
use Rattle.net_addr.proofs.PrefixLemmas.{addr_again, prefix_again}

some_same : {A : Type 0} (a b : A) → Some a ≡ Some b → a ≡ b
some_same a b h = cc

abbrev good : Block → Result Block PrefixFault
good p = Ok p

ok_same : (p q : Block) → good p ≡ good q → p ≡ q
ok_same p q h = cc (h)

pub addr_text-injective : (a b : Address) → a.bits < family_size a.v6 → b.bits < family_size b.v6 → addr_text a ≡ addr_text b → a ≡ b
addr_text-injective a b left right same = some_same a b (sym (addr_again a left (addr_text a) refl) ∙ addr_again b right (addr_text a) same)

pub prefix_text-injective : (p q : Block) → IsBlock p → IsBlock q → prefix_text p ≡ prefix_text q → p ≡ q
prefix_text-injective p q left right same = ok_same p q (sym (prefix_again p left (prefix_text p) refl) ∙ prefix_again q right (prefix_text p) same)

pub endpoint_text-injective : (a b : Endpoint) → a.addr.bits < family_size a.addr.v6 → b.addr.bits < family_size b.addr.v6 → a.port < 2 ^ 16 → b.port < 2 ^ 16
    → endpoint_text a ≡ endpoint_text b → a ≡ b
endpoint_text-injective a b left right left_port right_port same =
    some_same a b (sym (endpoint_again a left left_port (endpoint_text a) refl) ∙ endpoint_again b right right_port (endpoint_text a) same)
