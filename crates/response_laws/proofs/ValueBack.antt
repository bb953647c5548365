-- Single values are read back.
use Rattle.std.proofs.Common.{◌≡◌, ◌<◌, ◌≤◌, ◌-◌, ◌^◌, ℕ, ℤ, int_lt, Bool, true, false, List, Option, Some, None, refl, sym, ap, arith, cond, eqb}
use Rattle.std.specs.Prelude.{nat_le, codes, IfSome, Ok, option_map}
use Rattle.std.specs.Result.{result_ok}
use Rattle.std.specs.Str.{bytes_eq}
use Rattle.std.proofs.lemmas.Bool.{eqb-true}
use Rattle.std.proofs.lemmas.Bool.Decides.{nat_tests}
use Rattle.std.proofs.lemmas.Slice.Eq.{bytes_eq-Decides}
use Rattle.hex.specs.Hex.{IsBytes}
use Rattle.jiff_core.proofs.SignedLemmas.{signed_arith}
use Rattle.serde_json.specs.Data.{string}
use Rattle.net_addr.specs.AddrTexts.{addr_of_text, addr_text}
use Rattle.net_addr.specs.Bits.{Address, Block, IsBlock, family_bits}
use Rattle.net_addr.specs.Blocks.{prefix_of_addr}
use Rattle.net_addr.specs.EndpointTexts.{endpoint_of_text, endpoint_text}
use Rattle.net_addr.specs.Moments.{IsMoment, first_moment}
use Rattle.net_addr.specs.MomentReads.{moment_of_text}
use Rattle.net_addr.specs.MomentTexts.{moment_text}
use Rattle.net_addr.specs.PrefixTexts.{prefix_text}
use Rattle.net_addr.proofs.AddrLemmas.{addr_spelled}
use Rattle.net_addr.proofs.EndpointLemmas.{endpoint_again}
use Rattle.net_addr.proofs.FreeLemmas.{addr_other}
use Rattle.net_addr.proofs.MomentLemmas.{moment_again}
use Rattle.net_addr.proofs.PrefixLemmas.{addr_again, prefix_again}
use Rattle.tail_base.specs.Keys.{key_text}
use Rattle.tail_base.specs.Steps.{◌>>=◌}
use Rattle.tail_base.specs.Tags.{tag_of}
use Rattle.tail_base.specs.declared.key.DiscoKey.{DiscoKey}
use Rattle.tail_base.specs.declared.key.MachineKey.{MachineKey}
use Rattle.tail_base.specs.declared.key.NodeKey.{NodeKey}
use Rattle.tail_base.proofs.KeyLemmas.{key_again}
use Rattle.tail_base.proofs.TagLemmas.{tag_again}
use Rattle.wire_json.specs.Readers.{unless_zero_time}
use Rattle.wire_write.specs.Filters.{span_data, span_text}
use Rattle.wire_write.specs.Parts.{disco_key_data, endpoint_data, machine_key_data, moment_data, node_key_data, number_data, prefix_data, time_data}
use Rattle.response_values.specs.Values.{IsTypedAddr, IsTypedEndpoint}
use Rattle.wire_laws.specs.Nodes.{IsLaterMoment}
use Rattle.wire_laws.proofs.ValueForms.{first_is, no_star, prefix_slash, slash_foreign, zero_time}
use Rattle.response_read.specs.Filters.{is_star, span_in}
use Rattle.response_read.specs.Members.{fitting}
use Rattle.response_read.specs.Values.{count_at, disco_key_in, expiry_at, from_one, id_at, machine_key_in, node_key_in, port_at, prefix_in, seq_at, spelled_at}
use Rattle.response_laws.specs.Sizes.{IsId, IsKeyLong, IsPort, IsTag}
use Rattle.response_laws.proofs.Steps.{Back}

-- ---- numbers

pub count_back : (limit n : ℕ) → n ≤ limit → count_at limit (number_data n) ≡ Ok n
count_back limit n h =
    let small : nat_le n limit ≡ true = grind (arith, nat_tests) in
    ap (λ b. fitting (cond b (Some n) None)) small

pub ids_back : Back id_at number_data IsId
ids_back n h = count_back (2 ^ 32 - 1) n (omega arith)

pub ports_back : Back port_at number_data IsPort
ports_back n h = count_back (2 ^ 16 - 1) n (omega arith)

from_one_is : (n : ℕ) → 0 < n → from_one n ≡ Some n
from_one_is n h =
    let other : eqb n 0 ≡ false = grind (arith, nat_tests) in
    ap (λ b. cond b None (Some n)) other

pub seqs_back : (n : ℕ) → 0 < n → n < 2 ^ 64 → seq_at (number_data n) ≡ Ok n
seqs_back n from small = rw (count_back (2 ^ 64 - 1) n (omega arith), from_one_is n from)

-- ---- keys and tags

pub node_keys_back : (key : NodeKey) → IsKeyLong key.0 → IsBytes key.0 → spelled_at node_key_in (node_key_data key) ≡ Ok key
unfolding node_key_data
node_keys_back key long bytes =
    ap (λ o. fitting (option_map (λ (k : List ℕ). let made : NodeKey = record { 0 = k } in made) o)) (key_again (codes "nodekey:") key.0 (key_text (codes "nodekey:") key.0) long bytes refl)

pub machine_keys_back : (key : MachineKey) → IsKeyLong key.0 → IsBytes key.0 → spelled_at machine_key_in (machine_key_data key) ≡ Ok key
unfolding machine_key_data
machine_keys_back key long bytes =
    ap (λ o. fitting (option_map (λ (k : List ℕ). let made : MachineKey = record { 0 = k } in made) o)) (key_again (codes "mkey:") key.0 (key_text (codes "mkey:") key.0) long bytes refl)

pub disco_keys_back : (key : DiscoKey) → IsKeyLong key.0 → IsBytes key.0 → spelled_at disco_key_in (disco_key_data key) ≡ Ok key
unfolding disco_key_data
disco_keys_back key long bytes =
    ap (λ o. fitting (option_map (λ (k : List ℕ). let made : DiscoKey = record { 0 = k } in made) o)) (key_again (codes "discokey:") key.0 (key_text (codes "discokey:") key.0) long bytes refl)

pub tags_back : Back (spelled_at tag_of) string IsTag
tags_back tag h = ap fitting (tag_again tag h)

-- ---- addresses, prefixes and endpoints

pub addrs_back : (addr : Address) → IsTypedAddr addr → spelled_at addr_of_text (string (addr_text addr)) ≡ Ok addr
addrs_back addr h = ap fitting (addr_again addr h (addr_text addr) refl)

prefix_is : (p : Block) → IsBlock p → prefix_in (prefix_text p) ≡ Some p
prefix_is p h = ap result_ok (prefix_again p h (prefix_text p) refl)

pub prefixes_back : Back (spelled_at prefix_in) prefix_data IsBlock
unfolding prefix_data
prefixes_back p h = ap fitting (prefix_is p h)

pub endpoints_back : Back (spelled_at endpoint_of_text) endpoint_data IsTypedEndpoint
unfolding endpoint_data
endpoints_back e h = ap fitting (endpoint_again e h.addr h.port (endpoint_text e) refl)

-- ---- moments

pub moments_back : Back (spelled_at moment_of_text) moment_data IsMoment
unfolding moment_data
moments_back t h = ap fitting (moment_again t h (moment_text t) refl)

zero_read : moment_of_text (codes "0001-01-01T00:00:00Z") ≡ Some first_moment
zero_read = moment_again first_moment first_is (codes "0001-01-01T00:00:00Z") (sym zero_time)

not_later : (t : ℤ) → IsMoment t → int_lt first_moment t ≡ false → t ≡ first_moment
not_later t is e = omega (arith, signed_arith, e, is.0)

later_first : (t : ℤ) → IsMoment t → IsLaterMoment t → int_lt first_moment t ≡ true
later_first t is later = elim (int_lt first_moment t) as (λ b. int_lt first_moment t ≡ b → b ≡ true) [ true ↦ λ e. refl | false ↦ λ e. absurd (later (not_later t is e)) ] refl

pub times_back : (o : Option ℤ) → IfSome o IsMoment → IfSome o IsLaterMoment → expiry_at (time_data o) ≡ Ok o
unfolding moment_data
times_back None is later = ap (λ (o : Option ℤ). fitting o >>= (λ (t : ℤ). Ok (unless_zero_time t))) zero_read
times_back (Some t) is later = rw (moment_again t is (moment_text t) refl, later_first t is later)

-- ---- prefixes of one address

unspelled : (p : Block) (o : Option Address) → addr_of_text (prefix_text p) ≡ o → o ≡ None
unspelled p None e = refl
unspelled p (Some a) e = absurd (prefix_slash p (addr_other 47 slash_foreign (prefix_text p) a.v6 a.bits (addr_spelled (prefix_text p) a e)))

single_is : (p : Block) → p.len ≡ family_bits p.base.v6 → prefix_of_addr p.base ≡ p
single_is p h = λ i. record { base = p.base; len = sym h i }

-- which of both is written
chosen : Bool → Block → List ℕ
chosen single p = cond single (addr_text p.base) (prefix_text p)

chosen_is : (p : Block) (single : Bool) → (single ≡ true → p.len ≡ family_bits p.base.v6) → IsBlock p → span_in (chosen single p) ≡ Some p
unfolding chosen
chosen_is p true long h = rw (addr_again p.base h.in_family (addr_text p.base) refl) (ap Some (single_is p (long refl)))
chosen_is p false long h = rw (unspelled p (addr_of_text (prefix_text p)) refl) (prefix_is p h)

pub span_is : (p : Block) → IsBlock p → span_in (span_text p) ≡ Some p
unfolding chosen
span_is p h = chosen_is p (eqb p.len (family_bits p.base.v6)) (eqb-true _ _) h

pub spans_back : Back (spelled_at span_in) span_data IsBlock
unfolding span_data
spans_back p h = ap fitting (span_is p h)

differ : (xs ys : List ℕ) (b : Bool) → bytes_eq xs ys ≡ b → (xs ≡ ys → ⊥) → b ≡ false
differ xs ys true e other = absurd (other ((bytes_eq-Decides xs ys).0 e))
differ xs ys false e other = refl

-- no prefix is written as `*`
pub star_apart : (p : Block) → IsBlock p → is_star (Some (span_text p)) ≡ false
star_apart p h = differ (span_text p) (codes "*") _ refl (λ e. no_star p h (sym e))

pub text_itself : (xs : List ℕ) → bytes_eq xs xs ≡ true
text_itself xs = (bytes_eq-Decides xs xs).1 refl
