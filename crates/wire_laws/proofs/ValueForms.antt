-- The forms of single values tell them.
use Rattle.std.proofs.Common.{◌≡◌, ◌<◌, ℕ, ℤ, Bool, true, false, List, [], ◌∷◌, ◌++◌, eqb, Option, Some, None, arith, refl, sym, ap, ◌∙◌, inl, inr, append_assoc}
use Rattle.std.specs.Prelude.{codes, IfSome, cond}
use Rattle.std.specs.Char.{is_ascii_digit, digit_value}
use Rattle.std.specs.Fmt.{decimal, digits}
use Rattle.std.specs.List.{list_all}
use Rattle.std.proofs.lemmas.Bool.{and_parts, cases_eq, eqb-true, ne_eqb, not_from_false}
use Rattle.std.proofs.lemmas.Bool.Decides.{nat_tests}
use Rattle.hex.specs.Hex.{IsBytes}
use Rattle.net_addr.specs.AddrTexts.{addr_of_text, addr_text}
use Rattle.net_addr.specs.Bits.{Address, Block, IsBlock, family_bits}
use Rattle.net_addr.specs.Civil.{date_after}
use Rattle.net_addr.specs.Moments.{IsMoment, first_moment}
use Rattle.net_addr.specs.MomentTexts.{moment_text}
use Rattle.net_addr.specs.PrefixTexts.{prefix_text}
use Rattle.net_addr.proofs.FreeLemmas.{IsForeign, addr_other}
use Rattle.net_addr.proofs.MomentLemmas.{moment_text-injective}
use Rattle.net_addr.proofs.PrefixLemmas.{addr_again, addr_written}
use Rattle.net_addr.proofs.SplitLemmas.{is_other}
use Rattle.net_addr.proofs.TextLemmas.{addr_text-injective, endpoint_text-injective, prefix_text-injective}
use Rattle.tail_base.specs.declared.key.DiscoKey.{DiscoKey}
use Rattle.tail_base.specs.declared.key.MachineKey.{MachineKey}
use Rattle.tail_base.specs.declared.key.NodeKey.{NodeKey}
use Rattle.tail_base.proofs.KeyLemmas.{key_text-injective}
use Rattle.wire_write.specs.Filters.{span_data, span_text}
use Rattle.wire_write.specs.Parts.{disco_key_data, endpoint_data, machine_key_data, moment_data, node_key_data, prefix_data, time_data}
use Rattle.response_values.specs.Values.{IsTypedAddr, IsTypedEndpoint}
use Rattle.wire_laws.specs.Nodes.{IsLaterMoment}
use Rattle.wire_laws.proofs.FormLemmas.{Tells, strings_tell}

-- ---- keys

pub node_keys_tell : Tells node_key_data (λ key. IsBytes key.0)
unfolding node_key_data
node_keys_tell a b p q e =
    let same = key_text-injective (codes "nodekey:") a.0 b.0 p q (strings_tell _ _ e) in
    ap (λ (bytes : List ℕ). let k : NodeKey = record { 0 = bytes } in k) same

pub machine_keys_tell : Tells machine_key_data (λ key. IsBytes key.0)
unfolding machine_key_data
machine_keys_tell a b p q e =
    let same = key_text-injective (codes "mkey:") a.0 b.0 p q (strings_tell _ _ e) in
    ap (λ (bytes : List ℕ). let k : MachineKey = record { 0 = bytes } in k) same

pub disco_keys_tell : Tells disco_key_data (λ key. IsBytes key.0)
unfolding disco_key_data
disco_keys_tell a b p q e =
    let same = key_text-injective (codes "discokey:") a.0 b.0 p q (strings_tell _ _ e) in
    ap (λ (bytes : List ℕ). let k : DiscoKey = record { 0 = bytes } in k) same

-- ---- addresses, prefixes and endpoints

pub prefixes_tell : Tells prefix_data IsBlock
unfolding prefix_data
prefixes_tell a b p q e = prefix_text-injective a b p q (strings_tell _ _ e)

pub endpoints_tell : Tells endpoint_data IsTypedEndpoint
unfolding endpoint_data
endpoints_tell a b p q e = endpoint_text-injective a b p.addr q.addr p.port q.port (strings_tell _ _ e)

-- ---- moments

pub moments_tell : Tells moment_data IsMoment
unfolding moment_data
moments_tell a b p q e = moment_text-injective a b p q (strings_tell _ _ e)

pub zero_time : moment_text first_moment ≡ codes "0001-01-01T00:00:00Z"
unfolding digits date_after
zero_time = refl

pub first_is : IsMoment first_moment
first_is = (omega arith, omega arith)

no_zero_time : (t : ℤ) → IsMoment t → IsLaterMoment t → codes "0001-01-01T00:00:00Z" ≡ moment_text t → ⊥
no_zero_time t is later e = later (sym (moment_text-injective first_moment t first_is is (zero_time ∙ e)))

pub times_tell : (o p : Option ℤ) → IfSome o IsMoment → IfSome p IsMoment → IfSome o IsLaterMoment → IfSome p IsLaterMoment → time_data o ≡ time_data p → o ≡ p
unfolding moment_data
times_tell None None h k l m e = refl
times_tell None (Some t) h k l m e = absurd (no_zero_time t k m (strings_tell _ _ e))
times_tell (Some t) None h k l m e = absurd (no_zero_time t h l (sym (strings_tell _ _ e)))
times_tell (Some s) (Some t) h k l m e = ap Some (moment_text-injective s t h k (strings_tell _ _ e))

-- ---- prefixes of one address

hex_other : (b : ℕ) → digit_value b < 16 → is_other 47 b ≡ true
hex_other b h = elim (cases_eq b 47) [
  | inl slash ↦ let bad : 36 < 16 = rw slash at h in absurd (omega arith)
  | inr other ↦ not_from_false (eqb b 47) (ne_eqb b 47 other)
]

digit_other : (b : ℕ) → is_ascii_digit b ≡ true → is_other 47 b ≡ true
digit_other b h = grind (arith, nat_tests)

pub slash_foreign : IsForeign 47
slash_foreign = record { hex = hex_other; digit = digit_other; colon = refl; dot = refl }

no_slash : (a : Address) → IsTypedAddr a → list_all (is_other 47) (addr_text a) ≡ true
no_slash a h = addr_other 47 slash_foreign (addr_text a) a.v6 a.bits (addr_written a.v6 a.bits h)

a_slash : (xs ys : List ℕ) → list_all (is_other 47) (xs ++ 47 ∷ ys) ≡ true → ⊥
a_slash [] ys h = cc (h)
a_slash (x ∷ xs) ys h = a_slash xs ys (and_parts (is_other 47 x) (list_all (is_other 47) (xs ++ 47 ∷ ys)) h).1

-- the text of a prefix has one
pub prefix_slash : (p : Block) → list_all (is_other 47) (prefix_text p) ≡ true → ⊥
prefix_slash p h = a_slash (addr_text p.base) (decimal p.len) (ap (list_all (is_other 47)) (sym (append_assoc (addr_text p.base) (codes "/") (decimal p.len))) ∙ h)

-- an address and a prefix have different texts
apart : (a : Address) (p : Block) → IsTypedAddr a → addr_text a ≡ prefix_text p → ⊥
apart a p h e = prefix_slash p (ap (list_all (is_other 47)) (sym e) ∙ no_slash a h)

-- which of both is written
chosen : Bool → Block → List ℕ
chosen single p = cond single (addr_text p.base) (prefix_text p)

single_same : (p q : Block) → p.len ≡ family_bits p.base.v6 → q.len ≡ family_bits q.base.v6 → p.base ≡ q.base → p ≡ q
single_same p q left right same =
    let long : p.len ≡ q.len = left ∙ ap (λ (a : Address). family_bits a.v6) same ∙ sym right in
    λ i. record { base = same i; len = long i }

chosen_tell : (p q : Block) (one other : Bool) → (one ≡ true → p.len ≡ family_bits p.base.v6) → (other ≡ true → q.len ≡ family_bits q.base.v6) → IsBlock p → IsBlock q → chosen one p ≡ chosen other q → p ≡ q
unfolding chosen
chosen_tell p q true true left right h k e = single_same p q (left refl) (right refl) (addr_text-injective p.base q.base h.in_family k.in_family e)
chosen_tell p q true false left right h k e = absurd (apart p.base q h.in_family e)
chosen_tell p q false true left right h k e = absurd (apart q.base p k.in_family (sym e))
chosen_tell p q false false left right h k e = prefix_text-injective p q h k e

pub span_texts_tell : Tells span_text IsBlock
unfolding chosen
span_texts_tell p q h k e =
    chosen_tell p q (eqb p.len (family_bits p.base.v6)) (eqb q.len (family_bits q.base.v6)) (eqb-true _ _) (eqb-true _ _) h k e

pub spans_tell : Tells span_data IsBlock
unfolding span_data
spans_tell p q h k e = span_texts_tell p q h k (strings_tell _ _ e)

-- no address is written as `*`
star_address : (a : Address) → IsTypedAddr a → codes "*" ≡ addr_text a → ⊥
star_address a h e =
    let bad = ap addr_of_text e ∙ addr_again a h (addr_text a) refl in
    cc (bad)

star_apart : (p : Block) (single : Bool) → IsBlock p → codes "*" ≡ chosen single p → ⊥
unfolding chosen
star_apart p true h e = star_address p.base h.in_family e
star_apart p false h e = prefix_slash p (ap (list_all (is_other 47)) (sym e))

-- no prefix is written as `*`
pub no_star : (p : Block) → IsBlock p → codes "*" ≡ span_text p → ⊥
unfolding chosen
no_star p h e = star_apart p (eqb p.len (family_bits p.base.v6)) h e
