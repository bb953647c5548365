-- The texts of prefixes and endpoints have no comma.
use Rattle.std.proofs.Common.{◌≡◌, ◌<◌, ◌^◌, ℕ, Bool, true, false, List, [], ◌∷◌, ◌++◌, eqb, arith, refl, sym, ap, ◌∙◌, inl, inr, append_assoc}
use Rattle.std.specs.Prelude.{codes, ◌≢◌}
use Rattle.std.specs.Char.{is_ascii_digit, digit_value}
use Rattle.std.specs.Fmt.{decimal}
use Rattle.std.specs.List.{list_all}
use Rattle.std.specs.Result.{result_ok}
use Rattle.std.proofs.lemmas.Bool.{and_from, cases_eq, ne_eqb, not_from_false}
use Rattle.std.proofs.lemmas.Bool.Decides.{nat_tests}
use Rattle.net_addr.specs.AddrTexts.{addr_text}
use Rattle.net_addr.specs.Bits.{Address, Block, IsBlock, family_bits, family_size}
use Rattle.net_addr.specs.EndpointTexts.{endpoint_of_text, endpoint_text, host_part}
use Rattle.net_addr.specs.PrefixTexts.{prefix_of_text, prefix_text}
use Rattle.net_addr.specs.declared.endpoint.Endpoint.{Endpoint}
use Rattle.net_addr.proofs.EndpointLemmas.{endpoint_again}
use Rattle.net_addr.proofs.FreeLemmas.{IsForeign, addr_other}
use Rattle.net_addr.proofs.PrefixLemmas.{addr_written, prefix_again}
use Rattle.net_addr.proofs.SplitLemmas.{is_other}
use Rattle.tail_base.proofs.AllBytes.{all_append, all_weaker}
use Rattle.tail_base.proofs.NumberLemmas.{decimal_digits}
use Rattle.store_rows.specs.Endpoints.{IsEndpoint}
use Rattle.store_rows.specs.Lists.{IsListedText}

hex_other : (b : ℕ) → digit_value b < 16 → is_other 44 b ≡ true
hex_other b h = elim (cases_eq b 44) [
  | inl comma ↦ let bad : 36 < 16 = rw comma at h in absurd (omega arith)
  | inr other ↦ not_from_false (eqb b 44) (ne_eqb b 44 other)
]

digit_other : (b : ℕ) → is_ascii_digit b ≡ true → is_other 44 b ≡ true
digit_other b h = grind (arith, nat_tests)

comma_foreign : IsForeign 44
comma_foreign = record { hex = hex_other; digit = digit_other; colon = refl; dot = refl }

addr_free : (addr : Address) → addr.bits < family_size addr.v6 → list_all (is_other 44) (addr_text addr) ≡ true
addr_free addr small = addr_other 44 comma_foreign (addr_text addr) addr.v6 addr.bits (addr_written addr.v6 addr.bits small)

decimal_free : (n : ℕ) → n < 2 ^ 64 → list_all (is_other 44) (decimal n) ≡ true
decimal_free n small = all_weaker is_ascii_digit (is_other 44) digit_other (decimal n) (decimal_digits n small)

family_short : (v6 : Bool) → family_bits v6 < 1000
family_short true = omega arith
family_short false = omega arith

append_some : (xs : List ℕ) (y : ℕ) (ys : List ℕ) → xs ++ y ∷ ys ≢ []
append_some [] y ys e = cc (e)
append_some (x ∷ xs) y ys e = cc (e)

-- a prefix is an element of lists
pub prefix_listed : (p : Block) → IsBlock p → IsListedText prefix_text (λ text. result_ok (prefix_of_text text)) p
prefix_listed p block =
    let short = family_short p.base.v6 in
    let len = block.fits in
    record {
      read_again = ap result_ok (prefix_again p block (prefix_text p) refl);
      free = ap (list_all (is_other 44)) (append_assoc (addr_text p.base) (codes "/") (decimal p.len)) ∙ all_append (is_other 44) (addr_text p.base) (47 ∷ decimal p.len) (addr_free p.base block.in_family) (and_from _ _ refl (decimal_free p.len (omega arith)));
      some = λ e. append_some (addr_text p.base) 47 (decimal p.len) (sym (append_assoc (addr_text p.base) (codes "/") (decimal p.len)) ∙ e);
    }

host_free : (v6 : Bool) (bits : ℕ) → bits < family_size v6 → list_all (is_other 44) (host_part (record { v6 = v6; bits = bits })) ≡ true
host_free false bits small = addr_free (record { v6 = false; bits = bits }) small
host_free true bits small =
    let inside = addr_text (record { v6 = true; bits = bits }) in
    and_from _ _ refl (all_append (is_other 44) inside (codes "]") (addr_free (record { v6 = true; bits = bits }) small) refl)

-- an endpoint is an element of lists
pub endpoint_listed : (e : Endpoint) → IsEndpoint e → IsListedText endpoint_text endpoint_of_text e
endpoint_listed e fits = record {
  read_again = endpoint_again e fits.addr fits.port (endpoint_text e) refl;
  free = ap (list_all (is_other 44)) (append_assoc (host_part e.addr) (codes ":") (decimal e.port)) ∙ all_append (is_other 44) (host_part e.addr) (58 ∷ decimal e.port) (host_free e.addr.v6 e.addr.bits fits.addr) (and_from _ _ refl (decimal_free e.port (let small = fits.port in omega arith)));
  some = λ none. append_some (host_part e.addr) 58 (decimal e.port) (sym (append_assoc (host_part e.addr) (codes ":") (decimal e.port)) ∙ none);
}
