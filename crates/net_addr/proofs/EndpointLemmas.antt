-- Which texts are read as endpoints, and what is written of them.
use Rattle.std.proofs.Common.{◌≡◌, ◌<◌, ◌+◌, ◌^◌, ℕ, Bool, true, false, List, [], ◌∷◌, ◌++◌, length, take, drop, get_or, eqb, ltb, Option, Some, arith, refl, sym, ap, ◌∙◌, inl, inr}
use Rattle.std.specs.Prelude.{◌↔◌, codes}
use Rattle.std.specs.Char.{is_ascii_digit, digit_value}
use Rattle.std.specs.Fmt.{decimal}
use Rattle.std.specs.List.{list_all, position, position_or_len}
use Rattle.std.specs.Option.{option_map, option_and_then}
use Rattle.std.proofs.Math.Seq.{drop-append-add}
use Rattle.std.proofs.lemmas.Bool.{and_parts, cases_Bool, cases_eq, cond-false, eqb-true, ltb-true, ne_eqb, not_from_false, not-true}
use Rattle.std.proofs.lemmas.Bool.Decides.{nat_tests}
use Rattle.std.proofs.lemmas.List.{append_assoc, take_at, drop_at, take-append-drop}
use Rattle.std.proofs.lemmas.List.Sums.{passes_at_first, split_at_first}
use Rattle.net_addr.specs.declared.endpoint.Endpoint.{Endpoint}
use Rattle.net_addr.specs.Bits.{family_size}
use Rattle.net_addr.specs.EndpointTexts.{bracketed, bracketed_at, endpoint_of_text, endpoint_text, host_part, made, plain, plain_at, port_behind_colon}
use Rattle.net_addr.specs.GroupReads.{v6_of_text}
use Rattle.net_addr.specs.QuadTexts.{quad_of_text}
use Rattle.net_addr.specs.AddrTexts.{addr_text}
use Rattle.tail_base.specs.Numerals.{number_in}
use Rattle.net_addr.specs.SpellsAddr.{SpellsAddr}
use Rattle.net_addr.specs.SpellsEndpoint.{SpellsEndpoint, before_port}
use Rattle.net_addr.specs.V6Texts.{SpellsV6}
use Rattle.net_addr.proofs.DecimalLemmas.{number_of_decimal, number_text}
use Rattle.net_addr.proofs.FreeLemmas.{IsForeign, quad_other, v6_other}
use Rattle.tail_base.proofs.NumeralLemmas.{number_in_fits, pick_some}
use Rattle.net_addr.proofs.PartLemmas.{and_then_some, map_some, quad_below, some_place}
use Rattle.net_addr.proofs.PrefixLemmas.{addr_written, position_is}
use Rattle.net_addr.proofs.AddrLemmas.{quad_no_colon}
use Rattle.net_addr.proofs.QuadLemmas.{quad_read, quad_spelled}
use Rattle.net_addr.proofs.SplitLemmas.{is_other}
use Rattle.net_addr.proofs.V6Lemmas.{v6_read, v6_spelled}

hex_other : (b : ℕ) → digit_value b < 16 → is_other 93 b ≡ true
hex_other b h = elim (cases_eq b 93) [
  | inl close ↦ let bad : 36 < 16 = rw close at h in absurd (omega arith)
  | inr other ↦ not_from_false (eqb b 93) (ne_eqb b 93 other)
]

digit_other : (b : ℕ) → is_ascii_digit b ≡ true → is_other 93 b ≡ true
digit_other b h = grind (arith, nat_tests)

close_foreign : IsForeign 93
close_foreign = record { hex = hex_other; digit = digit_other; colon = refl; dot = refl }

hex_open : (b : ℕ) → digit_value b < 16 → is_other 91 b ≡ true
hex_open b h = elim (cases_eq b 91) [
  | inl open_bracket ↦ let bad : 36 < 16 = rw open_bracket at h in absurd (omega arith)
  | inr other ↦ not_from_false (eqb b 91) (ne_eqb b 91 other)
]

digit_open : (b : ℕ) → is_ascii_digit b ≡ true → is_other 91 b ≡ true
digit_open b h = grind (arith, nat_tests)

open_foreign : IsForeign 91
open_foreign = record { hex = hex_open; digit = digit_open; colon = refl; dot = refl }

port_read : (port : ℕ) → port < 2 ^ 16 → port_behind_colon (58 ∷ decimal port) ≡ Some port
port_read port small = number_of_decimal 5 65535 port (omega arith) (omega arith) (omega arith) (omega arith)

not_open : (xs ys : List ℕ) → list_all (is_other 91) xs ≡ true → endpoint_of_text (xs ++ 58 ∷ ys) ≡ plain (xs ++ 58 ∷ ys)
not_open [] ys h = refl
not_open (x ∷ xs) ys h = cond-false (eqb x 91) (bracketed (xs ++ 58 ∷ ys)) (plain (x ∷ xs ++ 58 ∷ ys)) (not-true (eqb x 91) (and_parts (is_other 91 x) (list_all (is_other 91) xs) h).0)

-- ---- reading

v4_read : (host : List ℕ) (bits port : ℕ) → SpellsAddr host (record { v6 = false; bits = bits }) → port < 2 ^ 16 → endpoint_of_text (host ++ 58 ∷ decimal port) ≡ Some (made false bits port)
v4_read host bits port h small_port =
    let ending = 58 ∷ decimal port in
    let whole = host ++ ending in
    let place = position_is 58 host (decimal port) (ap (list_all (is_other 58)) h.1 ∙ quad_no_colon bits h.0) in
    let front : take (length host) whole ≡ host = take_at host ending (length host) refl in
    let back : drop (length host) whole ≡ ending = drop_at host ending (length host) refl in
    let addr : quad_of_text (take (length host) whole) ≡ Some bits = ap quad_of_text (front ∙ h.1) ∙ quad_read bits h.0 in
    let tail : port_behind_colon (drop (length host) whole) ≡ Some port = ap port_behind_colon back ∙ port_read port small_port in
    not_open host (decimal port) (ap (list_all (is_other 91)) h.1 ∙ quad_other 91 open_foreign bits h.0) ∙ ap (option_and_then (plain_at whole)) place
    ∙ ap (option_and_then (λ b. option_map (made false b) (port_behind_colon (drop (length host) whole)))) addr ∙ ap (option_map (made false bits)) tail

v6_read_behind : (host : List ℕ) (bits port : ℕ) → SpellsV6 host bits → port < 2 ^ 16 → bracketed (host ++ 93 ∷ 58 ∷ decimal port) ≡ Some (made true bits port)
v6_read_behind host bits port spelled small_port =
    let ending = 58 ∷ decimal port in
    let rest = host ++ 93 ∷ ending in
    let place = position_is 93 host ending (v6_other 93 close_foreign host bits spelled) in
    let front : take (length host) rest ≡ host = take_at host (93 ∷ ending) (length host) refl in
    let back : drop (length host + 1) rest ≡ ending = drop-append-add host (93 ∷ ending) 1 in
    let addr : v6_of_text (take (length host) rest) ≡ Some bits = ap v6_of_text front ∙ v6_read host bits spelled in
    let tail : port_behind_colon (drop (length host + 1) rest) ≡ Some port = ap port_behind_colon back ∙ port_read port small_port in
    ap (option_and_then (bracketed_at rest)) place
    ∙ ap (option_and_then (λ b. option_map (made true b) (port_behind_colon (drop (length host + 1) rest)))) addr ∙ ap (option_map (made true bits)) tail

-- brackets round a host, and what follows
closed : (host ending : List ℕ) → before_port true host ++ ending ≡ 91 ∷ host ++ 93 ∷ ending
closed host ending = ap (λ xs. 91 ∷ xs) (append_assoc host (93 ∷ []) ending)

read_family : (v6 : Bool) (host : List ℕ) (bits port : ℕ) → SpellsAddr host (record { v6 = v6; bits = bits }) → port < 2 ^ 16
    → endpoint_of_text (before_port v6 host ++ (codes ":" ++ decimal port)) ≡ Some (made v6 bits port)
read_family true host bits port h small_port = ap endpoint_of_text (closed host (58 ∷ decimal port)) ∙ v6_read_behind host bits port h small_port
read_family false host bits port h small_port = v4_read host bits port h small_port

pub endpoint_read : (text : List ℕ) (e : Endpoint) → SpellsEndpoint text e → endpoint_of_text text ≡ Some e
endpoint_read text e h = ap endpoint_of_text h.is ∙ read_family e.addr.v6 h.host e.addr.bits e.port h.addr (omega (arith, h.port))

-- ---- what is read is spelled

-- a colon and a port in decimal
pub record ShowsPort (text : List ℕ) (port : ℕ) : Type 0 where
  pub small : port < 65536
  pub is : text ≡ 58 ∷ decimal port

port_shown : (text : List ℕ) (port : ℕ) → port_behind_colon text ≡ Some port → ShowsPort text port
port_shown [] port h = absurd (cc)
port_shown (b ∷ bs) port h =
    let found = pick_some (eqb b 58) (number_in 5 0 65535 bs) port h in
    let fits = (number_in_fits 5 0 65535 port bs found.1).1 in
    let colon : b ≡ 58 = eqb-true b 58 found.0 in
    record { small = omega arith; is = ap (λ x. x ∷ bs) colon ∙ ap (λ xs. 58 ∷ xs) (number_text 5 65535 port bs (omega arith) found.1) }

-- a text is divided at the first mark
mark_shown : (mark : ℕ) (text : List ℕ) (place : ℕ) → position (λ b. eqb b mark) text ≡ Some place → text ≡ take place text ++ mark ∷ drop (place + 1) text
mark_shown mark text place h =
    let is_mark = λ (b : ℕ). eqb b mark in
    let found = some_place (ltb (position_or_len is_mark text) (length text)) (position_or_len is_mark text) place h in
    let inside = ltb-true (position_or_len is_mark text) (length text) found.0 in
    let here : get_or text (position_or_len is_mark text) 0 ≡ mark = eqb-true _ mark (passes_at_first is_mark text 0 inside) in
    rw (here, found.1) at (split_at_first is_mark text 0 inside)

plain_spelled : (text : List ℕ) (e : Endpoint) → plain text ≡ Some e → SpellsEndpoint text e
plain_spelled text e h =
    let at = and_then_some (position (λ b. eqb b 58) text) (plain_at text) e h in
    let bits = and_then_some (quad_of_text (take at.0 text)) (λ b. option_map (made false b) (port_behind_colon (drop at.0 text))) e at.2 in
    let port = map_some (port_behind_colon (drop at.0 text)) (made false bits.0) e bits.2 in
    let shown = port_shown (drop at.0 text) port.0 port.1 in
    rw (← port.2) (record {
      host = take at.0 text;
      addr = (quad_below (take at.0 text) bits.0 bits.1, quad_spelled (take at.0 text) bits.0 bits.1);
      port = shown.small;
      is = sym (take-append-drop at.0 text) ∙ ap (λ xs. take at.0 text ++ xs) shown.is;
    })

bracketed_parts : (text host ending : List ℕ) (bits port : ℕ) (e : Endpoint) → text ≡ host ++ 93 ∷ ending → SpellsV6 host bits → ShowsPort ending port → made true bits port ≡ e → SpellsEndpoint (91 ∷ text) e
bracketed_parts text host ending bits port e split spelled shown is =
    rw (← is) (record {
      host = host;
      addr = spelled;
      port = shown.small;
      is = ap (λ xs. 91 ∷ xs) (split ∙ ap (λ xs. host ++ 93 ∷ xs) shown.is) ∙ sym (closed host (58 ∷ decimal port));
    })

bracketed_spelled : (text : List ℕ) (e : Endpoint) → bracketed text ≡ Some e → SpellsEndpoint (91 ∷ text) e
bracketed_spelled text e h =
    let at = and_then_some (position (λ b. eqb b 93) text) (bracketed_at text) e h in
    let bits = and_then_some (v6_of_text (take at.0 text)) (λ b. option_map (made true b) (port_behind_colon (drop (at.0 + 1) text))) e at.2 in
    let port = map_some (port_behind_colon (drop (at.0 + 1) text)) (made true bits.0) e bits.2 in
    let shown = port_shown (drop (at.0 + 1) text) port.0 port.1 in
    bracketed_parts text (take at.0 text) (drop (at.0 + 1) text) bits.0 port.0 e (mark_shown 93 text at.0 at.1) (v6_spelled (take at.0 text) bits.0 bits.1) shown port.2

pub endpoint_spelled : (text : List ℕ) (e : Endpoint) → endpoint_of_text text ≡ Some e → SpellsEndpoint text e
endpoint_spelled [] e h = absurd (cc (h))
endpoint_spelled (b ∷ bs) e h = elim (cases_Bool (eqb b 91)) [
  | inl opened ↦
      let same : b ≡ 91 = eqb-true b 91 opened in
      rw same (bracketed_spelled bs e (rw opened at h))
  | inr other ↦ plain_spelled (b ∷ bs) e (rw other at h)
]

-- the endpoint that is read is the one that the text spells
pub endpoint_means : (text : List ℕ) (r : Option Endpoint) → r ≡ endpoint_of_text text → (e : Endpoint) → SpellsEndpoint text e ↔ (r ≡ Some e)
endpoint_means text r is e = (λ h. is ∙ endpoint_read text e h, λ h. endpoint_spelled text e (sym is ∙ h))

-- ---- what is written

host_is : (v6 : Bool) (bits : ℕ) → host_part (record { v6 = v6; bits = bits }) ≡ before_port v6 (addr_text (record { v6 = v6; bits = bits }))
host_is true bits = refl
host_is false bits = refl

pub endpoint_written : (e : Endpoint) → e.addr.bits < family_size e.addr.v6 → e.port < 2 ^ 16 → SpellsEndpoint (endpoint_text e) e
endpoint_written e small small_port = record {
  host = addr_text e.addr;
  addr = addr_written e.addr.v6 e.addr.bits small;
  port = omega arith;
  is = append_assoc (host_part e.addr) (codes ":") (decimal e.port) ∙ ap (λ xs. xs ++ (codes ":" ++ decimal e.port)) (host_is e.addr.v6 e.addr.bits);
}

pub endpoint_again : (e : Endpoint) → e.addr.bits < family_size e.addr.v6 → e.port < 2 ^ 16 → (text : List ℕ) → text ≡ endpoint_text e → endpoint_of_text text ≡ Some e
endpoint_again e small small_port text is = ap endpoint_of_text is ∙ endpoint_read (endpoint_text e) e (endpoint_written e small small_port)
