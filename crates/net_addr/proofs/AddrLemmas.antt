-- Which texts are read as addresses.
use Rattle.std.proofs.Common.{◌≡◌, ◌<◌, ◌^◌, ℕ, Bool, true, false, List, [], ◌∷◌, ◌++◌, length, eqb, cond, Option, Some, arith, refl, sym, ap, ◌∙◌, inl, inr}
use Rattle.std.specs.Prelude.{◌↔◌}
use Rattle.std.specs.Char.{is_ascii_digit}
use Rattle.std.specs.Fmt.{decimal}
use Rattle.std.specs.List.{join_with_byte, list_all, list_any}
use Rattle.std.specs.Option.{option_map}
use Rattle.std.proofs.lemmas.Bool.{and_parts, or_right, or_from, not-true, cond-true, cond-false}
use Rattle.std.proofs.lemmas.Bool.Decides.{nat_tests}
use Rattle.net_addr.specs.Bits.{Address}
use Rattle.net_addr.specs.AddrTexts.{addr_of_text}
use Rattle.net_addr.specs.GroupReads.{v6_of_text}
use Rattle.net_addr.specs.QuadTexts.{byte_at, quad_of_text, quad_text}
use Rattle.net_addr.specs.SpellsAddr.{SpellsAddr}
use Rattle.net_addr.specs.V6Texts.{SpellsGroups, SpellsV6}
use Rattle.tail_base.proofs.AllBytes.{all_append, all_weaker}
use Rattle.tail_base.proofs.NumberLemmas.{decimal_digits}
use Rattle.net_addr.proofs.PartLemmas.{map_some, quad_below}
use Rattle.net_addr.proofs.QuadLemmas.{quad_read, quad_spelled}
use Rattle.net_addr.proofs.SplitLemmas.{is_other}
use Rattle.net_addr.proofs.V6Lemmas.{v6_read, v6_spelled}

abbrev colon : ℕ → Bool
colon b = eqb b 58

any_middle : (xs : List ℕ) (ys : List ℕ) → list_any colon (xs ++ 58 ∷ ys) ≡ true
any_middle [] ys = refl
any_middle (x ∷ xs) ys = or_right (colon x) (list_any colon (xs ++ 58 ∷ ys)) (any_middle xs ys)

none_of : (xs : List ℕ) → list_all (is_other 58) xs ≡ true → list_any colon xs ≡ false
none_of [] h = refl
none_of (x ∷ xs) h =
    let parts = and_parts (is_other 58 x) (list_all (is_other 58) xs) h in
    or_from (colon x) (list_any colon xs) (not-true (colon x) parts.0) (none_of xs parts.1)

joined_colon : (texts : List (List ℕ)) (groups : List ℕ) → SpellsGroups texts groups → length groups ≡ 8 → list_any colon (join_with_byte 58 texts) ≡ true
joined_colon [] [] h eight = absurd (omega arith)
joined_colon [] (group ∷ groups) h eight = absurd h
joined_colon (text ∷ texts) [] h eight = absurd h
joined_colon (text ∷ []) (group ∷ []) h eight = absurd (omega arith)
joined_colon (text ∷ []) (group ∷ other ∷ groups) h eight = absurd h.1
joined_colon (text ∷ next ∷ texts) (group ∷ groups) h eight = any_middle text (join_with_byte 58 (next ∷ texts))

v6_colon : (text : List ℕ) (n : ℕ) → SpellsV6 text n → list_any colon text ≡ true
v6_colon text n h = elim h.form [
  | inl form ↦ ap (list_any colon) form.is ∙ joined_colon form.texts h.groups form.spelled form.eight
  | inr form ↦ ap (list_any colon) form.is ∙ any_middle (join_with_byte 58 form.before_texts) (58 ∷ join_with_byte 58 form.after_texts)
]

digit_other : (b : ℕ) → is_ascii_digit b ≡ true → is_other 58 b ≡ true
digit_other b h = grind (arith, nat_tests)

free : (n : ℕ) → n < 256 → list_all (is_other 58) (decimal n) ≡ true
free n small = all_weaker is_ascii_digit (is_other 58) digit_other (decimal n) (decimal_digits n (omega arith))

pub quad_no_colon : (n : ℕ) → n < 2 ^ 32 → list_all (is_other 58) (quad_text n) ≡ true
quad_no_colon n small =
    let a = byte_at n 3 in
    let b = byte_at n 2 in
    let c = byte_at n 1 in
    let d = byte_at n 0 in
    let last = free d (omega arith) in
    let third = all_append (is_other 58) (decimal c) (46 ∷ decimal d) (free c (omega arith)) last in
    let second = all_append (is_other 58) (decimal b) (46 ∷ (decimal c ++ 46 ∷ decimal d)) (free b (omega arith)) third in
    all_append (is_other 58) (decimal a) (46 ∷ (decimal b ++ 46 ∷ (decimal c ++ 46 ∷ decimal d))) (free a (omega arith)) second

abbrev v6_addr : ℕ → Address
v6_addr bits = record { v6 = true; bits = bits }

abbrev v4_addr : ℕ → Address
v4_addr bits = record { v6 = false; bits = bits }

chosen : (t : Bool) (text : List ℕ) (addr : Address) → cond t (option_map v6_addr (v6_of_text text)) (option_map v4_addr (quad_of_text text)) ≡ Some addr → SpellsAddr text addr
chosen true text addr h =
    let found = map_some (v6_of_text text) v6_addr addr h in
    rw (← found.2) (v6_spelled text found.0 found.1)
chosen false text addr h =
    let found = map_some (quad_of_text text) v4_addr addr h in
    rw (← found.2) (quad_below text found.0 found.1, quad_spelled text found.0 found.1)

pub addr_spelled : (text : List ℕ) (addr : Address) → addr_of_text text ≡ Some addr → SpellsAddr text addr
addr_spelled text addr h = chosen (list_any colon text) text addr h

read_family : (v6 : Bool) (text : List ℕ) (bits : ℕ) → SpellsAddr text (record { v6 = v6; bits = bits }) → addr_of_text text ≡ Some (record { v6 = v6; bits = bits })
read_family true text bits h =
    cond-true (list_any colon text) (option_map v6_addr (v6_of_text text)) (option_map v4_addr (quad_of_text text)) (v6_colon text bits h)
    ∙ ap (option_map v6_addr) (v6_read text bits h)
read_family false text bits h =
    cond-false (list_any colon text) (option_map v6_addr (v6_of_text text)) (option_map v4_addr (quad_of_text text)) (ap (list_any colon) h.1 ∙ none_of (quad_text bits) (quad_no_colon bits h.0))
    ∙ ap (option_map v4_addr) (ap quad_of_text h.1 ∙ quad_read bits h.0)

pub addr_read : (text : List ℕ) (addr : Address) → SpellsAddr text addr → addr_of_text text ≡ Some addr
addr_read text addr h = read_family addr.v6 text addr.bits h

-- the address that is read is the one that the text spells
pub addr_means : (text : List ℕ) (r : Option Address) → r ≡ addr_of_text text → (addr : Address) → SpellsAddr text addr ↔ (r ≡ Some addr)
addr_means text r is addr = (λ h. is ∙ addr_read text addr h, λ e. addr_spelled text addr (sym is ∙ e))
