-- Which texts are read as prefixes, and what is written of them.
use Rattle.std.proofs.Common.{◌≡◌, ◌<◌, ◌+◌, ◌%◌, ℕ, suc, Bool, true, false, not, List, [], ◌∷◌, ◌++◌, length, take, drop, get_or, eqb, ltb, cond, Option, Some, None, Result, Ok, Err, arith, refl, sym, ap, ◌∙◌, inl, inr}
use Rattle.std.specs.Prelude.{◌↔◌, codes}
use Rattle.std.specs.Char.{is_ascii_digit, digit_value}
use Rattle.std.specs.Fmt.{decimal}
use Rattle.std.specs.List.{list_all, position, position_or_len}
use Rattle.std.proofs.Math.Seq.{drop-append-add}
use Rattle.std.proofs.lemmas.Bool.{and_parts, cases_eq, ne_eqb, eq-eqb, eqb-true, not_from_false, not_from_true, cond-true, cond-false, lt-ltb, ltb-true}
use Rattle.std.proofs.lemmas.Bool.Decides.{nat_tests}
use Rattle.std.proofs.lemmas.List.{take_at, append_assoc, length-append}
use Rattle.std.proofs.lemmas.List.Sums.{passes_at_first, split_at_first}
use Rattle.net_addr.specs.declared.prefix_fault.PrefixFault.{PrefixFault}
use Rattle.net_addr.specs.declared.prefix_fault.PrefixFault.TheVariants.{HostBitsSet}
use Rattle.net_addr.specs.Bits.{Address, Block, IsBlock, family_bits, family_size, size_of}
use Rattle.net_addr.specs.AddrTexts.{addr_of_text, addr_text}
use Rattle.tail_base.specs.Numerals.{number_in}
use Rattle.net_addr.specs.PrefixTexts.{divided, is_aligned, prefix_of_text, prefix_text, with_base, with_length}
use Rattle.net_addr.specs.SpellsAddr.{SpellsAddr}
use Rattle.net_addr.specs.SpellsPrefix.{SpellsPrefix}
use Rattle.net_addr.proofs.AddrLemmas.{addr_read, addr_spelled}
use Rattle.net_addr.proofs.DecimalLemmas.{number_of_decimal, number_text}
use Rattle.net_addr.proofs.FreeLemmas.{IsForeign, addr_other}
use Rattle.net_addr.proofs.HexLemmas.{v6_written}
use Rattle.tail_base.proofs.NumeralLemmas.{number_in_fits}
use Rattle.net_addr.proofs.PartLemmas.{some_place}
use Rattle.net_addr.proofs.SplitLemmas.{is_other}

-- what is written of an address spells it
pub addr_written : (v6 : Bool) (bits : ℕ) → bits < family_size v6 → SpellsAddr (addr_text (record { v6 = v6; bits = bits })) (record { v6 = v6; bits = bits })
addr_written true bits small = v6_written bits small
addr_written false bits small = (small, refl)

-- ---- no slash stands in an address

hex_other : (b : ℕ) → digit_value b < 16 → is_other 47 b ≡ true
hex_other b h = elim (cases_eq b 47) [
  | inl slash ↦ let bad : 36 < 16 = rw slash at h in absurd (omega arith)
  | inr other ↦ not_from_false (eqb b 47) (ne_eqb b 47 other)
]

digit_other : (b : ℕ) → is_ascii_digit b ≡ true → is_other 47 b ≡ true
digit_other b h = grind (arith, nat_tests)

slash_foreign : IsForeign 47
slash_foreign = record { hex = hex_other; digit = digit_other; colon = refl; dot = refl }

-- ---- the first slash

first_place : (mark : ℕ) (xs ys : List ℕ) → list_all (is_other mark) xs ≡ true → position_or_len (λ b. eqb b mark) (xs ++ mark ∷ ys) ≡ length xs
first_place mark [] ys h = cond-false (not (eqb mark mark)) _ 0 (not_from_true (eqb mark mark) (eq-eqb mark mark refl))
first_place mark (x ∷ xs) ys h =
    let parts = and_parts (is_other mark x) (list_all (is_other mark) xs) h in
    let rest = first_place mark xs ys parts.1 in
    let more : 1 + position_or_len (λ b. eqb b mark) (xs ++ mark ∷ ys) ≡ suc (length xs) = omega arith in
    cond-true (not (eqb x mark)) (1 + position_or_len (λ b. eqb b mark) (xs ++ mark ∷ ys)) 0 parts.0 ∙ more

pub position_is : (mark : ℕ) (xs ys : List ℕ) → list_all (is_other mark) xs ≡ true → position (λ b. eqb b mark) (xs ++ mark ∷ ys) ≡ Some (length xs)
position_is mark xs ys h =
    let place = first_place mark xs ys h in
    let long = length-append xs (mark ∷ ys) in
    let inside : ltb (position_or_len (λ b. eqb b mark) (xs ++ mark ∷ ys)) (length (xs ++ mark ∷ ys)) ≡ true = lt-ltb _ _ (omega arith) in
    cond-true (ltb (position_or_len (λ b. eqb b mark) (xs ++ mark ∷ ys)) (length (xs ++ mark ∷ ys))) (Some (position_or_len (λ b. eqb b mark) (xs ++ mark ∷ ys))) None inside ∙ ap Some place

-- ---- reading

family_top : (v6 : Bool) → family_bits v6 < 1000
family_top true = omega arith
family_top false = omega arith

pub prefix_read : (text : List ℕ) (p : Block) → SpellsPrefix text p → prefix_of_text text ≡ Ok p
prefix_read text p h =
    let base = h.base_text in
    let ending = decimal p.len in
    let whole = base ++ 47 ∷ ending in
    let place = position_is 47 base ending (addr_other 47 slash_foreign base p.base.v6 p.base.bits h.base) in
    let front : take (length base) whole ≡ base = take_at base (47 ∷ ending) (length base) refl in
    let back : drop (length base + 1) whole ≡ ending = drop-append-add base (47 ∷ ending) 1 in
    let addr = addr_read base p.base h.base in
    let top = family_top p.base.v6 in
    let len : number_in 3 0 (family_bits p.base.v6) ending ≡ Some p.len = number_of_decimal 3 (family_bits p.base.v6) p.len (omega arith) (omega arith) h.fits (omega (arith, h.fits)) in
    let straight : is_aligned p ≡ true = eq-eqb (p.base.bits % size_of p) 0 h.aligned in
    ap prefix_of_text h.is ∙ ap (divided whole) place ∙ ap (λ xs. with_base (addr_of_text xs) (drop (length base + 1) whole)) front ∙ ap (with_base (addr_of_text base)) back
    ∙ ap (λ a. with_base a ending) addr ∙ ap (with_length p.base) len ∙ cond-true (is_aligned p) (Ok p) (Err HostBitsSet) straight

pick_ok : (t : Bool) (q p : Block) → cond t (Ok q) (Err HostBitsSet) ≡ Ok p → (t ≡ true) × (q ≡ p)
pick_ok true q p h = (refl, cc (h))
pick_ok false q p h = absurd (cc (h))

length_spelled : (text base_text ending : List ℕ) (addr : Address) (read : Option ℕ) (p : Block) → text ≡ base_text ++ 47 ∷ ending → SpellsAddr base_text addr
    → number_in 3 0 (family_bits addr.v6) ending ≡ read → with_length addr read ≡ Ok p → SpellsPrefix text p
length_spelled text base_text ending addr None p split base number h = absurd (cc (h))
length_spelled text base_text ending addr (Some n) p split base number h =
    let found = pick_ok (is_aligned (record { base = addr; len = n })) (record { base = addr; len = n }) p h in
    let ending_is = number_text 3 (family_bits addr.v6) n ending (omega arith) number in
    rw (← found.1) (record {
      base_text = base_text;
      base = base;
      fits = (number_in_fits 3 0 (family_bits addr.v6) n ending number).1;
      aligned = eqb-true _ 0 found.0;
      is = split ∙ ap (λ xs. base_text ++ 47 ∷ xs) ending_is;
    })

base_spelled : (text base_text ending : List ℕ) (read : Option Address) (p : Block) → text ≡ base_text ++ 47 ∷ ending → addr_of_text base_text ≡ read → with_base read ending ≡ Ok p → SpellsPrefix text p
base_spelled text base_text ending None p split addr h = absurd (cc (h))
base_spelled text base_text ending (Some addr) p split is h =
    length_spelled text base_text ending addr (number_in 3 0 (family_bits addr.v6) ending) p split (addr_spelled base_text addr is) refl h

divided_spelled : (text : List ℕ) (place : Option ℕ) (p : Block) → position (λ b. eqb b 47) text ≡ place → divided text place ≡ Ok p → SpellsPrefix text p
divided_spelled text None p at h = absurd (cc (h))
divided_spelled text (Some i) p at h =
    let slash = λ (b : ℕ). eqb b 47 in
    let found = some_place (ltb (position_or_len slash text) (length text)) (position_or_len slash text) i at in
    let inside = ltb-true (position_or_len slash text) (length text) found.0 in
    let split = split_at_first slash text 0 inside in
    let mark : get_or text (position_or_len slash text) 0 ≡ 47 = eqb-true _ 47 (passes_at_first slash text 0 inside) in
    base_spelled text (take i text) (drop (i + 1) text) (addr_of_text (take i text)) p (rw (mark, found.1) at split) refl h

pub prefix_spelled : (text : List ℕ) (p : Block) → prefix_of_text text ≡ Ok p → SpellsPrefix text p
prefix_spelled text p h = divided_spelled text (position (λ b. eqb b 47) text) p refl h

pub prefix_means : (text : List ℕ) (r : Result Block PrefixFault) → r ≡ prefix_of_text text → (p : Block) → SpellsPrefix text p ↔ (r ≡ Ok p)
prefix_means text r is p = (λ h. is ∙ prefix_read text p h, λ e. prefix_spelled text p (sym is ∙ e))

-- what is written of a prefix spells it
pub prefix_written : (p : Block) → IsBlock p → SpellsPrefix (prefix_text p) p
prefix_written p h = record { base_text = addr_text p.base; base = addr_written p.base.v6 p.base.bits h.in_family; fits = h.fits; aligned = h.aligned; is = append_assoc (addr_text p.base) (codes "/") (decimal p.len) }

-- and is read again
pub addr_again : (addr : Address) → addr.bits < family_size addr.v6 → (text : List ℕ) → text ≡ addr_text addr → addr_of_text text ≡ Some addr
addr_again addr small text is = ap addr_of_text is ∙ addr_read (addr_text addr) addr (addr_written addr.v6 addr.bits small)

pub prefix_again : (p : Block) → IsBlock p → (text : List ℕ) → text ≡ prefix_text p → prefix_of_text text ≡ Ok p
prefix_again p h text is = ap prefix_of_text is ∙ prefix_read (prefix_text p) p (prefix_written p h)
