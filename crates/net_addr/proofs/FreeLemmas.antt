-- Marks that stand in no address.
use Rattle.std.proofs.Common.{◌≡◌, ◌<◌, ◌^◌, ℕ, Bool, true, false, List, [], ◌∷◌, ◌++◌, arith, refl, ap, ◌∙◌, inl, inr}
use Rattle.std.specs.Char.{is_ascii_digit, digit_value}
use Rattle.std.specs.Fmt.{decimal}
use Rattle.std.specs.List.{join_with_byte, list_all}
use Rattle.std.specs.Str.Parse.{AllDigits}
use Rattle.std.proofs.lemmas.Bool.{and_from}
use Rattle.net_addr.specs.QuadTexts.{byte_at, quad_text}
use Rattle.net_addr.specs.SpellsAddr.{SpellsAddr}
use Rattle.net_addr.specs.V6Texts.{SpellsGroups, SpellsV6}
use Rattle.tail_base.proofs.AllBytes.{all_append, all_weaker}
use Rattle.tail_base.proofs.NumberLemmas.{decimal_digits}
use Rattle.net_addr.proofs.SplitLemmas.{is_other}

-- no hexadecimal digit, colon or dot is the mark
pub record IsForeign (mark : ℕ) : Type 0 where
  pub hex : (b : ℕ) → digit_value b < 16 → is_other mark b ≡ true
  pub digit : (b : ℕ) → is_ascii_digit b ≡ true → is_other mark b ≡ true
  pub colon : is_other mark 58 ≡ true
  pub dot : is_other mark 46 ≡ true

hexes_other : (mark : ℕ) → IsForeign mark → (bs : List ℕ) → AllDigits 16 bs → list_all (is_other mark) bs ≡ true
hexes_other mark foreign [] h = refl
hexes_other mark foreign (b ∷ bs) h = and_from _ _ (foreign.hex b h.0) (hexes_other mark foreign bs h.1)

joined_other : (mark : ℕ) → IsForeign mark → (texts : List (List ℕ)) (groups : List ℕ) → SpellsGroups texts groups → list_all (is_other mark) (join_with_byte 58 texts) ≡ true
joined_other mark foreign [] [] h = refl
joined_other mark foreign [] (group ∷ groups) h = absurd h
joined_other mark foreign (text ∷ texts) [] h = absurd h
joined_other mark foreign (text ∷ []) (group ∷ groups) h = hexes_other mark foreign text h.0.digits
joined_other mark foreign (text ∷ next ∷ texts) (group ∷ groups) h =
    all_append (is_other mark) text (58 ∷ join_with_byte 58 (next ∷ texts)) (hexes_other mark foreign text h.0.digits)
    (and_from _ _ foreign.colon (joined_other mark foreign (next ∷ texts) groups h.1))

pub v6_other : (mark : ℕ) → IsForeign mark → (text : List ℕ) (n : ℕ) → SpellsV6 text n → list_all (is_other mark) text ≡ true
v6_other mark foreign text n h = elim h.form [
  | inl form ↦ ap (list_all (is_other mark)) form.is ∙ joined_other mark foreign form.texts h.groups form.spelled
  | inr form ↦
      ap (list_all (is_other mark)) form.is
      ∙ all_append (is_other mark) (join_with_byte 58 form.before_texts) (58 ∷ 58 ∷ join_with_byte 58 form.after_texts)
      (joined_other mark foreign form.before_texts form.before form.spelled_before)
      (and_from _ _ foreign.colon (and_from _ _ foreign.colon (joined_other mark foreign form.after_texts form.after form.spelled_after)))
]

free : (mark : ℕ) → IsForeign mark → (n : ℕ) → n < 256 → list_all (is_other mark) (decimal n) ≡ true
free mark foreign n small = all_weaker is_ascii_digit (is_other mark) foreign.digit (decimal n) (decimal_digits n (omega arith))

pub quad_other : (mark : ℕ) → IsForeign mark → (n : ℕ) → n < 2 ^ 32 → list_all (is_other mark) (quad_text n) ≡ true
quad_other mark foreign n small =
    let a = byte_at n 3 in
    let b = byte_at n 2 in
    let c = byte_at n 1 in
    let d = byte_at n 0 in
    let last = and_from _ _ foreign.dot (free mark foreign d (omega arith)) in
    let third = and_from _ _ foreign.dot (all_append (is_other mark) (decimal c) (46 ∷ decimal d) (free mark foreign c (omega arith)) last) in
    let second = and_from _ _ foreign.dot (all_append (is_other mark) (decimal b) (46 ∷ (decimal c ++ 46 ∷ decimal d)) (free mark foreign b (omega arith)) third) in
    all_append (is_other mark) (decimal a) (46 ∷ (decimal b ++ 46 ∷ (decimal c ++ 46 ∷ decimal d))) (free mark foreign a (omega arith)) second

pub addr_other : (mark : ℕ) → IsForeign mark → (text : List ℕ) (v6 : Bool) (bits : ℕ) → SpellsAddr text (record { v6 = v6; bits = bits }) → list_all (is_other mark) text ≡ true
addr_other mark foreign text true bits h = v6_other mark foreign text bits h
addr_other mark foreign text false bits h = ap (list_all (is_other mark)) h.1 ∙ quad_other mark foreign bits h.0
