-- The text of a new row names its id, and no other text names that.
use Rattle.std.proofs.Common.{◌≡◌, ◌<◌, ◌^◌, ℕ, true, false, List, [], ◌∷◌, ◌++◌, length, drop, nat_eq, codes, arith, sym, ◌∙◌, ap, refl, append_assoc}
use Rattle.std.specs.Char.{is_ascii_digit}
use Rattle.std.specs.Fmt.{decimal}
use Rattle.std.specs.List.{list_all, starts_with}
use Rattle.std.proofs.lemmas.Bool.{and_parts, both_ways}
use Rattle.std.proofs.lemmas.Bool.Decides.{Decides-eqb, nat_tests}
use Rattle.std.proofs.lemmas.Fmt.{decimal_injective}
use Rattle.std.proofs.lemmas.Slice.Eq.{starts_is}
use Rattle.std.proofs.Math.Seq.{drop-append_seam}
use Rattle.tail_base.proofs.NumberLemmas.{decimal_digits}
use Rattle.net_rows.specs.Damage.{names_id, names_key}
use Rattle.net_rows.specs.declared.rows.Rows.{Rows}
use Rattle.net_rows.specs.Sound.{AreSound}
use Rattle.net_rows.specs.declared.key.AuthKey.{AuthKey}
use Rattle.net_rows.specs.declared.pending.Pending.{Pending}
use Rattle.desk_state.specs.Texts.{digits_of, row_text}
use Rattle.net_rows.proofs.Puttable.{IsOwn}

same_byte : (x : ℕ) → nat_eq x x ≡ true
same_byte x = grind arith

starts_self : (xs rest : List ℕ) → starts_with nat_eq (xs ++ rest) xs ≡ true
starts_self [] rest = refl
starts_self (x ∷ xs) rest = rw (same_byte x) (starts_self xs rest)

-- the text of a new row names its id
pub row_text_names : (head : List ℕ) (id : ℕ) (words : List ℕ) → names_id head id (row_text head id words) ≡ true
row_text_names head id words = starts_self (head ++ decimal id ++ codes "-") (digits_of words)

regroup : (head digits tail rest : List ℕ) → head ++ digits ++ tail ++ rest ≡ head ++ (digits ++ (tail ++ rest))
regroup head digits tail rest = append_assoc (head ++ digits) tail rest ∙ append_assoc head digits (tail ++ rest)

digit_no_hyphen : (b : ℕ) → is_ascii_digit b ≡ true → nat_eq b 45 ≡ false
digit_no_hyphen b h = grind (arith, nat_tests)

-- digits before a hyphen
same_digits : (ds es xs ys : List ℕ) → list_all is_ascii_digit ds ≡ true → list_all is_ascii_digit es ≡ true → ds ++ 45 ∷ xs ≡ es ++ 45 ∷ ys → ds ≡ es
same_digits [] [] xs ys h k e = refl
same_digits [] (b ∷ es) xs ys h k e =
    let here : 45 ≡ b = cc in
    absurd (both_ways _ (digit_no_hyphen b (and_parts _ _ k).0) (ap (λ x. nat_eq x 45) (sym here)))
same_digits (a ∷ ds) [] xs ys h k e =
    let here : a ≡ 45 = cc in
    absurd (both_ways _ (digit_no_hyphen a (and_parts _ _ h).0) (ap (λ x. nat_eq x 45) here))
same_digits (a ∷ ds) (b ∷ es) xs ys h k e =
    let here : a ≡ b = cc in
    let rest : ds ++ 45 ∷ xs ≡ es ++ 45 ∷ ys = cc in
    let left = and_parts (is_ascii_digit a) (list_all is_ascii_digit ds) h in
    let right = and_parts (is_ascii_digit b) (list_all is_ascii_digit es) k in
    let more = same_digits ds es xs ys left.1 right.1 rest in
    cc

-- what follows the head of a text that names an id
named_rest : (head : List ℕ) (id : ℕ) (text : List ℕ) → names_id head id text ≡ true
    → (rest : List ℕ) × (drop (length head) text ≡ decimal id ++ 45 ∷ rest)
named_rest head id text h =
    let needle = head ++ decimal id ++ codes "-" in
    let rest = drop (length needle) text in
    let is : text ≡ needle ++ rest = (starts_is Decides-eqb text needle (starts_with nat_eq text needle) refl).0 h in
    (rest, ap (drop (length head)) (is ∙ regroup head (decimal id) (codes "-") rest) ∙ drop-append_seam head (decimal id ++ (codes "-" ++ rest)))

-- a text names one id
pub names_one : (head : List ℕ) (a b : ℕ) (text : List ℕ) → a < 2 ^ 64 → b < 2 ^ 64 → names_id head a text ≡ true → names_id head b text ≡ true → a ≡ b
names_one head a b text small less h k =
    let left = named_rest head a text h in
    let right = named_rest head b text k in
    decimal_injective a b small less
    (same_digits (decimal a) (decimal b) left.0 right.0 (decimal_digits a small) (decimal_digits b less) (sym left.1 ∙ right.1))

-- a key's text that names an id keeps the rule of keys' texts
pub key_text_names : (id : ℕ) (words : List ℕ) → names_key id (row_text (codes "tnkey-") id words) ≡ true
key_text_names id words = row_text_names (codes "tnkey-") id words

-- a text that names an id as a key that was made here does names no other as a key
key_names_one : (a b : ℕ) (words : List ℕ) → a < 2 ^ 64 → b < 2 ^ 64 → names_key a (row_text (codes "tnkey-") b words) ≡ true → a ≡ b
key_names_one a b words small less h =
    let text = row_text (codes "tnkey-") b words in
    let begins : starts_with nat_eq text (codes "tnkey-") ≡ true = refl in
    let named : names_id (codes "tnkey-") a text ≡ true = rw begins at h in
    names_one (codes "tnkey-") a b text small less named (row_text_names (codes "tnkey-") b words)

-- No other key has the text of a new one.
pub fresh_key_text : (t : Rows) (k : AuthKey) (words : List ℕ) → AreSound t → k.id ≡ t.next.key → k.text ≡ row_text (codes "tnkey-") t.next.key words
    → IsOwn (λ r. r.id) (λ r. r.text) t.keys k
fresh_key_text t k words sound is text a inside e =
    let ids = sound.keys.ids a inside in
    let top = sound.counters.key.1 in
    let named = rw (e ∙ text) at ((sound.keys.keeps a inside).text) in
    key_names_one a.id t.next.key words (omega (arith, ids.1, top)) (omega (arith, top)) named ∙ sym is

-- No other pending entry has the text of a new one.
pub fresh_pending_text : (t : Rows) (p : Pending) (words : List ℕ) → AreSound t → p.id ≡ t.next.pending → p.text ≡ row_text (codes "reg-") t.next.pending words
    → IsOwn (λ r. r.id) (λ r. r.text) t.pending p
fresh_pending_text t p words sound is text a inside e =
    let ids = sound.pending.ids a inside in
    let top = sound.counters.pending.1 in
    let named = rw (e ∙ text) at ((sound.pending.keeps a inside).text) in
    names_one (codes "reg-") a.id t.next.pending (row_text (codes "reg-") t.next.pending words) (omega (arith, ids.1, top)) (omega (arith, top)) named
    (row_text_names (codes "reg-") t.next.pending words) ∙ sym is
