-- The texts of tags.
use Rattle.std.proofs.Common.{◌≡◌, ℕ, true, List, [], ◌∷◌, ◌++◌, drop, arith, refl, ap, ◌∙◌}
use Rattle.std.specs.Prelude.{nat_eq, nat_le, codes, ◌&&◌, length}
use Rattle.std.specs.List.{list_all, starts_with}
use Rattle.std.proofs.lemmas.Bool.{and_parts, and_from}
use Rattle.std.proofs.lemmas.Bool.Decides.{nat_tests, Decides-eqb}
use Rattle.std.proofs.lemmas.Slice.Eq.{starts_is}
use Rattle.tail_base.specs.Tags.{is_letter, is_tag, is_tag_byte, is_tag_name, tag_of}
use Rattle.tail_base.proofs.AllBytes.{all_append, all_weaker}
use Rattle.tail_base.proofs.TagLemmas.{tag_again}
use Rattle.store_rows.specs.Lists.{IsListedText, is_unseparated}

letter_free : (b : ℕ) → is_letter b ≡ true → is_unseparated b ≡ true
letter_free b h = grind (arith, nat_tests)

byte_free : (b : ℕ) → is_tag_byte b ≡ true → is_unseparated b ≡ true
byte_free b h = grind (arith, nat_tests)

name_free : (bs : List ℕ) → is_tag_name bs ≡ true → list_all is_unseparated bs ≡ true
name_free [] h = refl
name_free (b ∷ bs) h =
    let parts = and_parts (is_letter b && nat_le (length bs) 62) (list_all is_tag_byte bs) h in
    and_from _ _ (letter_free b (and_parts _ _ parts.0).0) (all_weaker is_tag_byte is_unseparated byte_free bs parts.1)

tag_free : (bs : List ℕ) → is_tag bs ≡ true → list_all is_unseparated bs ≡ true
tag_free bs h =
    let parts = and_parts (starts_with nat_eq bs (codes "tag:")) (is_tag_name (drop 4 bs)) h in
    let split : bs ≡ codes "tag:" ++ drop 4 bs = (starts_is Decides-eqb bs (codes "tag:") (starts_with nat_eq bs (codes "tag:")) refl).0 parts.0 in
    ap (list_all is_unseparated) split ∙ all_append is_unseparated (codes "tag:") (drop 4 bs) refl (name_free (drop 4 bs) parts.1)

tag_some : (bs : List ℕ) → is_tag bs ≡ true → bs ≡ [] → ⊥
tag_some [] h e = cc (h)
tag_some (b ∷ bs) h e = cc (e)

-- a tag is an element of lists
pub tag_listed : (bs : List ℕ) → is_tag bs ≡ true → IsListedText (λ tag. tag) tag_of bs
tag_listed bs h = record { read_again = tag_again bs h; free = tag_free bs h; some = tag_some bs h }
