-- Tags are ASCII, and spell themselves.
use Rattle.std.proofs.Common.{◌≡◌, ◌<◌, ℕ, Bool, true, false, List, [], ◌∷◌, ◌++◌, length, drop, Option, Some, None, cond, arith, refl, sym, ap, ◌∙◌}
use Rattle.std.specs.Prelude.{nat_eq, nat_lt, nat_le, codes, ◌&&◌, ◌↔◌}
use Rattle.std.specs.List.{list_all, starts_with}
use Rattle.std.specs.Str.{IsAscii}
use Rattle.std.proofs.lemmas.Bool.{and_parts, and_from, cond-true}
use Rattle.std.proofs.lemmas.Bool.Decides.{nat_tests, Decides-eqb}
use Rattle.std.proofs.lemmas.Slice.Eq.{starts_is}
use Rattle.tail_base.specs.Tags.{is_letter, is_tag, is_tag_byte, is_tag_name, tag_of}
use Rattle.tail_base.specs.SpellsTag.{SpellsTag}
use Rattle.tail_base.proofs.AllBytes.{all_append, all_ascii, all_weaker}

abbrev is_small : ℕ → Bool
is_small b = nat_lt b 128

small_below : (b : ℕ) → is_small b ≡ true → b < 128
small_below b h = grind (arith, nat_tests)

letter_small : (b : ℕ) → is_letter b ≡ true → is_small b ≡ true
letter_small b h = grind (arith, nat_tests)

byte_small : (b : ℕ) → is_tag_byte b ≡ true → is_small b ≡ true
byte_small b h = grind (arith, nat_tests)

name_small : (bs : List ℕ) → is_tag_name bs ≡ true → list_all is_small bs ≡ true
name_small [] h = refl
name_small (b ∷ bs) h =
    let parts = and_parts (is_letter b && nat_le (length bs) 62) (list_all is_tag_byte bs) h in
    and_from _ _ (letter_small b (and_parts _ _ parts.0).0) (all_weaker is_tag_byte is_small byte_small bs parts.1)

pub tag_ascii : (bs : List ℕ) → is_tag bs ≡ true → IsAscii bs
tag_ascii bs h =
    let parts = and_parts (starts_with nat_eq bs (codes "tag:")) (is_tag_name (drop 4 bs)) h in
    let split : bs ≡ codes "tag:" ++ drop 4 bs = (starts_is Decides-eqb bs (codes "tag:") (starts_with nat_eq bs (codes "tag:")) refl).0 parts.0 in
    let whole = all_append is_small (codes "tag:") (drop 4 bs) refl (name_small (drop 4 bs) parts.1) in
    all_ascii is_small small_below bs (ap (list_all is_small) split ∙ whole)

-- a tag is read again
pub tag_again : (bs : List ℕ) → is_tag bs ≡ true → tag_of bs ≡ Some bs
tag_again bs h = cond-true (is_tag bs) (Some bs) None h

pick : (t : Bool) (bs tag : List ℕ) → cond t (Some bs) None ≡ Some tag → (t ≡ true) × (tag ≡ bs)
pick true bs tag h = (refl, cc (h))
pick false bs tag h = absurd (cc (h))

tag_spelled : (text tag : List ℕ) → tag_of text ≡ Some tag → SpellsTag text tag
tag_spelled text tag h =
    let found = pick (is_tag text) text tag h in
    record { valid = found.0; is = found.1 }

-- the tag that is read is the one that the text spells
pub tag_means : (text : List ℕ) (r : Option (List ℕ)) → r ≡ tag_of text → (tag : List ℕ) → SpellsTag text tag ↔ (r ≡ Some tag)
tag_means text r is tag = (λ h. is ∙ tag_again text h.valid ∙ ap Some (sym h.is), λ e. tag_spelled text tag (sym is ∙ e))
