-- Labels are ASCII, and spell themselves.
use Rattle.std.proofs.Common.{◌≡◌, ◌<◌, ℕ, Bool, true, false, List, Option, Some, None, cond, arith, refl, sym, ap, ◌∙◌}
use Rattle.std.specs.Prelude.{◌↔◌}
use Rattle.std.specs.List.{list_all}
use Rattle.std.specs.Str.{IsAscii}
use Rattle.std.proofs.lemmas.Bool.{and_parts, cond-true}
use Rattle.std.proofs.lemmas.Bool.Decides.{nat_tests}
use Rattle.tail_base.specs.Labels.{is_label, is_label_byte, has_label_length, has_good_ends, label_of}
use Rattle.tail_base.specs.SpellsLabel.{SpellsLabel}
use Rattle.tail_base.proofs.AllBytes.{all_ascii}

pub byte_small : (b : ℕ) → is_label_byte b ≡ true → b < 128
byte_small b h = grind (arith, nat_tests)

pub label_bytes : (bs : List ℕ) → is_label bs ≡ true → list_all is_label_byte bs ≡ true
label_bytes bs h = (and_parts (has_label_length bs) _ (and_parts _ (has_good_ends bs) h).0).1

pub label_ascii : (bs : List ℕ) → is_label bs ≡ true → IsAscii bs
label_ascii bs h = all_ascii is_label_byte byte_small bs (label_bytes bs h)

-- a label is read again
pub label_again : (bs : List ℕ) → is_label bs ≡ true → label_of bs ≡ Some bs
label_again bs h = cond-true (is_label bs) (Some bs) None h

pick : (t : Bool) (bs label : List ℕ) → cond t (Some bs) None ≡ Some label → (t ≡ true) × (label ≡ bs)
pick true bs label h = (refl, cc (h))
pick false bs label h = absurd (cc (h))

label_spelled : (text label : List ℕ) → label_of text ≡ Some label → SpellsLabel text label
label_spelled text label h =
    let found = pick (is_label text) text label h in
    record { valid = found.0; is = found.1 }

-- the label that is read is the one that the text spells
pub label_means : (text : List ℕ) (r : Option (List ℕ)) → r ≡ label_of text → (label : List ℕ) → SpellsLabel text label ↔ (r ≡ Some label)
label_means text r is label = (λ h. is ∙ label_again text h.valid ∙ ap Some (sym h.is), λ e. label_spelled text label (sym is ∙ e))
