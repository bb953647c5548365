-- A text tells the JSON that it was written of.
use Rattle.std.proofs.Common.{◌≡◌, ◌≤◌, ℕ, zero, suc, Some, refl, sym, ap, ap₂, ◌∙◌, arith}
use Rattle.std.specs.Prelude.{unwrap_or}
use Rattle.json.specs.Json as json
use Rattle.json.specs.Tree as tree
use Rattle.json.proofs.Printed.Decimals.{IsNumber-decimal}
use Rattle.json.proofs.Printed.Trees.{document-print}
use Rattle.serde_json.specs.Data.{Num, unsigned, negative, float, Data, null, boolean, number, string, array, object, Items, no_items, item, Members, no_members, member}
use Rattle.serde_json.specs.Read.{number_of}
use Rattle.serde_json.specs.Written.{number_text, outline, items_outline, members_outline, compact_text}
use Rattle.serde_json.proofs.Numbers.{number_of-decimal}
use Rattle.serde_json.proofs.Texts.{print-outline}
use Rattle.wire_laws.specs.Trees.{AreTrees, HaveTrees, IsCount, IsTree}

-- the JSON that a tree of texts is
abbrev mutual
  data_of : json.Json → Data
  data_of json.null = null
  data_of (json.boolean b) = boolean b
  data_of (json.number s) = number (unwrap_or (number_of s) (unsigned 0))
  data_of (json.string s) = string s
  data_of (json.array js) = array (items_in js)
  data_of (json.object ms) = object (members_in ms)

  items_in : json.Items → Items
  items_in json.no_items = no_items
  items_in (json.item j js) = item (data_of j) (items_in js)

  members_in : json.Members → Members
  members_in json.no_members = no_members
  members_in (json.member k j ms) = member k (data_of j) (members_in ms)

count_back : (x : Num) → IsCount x → unwrap_or (number_of (number_text x)) (unsigned 0) ≡ x
count_back (unsigned n) h = ap (λ o. unwrap_or o (unsigned 0)) (number_of-decimal n h)
count_back (negative z) h = absurd h
count_back (float x) h = absurd h

count_number : (x : Num) → IsCount x → tree.HasNumbers (json.number (number_text x))
count_number (unsigned n) h = IsNumber-decimal n h
count_number (negative z) h = absurd h
count_number (float x) h = absurd h

mutual
  data_back : (n : ℕ) (d : Data) → IsTree n d → data_of (outline d) ≡ d
  data_back n null h = refl
  data_back n (boolean b) h = refl
  data_back n (number x) h = ap number (count_back x h)
  data_back n (string s) h = refl
  data_back zero (array ds) h = absurd h
  data_back (suc n) (array ds) h = ap array (items_back n ds h)
  data_back zero (object ms) h = absurd h
  data_back (suc n) (object ms) h = ap object (members_back n ms h)

  items_back : (n : ℕ) (ds : Items) → AreTrees n ds → items_in (items_outline ds) ≡ ds
  items_back n no_items h = refl
  items_back n (item d ds) h = ap₂ item (data_back n d h.0) (items_back n ds h.1)

  members_back : (n : ℕ) (ms : Members) → HaveTrees n ms → members_in (members_outline ms) ≡ ms
  members_back n no_members h = refl
  members_back n (member k d ms) h = ap₂ (member k) (data_back n d h.0) (members_back n ms h.1)

mutual
  pub has_numbers : (n : ℕ) (d : Data) → IsTree n d → tree.HasNumbers (outline d)
  has_numbers n null h = tt
  has_numbers n (boolean b) h = tt
  has_numbers n (number x) h = count_number x h
  has_numbers n (string s) h = tt
  has_numbers zero (array ds) h = absurd h
  has_numbers (suc n) (array ds) h = items_numbers n ds h
  has_numbers zero (object ms) h = absurd h
  has_numbers (suc n) (object ms) h = members_numbers n ms h

  items_numbers : (n : ℕ) (ds : Items) → AreTrees n ds → tree.ItemsHaveNumbers (items_outline ds)
  items_numbers n no_items h = tt
  items_numbers n (item d ds) h = (has_numbers n d h.0, items_numbers n ds h.1)

  members_numbers : (n : ℕ) (ms : Members) → HaveTrees n ms → tree.MembersHaveNumbers (members_outline ms)
  members_numbers n no_members h = tt
  members_numbers n (member k d ms) h = (has_numbers n d h.0, members_numbers n ms h.1)

mutual
  pub shallow : (n : ℕ) (d : Data) → IsTree n d → tree.depth (outline d) ≤ n
  shallow n null h = omega arith
  shallow n (boolean b) h = omega arith
  shallow n (number x) h = omega arith
  shallow n (string s) h = omega arith
  shallow zero (array ds) h = absurd h
  shallow (suc n) (array ds) h = omega (arith, items_shallow n ds h)
  shallow zero (object ms) h = absurd h
  shallow (suc n) (object ms) h = omega (arith, members_shallow n ms h)

  items_shallow : (n : ℕ) (ds : Items) → AreTrees n ds → tree.items_depth (items_outline ds) ≤ n
  items_shallow n no_items h = omega arith
  items_shallow n (item d ds) h = omega (arith, shallow n d h.0, items_shallow n ds h.1)

  members_shallow : (n : ℕ) (ms : Members) → HaveTrees n ms → tree.members_depth (members_outline ms) ≤ n
  members_shallow n no_members h = omega arith
  members_shallow n (member k d ms) h = omega (arith, shallow n d h.0, members_shallow n ms h.1)

some_same : {A : Type 0} (a b : A) → Some a ≡ Some b → a ≡ b
some_same a b h = cc (h)

read_back : (n : ℕ) (d : Data) → n ≤ json.max_depth → IsTree n d → json.document (compact_text d) ≡ Some (outline d)
read_back n d small h =
    ap json.document (sym (print-outline d)) ∙ document-print (outline d) (has_numbers n d h) (omega (arith, shallow n d h, small))

-- no two trees have one text
pub texts_tell_trees : (n : ℕ) (d e : Data) → n ≤ json.max_depth → IsTree n d → IsTree n e → compact_text d ≡ compact_text e → d ≡ e
texts_tell_trees n d e small left right same =
    let one = some_same (outline d) (outline e) (sym (read_back n d small left) ∙ ap json.document same ∙ read_back n e small right) in
    sym (data_back n d left) ∙ ap data_of one ∙ data_back n e right
