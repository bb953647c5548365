-- Lists are read again from their texts.
use Rattle.std.proofs.Common.{◌≡◌, ◌<◌, ◌+◌, ◌-◌, ℕ, List, [], ◌∷◌, ◌++◌, length, get_or, take, drop, Option, Some, None, arith, refl, sym, ap, subst, ◌∙◌, append_assoc}
use Rattle.std.proofs.Math.Seq.{take-length}
use Rattle.std.specs.Prelude.{map, ◌≢◌}
use Rattle.std.specs.List.{All, join_with_byte, position, slice_split}
use Rattle.std.specs.Option.{option_and_then, option_map}
use Rattle.std.proofs.lemmas.List.{append-nil}
use Rattle.std.proofs.lemmas.List.Elements.{All-cons, All-head, All-tail}
use Rattle.net_addr.proofs.PartLemmas.{split_here, split_whole}
use Rattle.net_addr.proofs.SplitLemmas.{AllFree, split_joined}
use Rattle.store_rows.specs.Lists.{IsListedText, elements_from, is_separator, list_text, spelled_list}

-- each element has a text of its own
abbrev pub AreListed : {T : Type 0} → (T → List ℕ) → (List ℕ → Option T) → (T → Type 0) → Type 0
AreListed {T} text of_text Fits = (x : T) → Fits x → IsListedText text of_text x

elements_again : {T : Type 0} (text : T → List ℕ) (of_text : List ℕ → Option T) (Fits : T → Type 0) → AreListed text of_text Fits → (before xs : List T) → All Fits xs
    → elements_from of_text before (map text xs) ≡ Some (before ++ xs)
elements_again text of_text Fits pieces before [] all = ap Some (sym (append-nil before))
elements_again text of_text Fits pieces before (x ∷ xs) all =
    ap (option_and_then (λ y. elements_from of_text (before ++ y ∷ []) (map text xs))) (pieces x (All-head Fits x xs all)).read_again
    ∙ elements_again text of_text Fits pieces (before ++ x ∷ []) xs (All-tail Fits x xs all)
    ∙ ap Some (append_assoc before (x ∷ []) xs)

all_free : {T : Type 0} (text : T → List ℕ) (of_text : List ℕ → Option T) (Fits : T → Type 0) → AreListed text of_text Fits → (xs : List T) → All Fits xs → AllFree 44 (map text xs)
all_free text of_text Fits pieces [] all = tt
all_free text of_text Fits pieces (x ∷ xs) all =
    ((pieces x (All-head Fits x xs all)).free, all_free text of_text Fits pieces xs (All-tail Fits x xs all))

append_some : (xs ys : List ℕ) → xs ≢ [] → xs ++ ys ≢ []
append_some [] ys some e = some refl
append_some (x ∷ xs) ys some e = cc (e)

text_some : (first : List ℕ) (more : List (List ℕ)) → first ≢ [] → join_with_byte 44 (first ∷ more) ≢ []
text_some first [] some = some
text_some first (next ∷ more) some = append_some first (44 ∷ join_with_byte 44 (next ∷ more)) some

spelled_some : {T : Type 0} (of_text : List ℕ → Option T) (bs : List ℕ) → bs ≢ [] → spelled_list of_text bs ≡ elements_from of_text [] (slice_split is_separator bs)
spelled_some of_text [] some = absurd (some refl)
spelled_some of_text (b ∷ bs) some = refl

-- what is written of a list is read as that list
pub list_again : {T : Type 0} (text : T → List ℕ) (of_text : List ℕ → Option T) (Fits : T → Type 0) → AreListed text of_text Fits → (xs : List T) → All Fits xs
    → spelled_list of_text (list_text text xs) ≡ Some xs
list_again text of_text Fits pieces [] all = refl
list_again text of_text Fits pieces (x ∷ xs) all =
    let first = pieces x (All-head Fits x xs all) in
    spelled_some of_text (join_with_byte 44 (text x ∷ map text xs)) (text_some (text x) (map text xs) first.some)
    ∙ ap (elements_from of_text []) (split_joined 44 (text x) (map text xs) first.free (all_free text of_text Fits pieces xs (All-tail Fits x xs all)))
    ∙ elements_again text of_text Fits pieces [] (x ∷ xs) all

-- no two lists have one text
pub list_text-injective : {T : Type 0} (text : T → List ℕ) (of_text : List ℕ → Option T) (Fits : T → Type 0) → AreListed text of_text Fits → (xs ys : List T) → All Fits xs → All Fits ys
    → list_text text xs ≡ list_text text ys → xs ≡ ys
list_text-injective text of_text Fits pieces xs ys left right same =
    let both : Some xs ≡ Some ys = sym (list_again text of_text Fits pieces xs left) ∙ ap (spelled_list of_text) same ∙ list_again text of_text Fits pieces ys right in
    cc (both)

-- ---- the loop over the commas

-- the elements that are read, and those of the rest, are those of the whole
abbrev pub Leads : {T : Type 0} → (List ℕ → Option T) → List T → List ℕ → List ℕ → Type 0
Leads of_text xs rest whole = elements_from of_text xs (slice_split is_separator rest) ≡ spelled_list of_text whole

pub leads_next : {T : Type 0} (of_text : List ℕ → Option T) (xs : List T) (rest whole : List ℕ) (at : ℕ) → position is_separator rest ≡ Some at → Leads of_text xs rest whole
    → option_and_then (λ x. elements_from of_text (xs ++ x ∷ []) (slice_split is_separator (drop (at + 1) rest))) (of_text (take at rest)) ≡ spelled_list of_text whole
leads_next of_text xs rest whole at h leads = sym (ap (elements_from of_text xs) (split_here is_separator rest at h)) ∙ leads

chosen : {T : Type 0} (o : Option T) (f : List T → Option (List T)) (xs : List T) (r : Option (List T)) (made : List T) → option_map (λ x. xs ++ x ∷ []) o ≡ Some made
    → option_and_then (λ x. f (xs ++ x ∷ [])) o ≡ r → f made ≡ r
chosen None f xs r made e leads = absurd (cc (e))
chosen (Some x) f xs r made e leads = let same : made ≡ xs ++ x ∷ [] = cc (e) in ap f same ∙ leads

unchosen : {T : Type 0} (o : Option T) (f : List T → Option (List T)) (xs : List T) (r : Option (List T)) → option_map (λ x. xs ++ x ∷ []) o ≡ None
    → option_and_then (λ x. f (xs ++ x ∷ [])) o ≡ r → None ≡ r
unchosen None f xs r e leads = leads
unchosen (Some x) f xs r e leads = absurd (cc (e))

pub leads_on : {T : Type 0} (of_text : List ℕ → Option T) (xs made : List T) (rest whole : List ℕ) (at : ℕ) → position is_separator rest ≡ Some at
    → option_map (λ x. xs ++ x ∷ []) (of_text (take at rest)) ≡ Some made → Leads of_text xs rest whole → Leads of_text made (drop (at + 1) rest) whole
leads_on of_text xs made rest whole at h e leads =
    chosen (of_text (take at rest)) (λ longer. elements_from of_text longer (slice_split is_separator (drop (at + 1) rest))) xs _ made e (leads_next of_text xs rest whole at h leads)

pub leads_out : {T : Type 0} (of_text : List ℕ → Option T) (xs : List T) (rest whole : List ℕ) (at : ℕ) → position is_separator rest ≡ Some at
    → option_map (λ x. xs ++ x ∷ []) (of_text (take at rest)) ≡ None → Leads of_text xs rest whole → None ≡ spelled_list of_text whole
leads_out of_text xs rest whole at h e leads =
    unchosen (of_text (take at rest)) (λ longer. elements_from of_text longer (slice_split is_separator (drop (at + 1) rest))) xs _ e (leads_next of_text xs rest whole at h leads)

last_of : {T : Type 0} (o : Option T) (xs : List T) → option_and_then (λ x. Some (xs ++ x ∷ [])) o ≡ option_map (λ x. xs ++ x ∷ []) o
last_of None xs = refl
last_of (Some x) xs = refl

pub leads_end : {T : Type 0} (of_text : List ℕ → Option T) (xs : List T) (rest whole : List ℕ) → position is_separator rest ≡ None → Leads of_text xs rest whole
    → option_map (λ x. xs ++ x ∷ []) (of_text rest) ≡ spelled_list of_text whole
leads_end of_text xs rest whole h leads =
    sym (last_of (of_text rest) xs) ∙ sym (ap (elements_from of_text xs) (split_whole is_separator rest h)) ∙ leads

pub leads_first : {T : Type 0} (of_text : List ℕ → Option T) (whole : List ℕ) → whole ≢ [] → Leads of_text [] whole whole
leads_first of_text whole some = sym (spelled_some of_text whole some)

-- what holds of the first element and of those behind it holds of all
pub all_behind_first : {T : Type 0} (P : T → Type 0) (xs : List T) (x : T) → 0 < length xs → x ≡ get_or xs 0 x → P x → All P (take (length xs - 1) (drop 1 xs)) → All P xs
all_behind_first P [] x some is one more = absurd (omega (arith, some))
all_behind_first P (y ∷ ys) x some is one more =
    let count : length (y ∷ ys) - 1 ≡ length ys = omega arith in
    All-cons P y ys (subst P is one) (subst (All P) (ap (λ n. take n ys) count ∙ take-length ys) more)

-- the first element and those behind it are the list
pub first_and_more : {T : Type 0} (xs : List T) (x : T) → 0 < length xs → x ≡ get_or xs 0 x → x ∷ take (length xs - 1) (drop 1 xs) ≡ xs
first_and_more [] x some is = absurd (omega (arith, some))
first_and_more (y ∷ ys) x some is =
    let count : length (y ∷ ys) - 1 ≡ length ys = omega arith in
    ap (λ l. x ∷ l) (ap (λ n. take n ys) count ∙ take-length ys) ∙ ap (λ z. z ∷ ys) is
