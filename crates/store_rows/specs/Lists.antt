-- Lists as one text: the texts of the elements, joined by commas.
use Rattle.std.specs.Prelude.{◌≡◌, ◌≢◌, ◌==◌, ℕ, Bool, true, not, List, [], ◌∷◌, ◌++◌, Option, Some, map}
use Rattle.std.specs.List.{join_with_byte, list_all, slice_split}
use Rattle.std.specs.Option.{option_and_then}

-- `,`
abbrev pub is_separator : ℕ → Bool
is_separator b = b == 44

-- any byte but a comma
abbrev pub is_unseparated : ℕ → Bool
is_unseparated b = not (b == 44)

-- the texts of the elements, joined by commas; of no element the empty text
abbrev pub list_text : {T : Type 0} → (T → List ℕ) → List T → List ℕ
list_text text xs = join_with_byte 44 (map text xs)

-- An element's text isn't empty, has no comma, and is read as that element.
pub record IsListedText {T : Type 0} (text : T → List ℕ) (of_text : List ℕ → Option T) (x : T) : Type 0 where
  pub read_again : of_text (text x) ≡ Some x
  pub free : list_all is_unseparated (text x) ≡ true
  pub some : text x ≢ []

-- the elements with those that the texts spell, if each spells one
abbrev pub elements_from : {T : Type 0} → (List ℕ → Option T) → List T → List (List ℕ) → Option (List T)
elements_from of_text xs [] = Some xs
elements_from of_text xs (text ∷ texts) =
    option_and_then (λ x. elements_from of_text (xs ++ x ∷ []) texts) (of_text text)

-- the elements that a text spells between its commas, in whatever spelling; the empty text has none
abbrev pub spelled_list : {T : Type 0} → (List ℕ → Option T) → List ℕ → Option (List T)
spelled_list of_text [] = Some []
spelled_list of_text (b ∷ bs) = elements_from of_text [] (slice_split is_separator (b ∷ bs))
