-- DNS labels.
use Rattle.std.specs.Prelude.{◌-◌, ℕ, Bool, true, false, List, [], ◌∷◌, ◌++◌, Option, Some, None, length, take, drop, map, codes, if◌then◌else◌, nat_le, nat_eq, ◌&&◌, ◌||◌, ◌==◌, not}
use Rattle.std.specs.Char.{to_ascii_lowercase}
use Rattle.std.specs.Fmt.{decimal}
use Rattle.std.specs.List.{list_all, starts_with, ends_with, prefix_len, suffix_len}

-- a to z, and 0 to 9
abbrev pub is_alnum : ℕ → Bool
is_alnum b = (nat_le 97 b && nat_le b 122) || (nat_le 48 b && nat_le b 57)

abbrev pub is_hyphen : ℕ → Bool
is_hyphen b = b == 45

abbrev pub is_label_byte : ℕ → Bool
is_label_byte b = is_alnum b || b == 45

-- no hyphen stands at an end
abbrev pub has_good_ends : List ℕ → Bool
has_good_ends bytes = not (starts_with nat_eq bytes (codes "-")) && not (ends_with nat_eq bytes (codes "-"))

abbrev pub has_label_length : List ℕ → Bool
has_label_length bytes = nat_le 1 (length bytes) && nat_le (length bytes) 63

-- 1 to 63 letters, digits and hyphens, with no hyphen at an end
abbrev pub is_label : List ℕ → Bool
is_label bytes = has_label_length bytes && list_all is_label_byte bytes && has_good_ends bytes

-- the label that a text spells: itself
abbrev pub label_of : List ℕ → Option (List ℕ)
label_of bytes = if is_label bytes then Some bytes else None

-- Each run of bytes other than letters and digits is one hyphen; in a run none is written again.
abbrev pub squeezed : Bool → List ℕ → List ℕ
squeezed in_run [] = []
squeezed in_run (b ∷ bs) =
    if is_alnum b then b ∷ squeezed false bs
    else if in_run then squeezed true bs
    else 45 ∷ squeezed true bs

-- the bytes without the hyphens at their start
abbrev pub trimmed_start : List ℕ → List ℕ
trimmed_start bytes = drop (prefix_len is_hyphen bytes) bytes

-- the bytes without the hyphens at their end
abbrev pub trimmed_end : List ℕ → List ℕ
trimmed_end bytes = take (length bytes - suffix_len is_hyphen bytes) bytes

-- the bytes without the hyphens at either end
abbrev pub trimmed : List ℕ → List ℕ
trimmed bytes = trimmed_end (trimmed_start bytes)

-- a machine with no name is `node`
abbrev pub or_node : List ℕ → List ℕ
or_node [] = codes "node"
or_node (b ∷ bs) = b ∷ bs

-- The label that a host name gives: in lower case, with one hyphen for each run of other bytes than
-- letters and digits, cut to 63 bytes, and without hyphens at its ends.
abbrev pub label_of_host : List ℕ → List ℕ
label_of_host host = or_node (trimmed (take 63 (squeezed false (map to_ascii_lowercase host))))

-- The label with a hyphen and a number behind it, cut so that they fit in 63 bytes; no hyphen stands
-- at the cut end.
abbrev pub numbered_label : List ℕ → ℕ → List ℕ
numbered_label base n = let ending = 45 ∷ decimal n in trimmed_end (take (63 - length ending) base) ++ ending
