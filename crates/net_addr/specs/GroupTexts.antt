-- IPv6 addresses as texts: groups of 16 bits in hexadecimal, with colons between them, written as
-- RFC 5952 section 4 asks.
use Rattle.std.specs.Prelude.{ℕ, ◌+◌, ◌*◌, ◌/◌, ◌%◌, ◌^◌, max, List, [], ◌∷◌, ◌++◌, map, take, drop, codes, false, if◌then◌else◌, nat_lt, ◌==◌}
use Rattle.std.specs.Fmt.{digits}
use Rattle.std.specs.List.{join_with_byte, position_or_len}

-- the group of a number, counted from the lowest
abbrev pub group_at : ℕ → ℕ → ℕ
group_at bits place = bits / 2 ^ (16 * place) % 65536

-- the eight groups of an IPv6 address
abbrev pub v6_groups : ℕ → List ℕ
v6_groups bits = map (group_at bits) (7 ∷ 6 ∷ 5 ∷ 4 ∷ 3 ∷ 2 ∷ 1 ∷ 0 ∷ [])

-- a group in lower case, with no leading zero (4.1, 4.3)
abbrev pub group_text : ℕ → List ℕ
group_text group = digits 16 false group

-- groups with colons between them
abbrev pub joined : List ℕ → List ℕ
joined groups = join_with_byte 58 (map group_text groups)

-- how many zero groups stand at the start
abbrev pub zeros : List ℕ → ℕ
zeros groups = position_or_len (λ group. nat_lt 0 group) groups

-- how long the longest run of zero groups is
unfoldable pub longest_run : List ℕ → ℕ
longest_run [] = 0
longest_run (group ∷ groups) = max (zeros (group ∷ groups)) (longest_run groups)

-- how many groups stand before the first run of n zero groups
unfoldable pub start_of_run : ℕ → List ℕ → ℕ
start_of_run n [] = 0
start_of_run n (group ∷ groups) = if zeros (group ∷ groups) == n then 0 else start_of_run n groups + 1

-- the groups with `::` in place of the n from a place on
abbrev pub shortened : List ℕ → ℕ → ℕ → List ℕ
shortened groups at n = joined (take at groups) ++ codes "::" ++ joined (drop (at + n) groups)

-- The first of the longest runs of zero groups is `::`, where it has two groups or more (4.2).
unfoldable pub groups_text : List ℕ → List ℕ
groups_text groups =
    let n = longest_run groups in
    if nat_lt n 2 then joined groups else shortened groups (start_of_run n groups) n
