-- Logins: a user's name, `@`, and a domain or nothing, as `ann@` and `ann@example.org`.
use Rattle.std.specs.Prelude.{ℕ, Bool, List, Option, Some, None, length, map, if◌then◌else◌, nat_le, ◌&&◌, ◌||◌, ◌==◌}
use Rattle.std.specs.List.{list_all, list_any, before_first, after_first}
use Rattle.std.specs.Char.{to_ascii_lowercase}
use Rattle.tail_base.specs.Labels.{is_alnum}

-- a to z, 0 to 9, `.`, `_`, `+`, `-`
abbrev pub is_user_byte : ℕ → Bool
is_user_byte b = is_alnum b || b == 46 || b == 95 || b == 43 || b == 45

-- a to z, 0 to 9, `.`, `-`
abbrev pub is_domain_byte : ℕ → Bool
is_domain_byte b = is_alnum b || b == 46 || b == 45

-- 1 to 63 bytes of a user's name
abbrev pub is_user : List ℕ → Bool
is_user bytes = nat_le 1 (length bytes) && nat_le (length bytes) 63 && list_all is_user_byte bytes

-- up to 63 bytes of a domain
abbrev pub is_login_domain : List ℕ → Bool
is_login_domain bytes = nat_le (length bytes) 63 && list_all is_domain_byte bytes

-- a user's name, `@`, a domain or nothing, all in lower case
abbrev pub is_login : List ℕ → Bool
is_login bytes = list_any (λ b. b == 64) bytes && is_user (before_first (λ b. b == 64) bytes) && is_login_domain (after_first (λ b. b == 64) bytes)

-- the login that a text spells, in either case
abbrev pub login_of : List ℕ → Option (List ℕ)
login_of bytes = let small = map to_ascii_lowercase bytes in if is_login small then Some small else None
