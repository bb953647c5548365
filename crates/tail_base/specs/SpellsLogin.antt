-- Which texts spell a login.
use Rattle.std.specs.Prelude.{◌≡◌, ℕ, true, List, ◌++◌, codes, map}
use Rattle.std.specs.Char.{to_ascii_lowercase}
use Rattle.tail_base.specs.Logins.{is_login_domain, is_user}

-- a user's name, and a domain or nothing
pub record LoginParts : Type 0 where
  pub user : List ℕ
  pub domain : List ℕ

-- the user's name, `@`, and the domain
abbrev pub print_login : LoginParts → List ℕ
print_login p = p.user ++ (codes "@" ++ p.domain)

-- each part has bytes of its kind, in lower case, and at most 63 of them
pub record IsLoginParts (p : LoginParts) : Type 0 where
  pub user : is_user p.user ≡ true
  pub domain : is_login_domain p.domain ≡ true

-- The text has the login's parts, once its ASCII capitals are lowered.
pub record SpellsLogin (text login : List ℕ) : Type 0 where
  pub parts : LoginParts
  pub valid : IsLoginParts parts
  pub lowered : map to_ascii_lowercase text ≡ print_login parts
  pub is : login ≡ print_login parts
