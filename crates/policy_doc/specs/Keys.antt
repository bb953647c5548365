-- Keys that are compared without regard to ASCII case.
use Rattle.std.specs.Prelude.{ℕ, ◌&&◌, Bool, true, not, List, [], ◌∷◌, ◌++◌, codes, Option, Some, None, Result, Ok, if◌then◌else◌}
use Rattle.std.specs.List.{list_any}
use Rattle.std.specs.Str.{str_eq_ignore_ascii_case}
use Rattle.serde_json.specs.Data.{Data, Members, no_members, member}
use Rattle.tail_base.specs.Steps.{◌>>=◌, refuse_unless}
use Rattle.policy_rows.specs.declared.code.PolicyCode.TheVariants as code
use Rattle.policy_rows.specs.declared.fault.PolicyFault.{PolicyFault}
use Rattle.policy_rows.specs.Faults.{fault_at, under}

-- the newer name of a key: in rules, `src` and `dst` were `users` and `ports` in older files
abbrev pub newer : List ℕ → List ℕ
newer key =
    if str_eq_ignore_ascii_case key (codes "users") then codes "src"
    else if str_eq_ignore_ascii_case key (codes "ports") then codes "dst"
    else key

-- the key is one of the names
abbrev pub is_one_of : List ℕ → List (List ℕ) → Bool
is_one_of key names = list_any (λ name. str_eq_ignore_ascii_case name key) names

-- no key is the name, in any case of its letters
abbrev pub lacks_key : List ℕ → Members → Bool
lacks_key name no_members = true
lacks_key name (member key d ms) = not (str_eq_ignore_ascii_case name key) && lacks_key name ms

-- each key is supported, is known, and is none that was walked before
abbrev pub keys_of : List ℕ → (known unsupported seen : List (List ℕ)) → Members → Result (Unit {0}) PolicyFault
keys_of place known unsupported seen no_members = Ok tt
keys_of place known unsupported seen (member key d ms) = do
  _ ← refuse_unless (not (is_one_of key unsupported)) (fault_at code.Unsupported (under place key))
  _ ← refuse_unless (is_one_of key known && not (is_one_of (newer key) seen)) (fault_at code.UnknownKey (under place key))
  keys_of place known unsupported (seen ++ newer key ∷ []) ms

-- the value of a key
abbrev pub section : List ℕ → Members → Option Data
section name no_members = None
section name (member key d ms) = if str_eq_ignore_ascii_case (newer key) name then Some d else section name ms
