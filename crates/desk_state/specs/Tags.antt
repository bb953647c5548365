-- Tags that the policy in force defines, and who may request them.
use Rattle.std.specs.Prelude.{ℕ, Bool, ◌||◌, List, [], ◌∷◌, Result, Ok}
use Rattle.std.specs.List.{list_any}
use Rattle.std.specs.Str.{bytes_eq}
use Rattle.tail_base.specs.Steps.{◌>>=◌, or_fault, refuse_unless}
use Rattle.policy_rows.specs.Named.{members_of}
use Rattle.policy_rows.specs.Names.{owner_of_tag}
use Rattle.policy_rows.specs.declared.group.Group.{Group}
use Rattle.policy_rows.specs.declared.policy.Policy.{Policy}
use Rattle.policy_rows.specs.declared.tag_owner.TagOwner.{TagOwner}
use Rattle.desk_state.specs.Lines.{login_of}
use Rattle.desk_state.specs.State.{State}
use Rattle.desk_state.specs.declared.refusal.Refusal.{Refusal}
use Rattle.desk_state.specs.declared.refusal.Refusal.TheVariants.{TagNotOwned, TagUndefined}

-- the login is one of these
abbrev pub has_login : List (List ℕ) → List ℕ → Bool
has_login logins login = list_any (λ other. bytes_eq other login) logins

-- the owners of a tag name the login, directly or by a group
abbrev pub names_owner : List Group → TagOwner → List ℕ → Bool
names_owner groups entry login = has_login entry.users login || list_any (λ name. has_login (members_of groups name) login) entry.groups

-- the owners of a tag name the user of this id
abbrev pub is_owner : State → Policy → TagOwner → ℕ → Bool
is_owner s policy entry user = names_owner policy.groups entry (login_of s.rows.users user)

-- there is a policy, and it defines the tag
abbrev pub tag_defined : State → List ℕ → Result (Unit {0}) Refusal
tag_defined s tag = do
  policy ← or_fault TagUndefined s.policy
  entry ← or_fault TagUndefined (owner_of_tag policy.tags tag)
  Ok tt

-- each of the tags is defined, tried in order
abbrev pub tags_defined : State → List (List ℕ) → Result (Unit {0}) Refusal
tags_defined s [] = Ok tt
tags_defined s (tag ∷ tags) = tag_defined s tag >>= (λ _. tags_defined s tags)

-- a tag is defined, and the user of this id is named by its owners
abbrev pub tag_granted : State → ℕ → List ℕ → Result (Unit {0}) Refusal
tag_granted s user tag = do
  policy ← or_fault TagUndefined s.policy
  entry ← or_fault TagUndefined (owner_of_tag policy.tags tag)
  refuse_unless (is_owner s policy entry user) TagNotOwned

-- each of the tags may be requested by the user of this id, tried in order
abbrev pub tags_granted : State → ℕ → List (List ℕ) → Result (Unit {0}) Refusal
tags_granted s user [] = Ok tt
tags_granted s user (tag ∷ tags) = tag_granted s user tag >>= (λ _. tags_granted s user tags)
