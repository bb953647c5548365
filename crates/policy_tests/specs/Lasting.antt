-- Which entries last: those whose ends are users, groups or tags.
use Rattle.std.specs.Prelude.{◌≡◌, ◌&&◌, ℕ, Bool, true, false, List, Contains, ◌⊎◌}
use Rattle.policy_rows.specs.declared.dest.Dest.{Dest}
use Rattle.policy_rows.specs.declared.policy.Policy.{Policy}
use Rattle.policy_rows.specs.declared.selector.Selector.{Selector}
use Rattle.policy_rows.specs.declared.selector.Selector.TheVariants as sel
use Rattle.policy_rows.specs.declared.test.Test.{Test}
use Rattle.policy_sites.specs.declared.end.End.{End}
use Rattle.policy_sites.specs.declared.site.Site.{Site}
use Rattle.policy_tests.specs.TestEnds.{has_tag, is_users, site_ends, tag_phantom, user_phantom}
use Rattle.policy_tests.specs.Tests.{is_accepted}

-- a user, a group or a tag
abbrev pub is_lasting : Selector → Bool
is_lasting (sel.User login) = true
is_lasting (sel.Group name) = true
is_lasting (sel.Tagged tag) = true
is_lasting (sel.Net net) = false
is_lasting sel.All = false
is_lasting sel.Member = false
is_lasting sel.AllTagged = false
is_lasting sel.Internet = false
is_lasting sel.OwnDevices = false

-- the subject and the destination are
abbrev pub lasts : Test → Dest → Bool
lasts t e = is_lasting t.subject && is_lasting e.to

-- The accept entries between users, groups and tags pass whatever machines there are.
abbrev pub AcceptsLast : Policy → Type 0
AcceptsLast policy = (sites : List Site) (t : Test) (e : Dest)
    → Contains policy.tests t → Contains t.accept e → lasts t e ≡ true → is_accepted policy sites t e ≡ true

-- the phantom is a user's, and the end is of a machine of the user's own
pub record IsUserEnd (p e : End) : Type 0 where
  pub login : List ℕ
  pub m : Site
  pub phantom : p ≡ user_phantom login
  pub own : is_users login m ≡ true
  pub end : Contains (site_ends m) e

-- the phantom is a tag's, and the end is of a machine with the tag
pub record IsTagEnd (p e : End) : Type 0 where
  pub tag : List ℕ
  pub m : Site
  pub phantom : p ≡ tag_phantom tag
  pub tagged : has_tag tag m ≡ true
  pub end : Contains (site_ends m) e

-- the phantom stands for the machine's end
abbrev pub StandsFor : End → End → Type 0
StandsFor p e = IsUserEnd p e ⊎ IsTagEnd p e
