use Rattle.allot.proofs.NameLaws.{name_bare, name_fresh, name_is_label, name_numbered}
use Rattle.allot.proofs.laws.the_least_free_name_is_given.Goals as goal

pub returns : goal.returns
returns c = record { fresh = name_fresh; label = name_is_label; bare = name_bare; numbered = name_numbered }
