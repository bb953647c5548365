use Rattle.allot.proofs.AddressLaws.{address_fresh, address_least, none_is}
use Rattle.allot.proofs.laws.the_least_free_address_is_given.Goals as goal

pub returns : goal.returns
returns c = record { fresh = address_fresh; least = address_least; none = none_is }
