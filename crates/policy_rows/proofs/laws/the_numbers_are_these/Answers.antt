use Rattle.std.proofs.Common.{refl}
use Rattle.std.specs.Fmt.{digits}
use Rattle.net_addr.specs.GroupTexts.{groups_text, longest_run, start_of_run}
use Rattle.policy_rows.proofs.laws.the_numbers_are_these.Goals as goal

pub returns : goal.returns
unfolding digits groups_text longest_run start_of_run
returns c = record { internet = refl; private = refl }
