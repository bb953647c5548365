use Rattle.map_delta.proofs.ListedLaws.{changed_are, patches_are, removed_are}
use Rattle.map_delta.proofs.laws.changes_stand_at_listed_ids.Goals as goal

pub returns : goal.returns
returns c = record { changed = changed_are; patched = patches_are; removed = removed_are }
