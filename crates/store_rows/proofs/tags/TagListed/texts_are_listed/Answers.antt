use Rattle.store_rows.proofs.TagTexts.{tag_listed}
use Rattle.store_rows.proofs.tags.TagListed.texts_are_listed.Goals as goal

pub returns : goal.returns
returns c = record { pieces = tag_listed }
