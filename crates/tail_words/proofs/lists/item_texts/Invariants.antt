use Rattle.std.proofs.Common.{◌≡◌, drop}
use Rattle.toml.specs.View.{items_view}
use Rattle.tail_words.specs.SettingsValues.{item_texts}
use Rattle.tail_words.proofs.ListLemmas.{onto}
use Rattle.tail_words.proofs.lists.item_texts.Given as goal

-- the texts of what is left follow those made
abbrev pub invariant-loop-item : goal.invariant-loop-item
invariant-loop-item l = item_texts (items_view l.items) ≡ onto l.made (item_texts (items_view (drop l.item-index l.items)))
