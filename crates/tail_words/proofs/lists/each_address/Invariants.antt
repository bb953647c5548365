use Rattle.std.proofs.Common.{◌≡◌, drop}
use Rattle.tail_words.specs.SettingsValues.{each_address}
use Rattle.tail_words.proofs.ListLemmas.{onto}
use Rattle.tail_words.proofs.lists.each_address.Given as goal

-- the addresses of what is left follow those made
abbrev pub invariant-loop-text : goal.invariant-loop-text
invariant-loop-text l = each_address l.texts ≡ onto l.made (each_address (drop l.text-index l.texts))
