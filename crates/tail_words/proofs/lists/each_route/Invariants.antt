use Rattle.std.proofs.Common.{◌≡◌, drop}
use Rattle.tail_words.specs.SettingsValues.{each_route}
use Rattle.tail_words.proofs.ListLemmas.{onto}
use Rattle.tail_words.proofs.lists.each_route.Given as goal

-- the routes of what is left follow those made
abbrev pub invariant-loop-entry : goal.invariant-loop-entry
invariant-loop-entry l = each_route l.texts ≡ onto l.made (each_route (drop l.entry-index l.texts))
