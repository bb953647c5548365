use Rattle.std.proofs.Common.{◌≡◌, drop}
use Rattle.std.specs.List.{list_all}
use Rattle.settings.specs.Settings.{is_domain}
use Rattle.tail_words.proofs.lists.each_is_domain.Given as goal

-- what is left decides
abbrev pub invariant-loop-text : goal.invariant-loop-text
invariant-loop-text l = list_all is_domain l.texts ≡ list_all is_domain (drop l.text-index l.texts)
