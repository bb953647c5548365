use Rattle.std.proofs.Common.{◌≡◌}
use Rattle.toml.specs.View.{members_view, table_view}
use Rattle.tail_words.specs.SettingsValues.{member_texts}
use Rattle.tail_words.proofs.ListLemmas.{onto}
use Rattle.tail_words.proofs.lists.member_texts.Given as goal

-- the texts of what is left follow those made
abbrev pub invariant-loop-key : goal.invariant-loop-key
invariant-loop-key l = member_texts (table_view l.table) ≡ onto l.made (member_texts (members_view l.key-iterator))
