use Rattle.std.proofs.Common.{◌≡◌}
use Rattle.toml.specs.View.{members_view, table_view}
use Rattle.tail_words.specs.SettingsText.{checked}
use Rattle.tail_words.proofs.settings_file.check_entries.Given as goal

-- what is left to check decides
abbrev pub invariant-loop-key : goal.invariant-loop-key
invariant-loop-key l = checked (table_view l.table) ≡ checked (members_view l.key-iterator)
