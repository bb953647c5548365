use Rattle.std.proofs.Common.{◌≡◌}
use Rattle.toml.specs.View.{members_view, table_view}
use Rattle.tail_words.specs.SettingsText.{dns_checked}
use Rattle.tail_words.proofs.dns.check_dns.Given as goal

-- what is left to check decides
abbrev pub invariant-loop-key : goal.invariant-loop-key
invariant-loop-key l = dns_checked (table_view l.table) ≡ dns_checked (members_view l.key-iterator)
