use Rattle.std.proofs.Common.{sym, subst}
use Rattle.server_settings.specs.ServerRules.{AreServerSettings}
use Rattle.server_settings.specs.declared.fields.ServerFields.{ServerFields}
use Rattle.load_run.proofs.Rules.{server_rules}
use Rattle.load_run.proofs.given.load_server.Goals as goal

pub new-requires : goal.new-requires
new-requires c = record { rules = subst (λ (f : ServerFields). AreServerSettings f) (sym c.in_ok-server_fields.ensures.value) server_rules }
