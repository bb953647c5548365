use Rattle.std.proofs.Common.{sym, subst}
use Rattle.settings.specs.Settings.{AreSettings}
use Rattle.settings.specs.declared.fields.SettingsFields.{SettingsFields}
use Rattle.load_run.proofs.Rules.{load_rules}
use Rattle.load_run.proofs.given.load_settings.Goals as goal

pub new-requires : goal.new-requires
new-requires c = record { rules = subst (λ (f : SettingsFields). AreSettings f) (sym c.in_ok-load_fields.ensures.value) load_rules }
