use Rattle.std.proofs.Common.{sym, subst}
use Rattle.server_settings.specs.ServerRules.{AreServerSettings}
use Rattle.std.specs.List.Sorted.{IsStrictlySortedBy}
use Rattle.settings.specs.Settings.{AreSettings, suffix_cmp}
use Rattle.settings.specs.declared.fields.SettingsFields.{SettingsFields}
use Rattle.toml.specs.Data.{Members}
use Rattle.toml.specs.View.{table_view}
use Rattle.tail_words.proofs.FieldLemmas.{base_domain_in, server_fits, server_url_in, tailnet_fits, token_in}
use Rattle.tail_words.proofs.settings_file.settings_from.Goals as goal

pub new-tailnet-requires : goal.new-tailnet-requires
new-tailnet-requires c =
    let table : Members = table_view c.args.table.now in
    let base = base_domain_in table _ c.in_ok-base_domain.ensures.value in
    let made = c.in_ok-tailnet_fields_of.ensures.value in
    let suffixes = subst (λ (s : SettingsFields). IsStrictlySortedBy suffix_cmp s.dns.routes) made c.in_ok-tailnet_fields_of.ensures.suffixes in
    record { rules = subst AreSettings (sym made) (tailnet_fits _ table base suffixes) }

pub new-server-requires : goal.new-server-requires
new-server-requires c =
    let table : Members = table_view c.args.table.now in
    let url = server_url_in table _ c.in_ok-server_url.ensures.value in
    let token = token_in table _ c.in_ok-token.ensures.value in
    record { rules = subst AreServerSettings (sym c.in_ok-server_fields_of.ensures.value) (server_fits _ _ table url token) }
