-- The settings file, a TOML document: its first fault counts.
use Rattle.std.specs.Prelude.{ℕ, true, false, List, [], ◌∷◌, ◌++◌, if◌then◌else◌, Option, Some, None, Result, Ok, Err, codes, option_and_then, unwrap_or}
use Rattle.std.specs.Result.{result_ok, result_err}
use Rattle.std.specs.Str.{bytes_eq, is_utf8}
use Rattle.toml.specs.Data.{Data, Members, no_members, member, as_bool, as_table, get_member}
use Rattle.toml.specs.Parse.{parse_document}
use Rattle.tail_base.specs.Steps.{◌>>=◌, or_fault}
use Rattle.net_addr.specs.Bits.{Block}
use Rattle.net_addr.specs.Tailnet.{tailnet_v4, tailnet_v6}
use Rattle.tailcfg.specs.declared.dns.DnsSettings.{DnsSettings}
use Rattle.server_settings.specs.declared.defaults.TheConstants.{CONNECTIONS_DEFAULT, DATABASE_DEFAULT, LISTEN_DEFAULT, POLL_TURNS_DEFAULT, REQUESTS_DEFAULT}
use Rattle.server_settings.specs.declared.fields.ServerFields.{ServerFields}
use Rattle.server_settings.specs.declared.file_settings.FileSettings.{FileSettings}
use Rattle.server_settings.specs.declared.limits.TheConstants.{COUNT_LIMIT}
use Rattle.settings.specs.declared.defaults.TheConstants.{EPHEMERAL_SECONDS_DEFAULT, KEY_SECONDS_DEFAULT, PENDING_SECONDS_DEFAULT, PROXIED_DEFAULT, WORKERS_DEFAULT}
use Rattle.settings.specs.declared.fields.SettingsFields.{SettingsFields}
use Rattle.settings.specs.declared.limits.TheConstants.{SECONDS_LIMIT, WORKER_LIMIT}
use Rattle.tail_words.specs.SettingsValues.{number, prefix, resolvers, routes, search_domains, text}
use Rattle.tail_words.specs.declared.fault.SettingsFault.{SettingsFault}
use Rattle.tail_words.specs.declared.fault.SettingsRule.{SettingsRule}
use Rattle.tail_words.specs.declared.fault.SettingsRule.TheVariants.{Toml, KnownKey, KeyType, KeyRule, RequiredKey}
use Rattle.tail_words.specs.declared.rule.Rule.{Rule}
use Rattle.tail_words.specs.declared.rule.Rule.TheVariants.{Number, Prefix, Text}
use Rattle.tail_words.specs.declared.rule.TextRule.TheVariants.{Any, BaseDomain, Visible}

-- the number of a rule, as it is reported
abbrev pub rule_number : SettingsRule → ℕ
rule_number Toml = 1
rule_number KnownKey = 2
rule_number KeyType = 3
rule_number KeyRule = 4
rule_number RequiredKey = 5

-- the rule of each key but `dns`
unfoldable pub rule_of : List ℕ → Option Rule
rule_of key =
    if bytes_eq key (codes "base_domain") then Some (Text BaseDomain)
    else if bytes_eq key (codes "connections") then Some (Number 0 COUNT_LIMIT)
    else if bytes_eq key (codes "database") then Some (Text Any)
    else if bytes_eq key (codes "ephemeral_seconds") then Some (Number 1 SECONDS_LIMIT)
    else if bytes_eq key (codes "key_seconds") then Some (Number 0 SECONDS_LIMIT)
    else if bytes_eq key (codes "listen") then Some (Text Any)
    else if bytes_eq key (codes "pending_seconds") then Some (Number 1 SECONDS_LIMIT)
    else if bytes_eq key (codes "poll_turns") then Some (Number 1 COUNT_LIMIT)
    else if bytes_eq key (codes "prefix_v4") then Some (Prefix false)
    else if bytes_eq key (codes "prefix_v6") then Some (Prefix true)
    else if bytes_eq key (codes "requests") then Some (Number 1 COUNT_LIMIT)
    else if bytes_eq key (codes "server_url") then Some (Text Visible)
    else if bytes_eq key (codes "token") then Some (Text Visible)
    else if bytes_eq key (codes "workers") then Some (Number 1 WORKER_LIMIT)
    else None

-- the rule that a value breaks: a key without a rule isn't known
abbrev pub broken_by : Option Rule → Data → Option SettingsRule
broken_by None d = Some KnownKey
broken_by (Some (Number least greatest)) d = result_err (number least greatest d)
broken_by (Some (Prefix v6)) d = result_err (prefix v6 d)
broken_by (Some (Text rule)) d = result_err (text rule d)

-- the rule that an entry of `dns` breaks
abbrev pub broken_in_dns : List ℕ → Data → Option SettingsRule
broken_in_dns key d =
    if bytes_eq key (codes "magic") then result_err (or_fault KeyType (as_bool d))
    else if bytes_eq key (codes "resolvers") then result_err (resolvers d)
    else if bytes_eq key (codes "routes") then result_err (routes d)
    else if bytes_eq key (codes "search") then result_err (search_domains d)
    else Some KnownKey

-- the fault that a rule is broken at a key
abbrev pub broken_at : SettingsRule → List ℕ → SettingsFault
broken_at rule key = record { rule = rule; key = key }

-- no rule is broken at a key
abbrev pub kept : List ℕ → Option SettingsRule → Result (Unit {0}) SettingsFault
kept key None = Ok tt
kept key (Some rule) = Err (broken_at rule key)

-- the entries of `dns` in byte order keep their rules
abbrev pub dns_checked : Members → Result (Unit {0}) SettingsFault
dns_checked no_members = Ok tt
dns_checked (member key d more) = kept (codes "dns." ++ key) (broken_in_dns key d) >>= (λ _. dns_checked more)

-- an entry keeps its rule; that of `dns` is a table whose entries do
abbrev pub entry_checked : List ℕ → Data → Result (Unit {0}) SettingsFault
entry_checked key d =
    if bytes_eq key (codes "dns") then or_fault (broken_at KeyType (codes "dns")) (as_table d) >>= dns_checked
    else kept key (broken_by (rule_of key) d)

-- the entries in byte order keep their rules
abbrev pub checked : Members → Result (Unit {0}) SettingsFault
checked no_members = Ok tt
checked (member key d more) = entry_checked key d >>= (λ _. checked more)

-- the value of a rule's kind
abbrev pub number_by : Option Rule → Data → Option ℕ
number_by (Some (Number least greatest)) d = result_ok (number least greatest d)
number_by (Some (Prefix v6)) d = None
number_by (Some (Text rule)) d = None
number_by None d = None

abbrev pub prefix_by : Option Rule → Data → Option Block
prefix_by (Some (Prefix v6)) d = result_ok (prefix v6 d)
prefix_by (Some (Number least greatest)) d = None
prefix_by (Some (Text rule)) d = None
prefix_by None d = None

abbrev pub text_by : Option Rule → Data → Option (List ℕ)
text_by (Some (Text rule)) d = result_ok (text rule d)
text_by (Some (Number least greatest)) d = None
text_by (Some (Prefix v6)) d = None
text_by None d = None

-- the value at a key, if there is one
abbrev pub number_at : List ℕ → Members → Option ℕ
number_at key table = option_and_then (number_by (rule_of key)) (get_member key table)

abbrev pub prefix_at : List ℕ → Members → Option Block
prefix_at key table = option_and_then (prefix_by (rule_of key)) (get_member key table)

abbrev pub text_at : List ℕ → Members → Option (List ℕ)
text_at key table = option_and_then (text_by (rule_of key)) (get_member key table)

-- the value at a key of `dns`, if there is one
abbrev pub dns_at : List ℕ → Members → Option Data
dns_at key table = option_and_then (get_member key) (option_and_then as_table (get_member (codes "dns") table))

-- a text that has to be there
abbrev pub required : List ℕ → Members → Result (List ℕ) SettingsFault
required key table = or_fault (broken_at RequiredKey key) (text_at key table)

-- the DNS settings, with their defaults
abbrev pub dns_settings_of : List ℕ → Members → DnsSettings
dns_settings_of base_domain table = record {
  domains = unwrap_or (option_and_then (λ d. result_ok (search_domains d)) (dns_at (codes "search") table)) (base_domain ∷ []);
  proxied = unwrap_or (option_and_then as_bool (dns_at (codes "magic") table)) PROXIED_DEFAULT;
  resolvers = unwrap_or (option_and_then (λ d. result_ok (resolvers d)) (dns_at (codes "resolvers") table)) [];
  routes = unwrap_or (option_and_then (λ d. result_ok (routes d)) (dns_at (codes "routes") table)) [];
}

-- what the tailnet is by a checked table, with defaults
abbrev pub tailnet_fields_of : List ℕ → Members → SettingsFields
tailnet_fields_of base_domain table = record {
  base_domain = base_domain;
  dns = dns_settings_of base_domain table;
  ephemeral_seconds = unwrap_or (number_at (codes "ephemeral_seconds") table) EPHEMERAL_SECONDS_DEFAULT;
  key_seconds = unwrap_or (number_at (codes "key_seconds") table) KEY_SECONDS_DEFAULT;
  pending_seconds = unwrap_or (number_at (codes "pending_seconds") table) PENDING_SECONDS_DEFAULT;
  prefix_v4 = unwrap_or (prefix_at (codes "prefix_v4") table) tailnet_v4;
  prefix_v6 = unwrap_or (prefix_at (codes "prefix_v6") table) tailnet_v6;
  workers = unwrap_or (number_at (codes "workers") table) WORKERS_DEFAULT;
}

-- what the server is by a checked table, with defaults
abbrev pub server_fields_of : List ℕ → List ℕ → Members → ServerFields
server_fields_of server_url token table = record {
  connections = unwrap_or (number_at (codes "connections") table) CONNECTIONS_DEFAULT;
  database = unwrap_or (text_at (codes "database") table) DATABASE_DEFAULT.now;
  listen = unwrap_or (text_at (codes "listen") table) LISTEN_DEFAULT.now;
  poll_turns = unwrap_or (number_at (codes "poll_turns") table) POLL_TURNS_DEFAULT;
  requests = unwrap_or (number_at (codes "requests") table) REQUESTS_DEFAULT;
  server_url = server_url;
  token = token;
}

-- the settings that a table gives: its entries are checked, and then the keys that have to be there
unfoldable pub settings_at : Members → Result FileSettings SettingsFault
settings_at table = do
  good ← checked table
  base_domain ← required (codes "base_domain") table
  server_url ← required (codes "server_url") table
  token ← required (codes "token") table
  Ok (record { tailnet = tailnet_fields_of base_domain table; server = server_fields_of server_url token table })

-- the table that a text is, if it is UTF-8 and a TOML document
abbrev pub table_of : List ℕ → Option Members
table_of text = if is_utf8 text then parse_document text else None

-- the settings that a file gives, or its first fault
unfoldable pub settings_of : List ℕ → Result FileSettings SettingsFault
settings_of text = or_fault (broken_at Toml (codes "text")) (table_of text) >>= settings_at
