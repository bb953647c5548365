-- The settings of a load: those that have to be given, and the defaults but for the number of requests.
use Rattle.std.specs.Prelude.{List, [], ◌∷◌, codes}
use Rattle.net_addr.specs.Tailnet.{tailnet_v4, tailnet_v6}
use Rattle.tailcfg.specs.declared.dns.DnsSettings.{DnsSettings}
use Rattle.load_run.specs.declared.given.TheConstants.{REQUESTS}
use Rattle.server_settings.specs.declared.defaults.TheConstants.{CONNECTIONS_DEFAULT, DATABASE_DEFAULT, LISTEN_DEFAULT, POLL_TURNS_DEFAULT}
use Rattle.server_settings.specs.declared.fields.ServerFields.{ServerFields}
use Rattle.settings.specs.declared.defaults.TheConstants.{EPHEMERAL_SECONDS_DEFAULT, KEY_SECONDS_DEFAULT, PENDING_SECONDS_DEFAULT, PROXIED_DEFAULT, WORKERS_DEFAULT}
use Rattle.settings.specs.declared.fields.SettingsFields.{SettingsFields}

abbrev pub dns_settings : DnsSettings
dns_settings = record {
  domains = codes "tail.example" ∷ [];
  proxied = PROXIED_DEFAULT;
  resolvers = [];
  routes = [];
}

unfoldable pub load_settings : SettingsFields
load_settings = record {
  base_domain = codes "tail.example";
  dns = dns_settings;
  ephemeral_seconds = EPHEMERAL_SECONDS_DEFAULT;
  key_seconds = KEY_SECONDS_DEFAULT;
  pending_seconds = PENDING_SECONDS_DEFAULT;
  prefix_v4 = tailnet_v4;
  prefix_v6 = tailnet_v6;
  workers = WORKERS_DEFAULT;
}

unfoldable pub load_server : ServerFields
load_server = record {
  connections = CONNECTIONS_DEFAULT;
  database = DATABASE_DEFAULT.now;
  listen = LISTEN_DEFAULT.now;
  poll_turns = POLL_TURNS_DEFAULT;
  requests = REQUESTS;
  server_url = codes "http://tail.example";
  token = codes "secret";
}
