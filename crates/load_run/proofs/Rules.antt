-- The settings of a load keep their rules.
use Rattle.std.proofs.Common.{◌≡◌, ◌≤◌, true, refl, arith}
use Rattle.std.specs.List.Sorted.{IsStrictlySortedBy}
use Rattle.server_settings.specs.ServerRules.{AreServerSettings}
use Rattle.server_settings.specs.declared.limits.TheConstants.{COUNT_LIMIT}
use Rattle.settings.specs.Settings.{AreDnsSettings, AreSettings}
use Rattle.settings.specs.declared.limits.TheConstants.{DNS_ROUTE_LIMIT, DOMAIN_LIMIT, PREFIX_V4_LEN_LIMIT, PREFIX_V6_LEN_LIMIT, RESOLVER_LIMIT, SEARCH_LIMIT, SECONDS_LIMIT, WORKER_LIMIT}
use Rattle.load_run.specs.Given.{dns_settings, load_server, load_settings}

dns_rules : AreDnsSettings dns_settings
unfolding IsStrictlySortedBy
dns_rules = record {
  domains = omega arith;
  each_domain = refl;
  resolvers = omega arith;
  routes = omega arith;
  each_route = refl;
  suffixes = tt;
}

pub load_rules : AreSettings load_settings
unfolding load_settings
load_rules = record {
  base_domain = refl;
  dns = dns_rules;
  ephemeral_seconds = (omega arith, omega arith);
  key_seconds = omega arith;
  pending_seconds = (omega arith, omega arith);
  prefix_v4 = refl;
  prefix_v4_len = omega arith;
  prefix_v6 = refl;
  prefix_v6_len = omega arith;
  workers = (omega arith, omega arith);
}

pub server_rules : AreServerSettings load_server
unfolding load_server
server_rules = record {
  connections = omega arith;
  poll_turns = (omega arith, omega arith);
  requests = (omega arith, omega arith);
  server_url = refl;
  token = refl;
}
