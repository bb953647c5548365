-- The response that is a whole map.
use Rattle.std.specs.Prelude.{ℕ, List, [], Option, Some}
use Rattle.tailcfg.specs.declared.response.Response.{Response}
use Rattle.fresh_maps.specs.declared.view.View.{View}

-- the whole map, with a session's handle and a number where there are any
abbrev pub first_response : View → Option (List ℕ) → Option ℕ → Response
first_response v handle seq = record {
  handle = handle;
  seq = seq;
  node = Some v.node;
  filter = Some v.filter;
  dns = Some v.dns;
  domain = Some v.domain;
  peers = v.peers;
  changed = [];
  removed = [];
  patches = [];
  profiles = v.profiles;
}
