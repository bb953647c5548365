-- A response of which little is known.
use Rattle.std.specs.Prelude.{ℕ, [], Option, None}
use Rattle.tailcfg.specs.declared.response.Response.{Response}

-- with a number alone
abbrev pub bare_response : Option ℕ → Response
bare_response seq = record {
  handle = None;
  seq = seq;
  node = None;
  filter = None;
  dns = None;
  domain = None;
  peers = [];
  changed = [];
  removed = [];
  patches = [];
  profiles = [];
}
