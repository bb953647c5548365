-- A response with parts of another.
use Rattle.tailcfg.specs.declared.response.Response.{Response}

-- what is told of the session and of the machine itself
abbrev pub own_added : Response → Response → Response
own_added made response = record made {
  handle = response.handle;
  node = response.node;
  domain = response.domain;
}

-- what is told of the tailnet
abbrev pub net_added : Response → Response → Response
net_added made response = record made {
  filter = response.filter;
  dns = response.dns;
  profiles = response.profiles;
}

-- what is told of peers
abbrev pub peers_added : Response → Response → Response
peers_added made response = record made {
  peers = response.peers;
  changed = response.changed;
  removed = response.removed;
  patches = response.patches;
}
