-- A client that follows the responses of its session.
use Rattle.std.specs.Prelude.{ℕ, ◌+◌, ◌==◌, ◌&&◌, ◌||◌, List, [], ◌∷◌, Bool, true, Option, Some, None, Result, Ok, Err, if◌then◌else◌, is_some, unwrap_or}
use Rattle.std.specs.Option.{option_or}
use Rattle.tail_base.specs.Steps.{◌>>=◌}
use Rattle.tailcfg.specs.declared.response.Response.{Response}
use Rattle.map_delta.specs.Fold.{fold}
use Rattle.netmap_client.specs.declared.follower.Follower.{Follower}
use Rattle.netmap_client.specs.declared.follower.OutOfOrder.{OutOfOrder}

-- a response with a node and a handle, which begins a session
abbrev pub begins_session : Response → Bool
begins_session r = is_some r.node && is_some r.handle

-- a number that begins a session, or is one more than the last; a response without one always follows
abbrev pub follows : ℕ → Response → Option ℕ → Bool
follows had r None = true
follows had r (Some n) = (n == 1 && begins_session r) || n == had + 1

-- what is known behind a response
abbrev pub followed : Follower → Response → Follower
followed f r = record { view = fold f.view r; handle = option_or r.handle f.handle; seq = unwrap_or r.seq f.seq }

-- a response is taken where its number follows
abbrev pub follow : Follower → Response → Result Follower OutOfOrder
follow f r = if follows f.seq r r.seq then Ok (followed f r) else Err (record { had = f.seq; got = unwrap_or r.seq 0 })

-- one response after the other
abbrev pub follow_all : Follower → List Response → Result Follower OutOfOrder
follow_all f [] = Ok f
follow_all f (r ∷ rs) = follow f r >>= λ next. follow_all next rs

-- nothing was told yet
abbrev pub untold : Follower
untold = record { view = None; handle = None; seq = 0 }
