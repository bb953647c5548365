-- The outcome of an operator's ask.
use Rattle.std.specs.Prelude.{ℕ, List, Option, Result}
use Rattle.desk_state.specs.State.{State}
use Rattle.desk_state.specs.declared.decision.Decision.{Decision}
use Rattle.desk_state.specs.declared.refusal.Refusal.{Refusal}
use Rattle.admin_asks.specs.Admit.{admit}
use Rattle.admin_asks.specs.Extras.{extras, set_extras}
use Rattle.admin_asks.specs.Keys.{add_key, keys, expire_key}
use Rattle.admin_asks.specs.Nodes.{nodes, expire_node, rename, set_tags, drop_node}
use Rattle.admin_asks.specs.Routes.{set_routes}
use Rattle.admin_asks.specs.Sweep.{sweep}
use Rattle.admin_asks.specs.Users.{add_user, users, drop_user}
use Rattle.admin_asks.specs.Waiting.{waiting}
use Rattle.admin_asks.specs.declared.operator_answer.OperatorAnswer.{OperatorAnswer}
use Rattle.admin_asks.specs.declared.operator_ask.OperatorAsk.{OperatorAsk}
use Rattle.admin_asks.specs.declared.operator_ask.OperatorAsk.TheVariants as ask

-- in a state that is at its moment, with the random words that were drawn
abbrev pub decision : State → OperatorAsk → Option (List ℕ) → Result (Decision OperatorAnswer) Refusal
decision s (ask.AddUser name) words = add_user s name
decision s ask.Users words = users s
decision s (ask.DropUser login) words = drop_user s login
decision s (ask.AddKey form) words = add_key s form words
decision s ask.Keys words = keys s
decision s (ask.ExpireKey id) words = expire_key s id
decision s ask.Nodes words = nodes s
decision s ask.Waiting words = waiting s
decision s (ask.Admit pending login) words = admit s pending login
decision s (ask.ExpireNode id expiry) words = expire_node s id expiry
decision s (ask.Rename id name) words = rename s id name
decision s (ask.SetTags id tags) words = set_tags s id tags
decision s (ask.SetRoutes id routes) words = set_routes s id routes
decision s (ask.DropNode id) words = drop_node s id
decision s ask.Extras words = extras s
decision s (ask.SetExtras given) words = set_extras s given
decision s ask.Sweep words = sweep s
