-- Which asks fresh random words are drawn for.
use Rattle.std.specs.Prelude.{Bool, true, false}
use Rattle.admin_asks.specs.declared.operator_ask.OperatorAsk.{OperatorAsk}
use Rattle.admin_asks.specs.declared.operator_ask.OperatorAsk.TheVariants as ask

-- for a new pre-auth key alone, whose text has them
abbrev pub draws : OperatorAsk → Bool
draws (ask.AddUser name) = false
draws ask.Users = false
draws (ask.DropUser login) = false
draws (ask.AddKey form) = true
draws ask.Keys = false
draws (ask.ExpireKey id) = false
draws ask.Nodes = false
draws ask.Waiting = false
draws (ask.Admit pending login) = false
draws (ask.ExpireNode id expiry) = false
draws (ask.Rename id name) = false
draws (ask.SetTags id tags) = false
draws (ask.SetRoutes id routes) = false
draws (ask.DropNode id) = false
draws ask.Extras = false
draws (ask.SetExtras given) = false
draws ask.Sweep = false
