-- What machines want.
use Rattle.std.specs.Prelude.{ℕ, List, not, ◌&&◌, Option, None, Some, codes, if◌then◌else◌, replicate}
use Rattle.std.specs.Str.{bytes_eq}
use Rattle.tail_base.specs.Keys.{key_of_text}
use Rattle.tail_base.specs.declared.key.MachineKey.{MachineKey}
use Rattle.wire_json.specs.MapRequest.{map_ask_of_body}
use Rattle.wire_json.specs.Register.{register_of_body}
use Rattle.tailcfg.specs.declared.map_ask.MapAsk.{MapAsk}
use Rattle.machine_asks.specs.declared.ask.MachineAsk.{MachineAsk}
use Rattle.machine_asks.specs.declared.ask.MachineAsk.TheVariants as ask
use Rattle.tailnet_desk.specs.declared.ask.Ask.TheVariants.{Machine}
use Rattle.desk_front.specs.Faults.{field_answer, unless_faulty}
use Rattle.desk_front.specs.declared.action.MachineAction.{MachineAction}
use Rattle.desk_front.specs.declared.action.MachineAction.TheVariants as action
use Rattle.desk_front.specs.declared.header.HeaderKey.{HeaderKey}
use Rattle.desk_front.specs.declared.header.HeaderKey.TheVariants as header
use Rattle.desk_front.specs.declared.poll.Poll.{Poll}
use Rattle.desk_front.specs.declared.want.Wanted.{Wanted}
use Rattle.desk_front.specs.declared.want.Wanted.TheVariants as wants

-- the machine key of a text that isn't zero
abbrev pub unless_zero : List ℕ → HeaderKey
unless_zero key =
    if bytes_eq key (replicate 32 0) then header.Unreadable
    else header.Key (record { 0 = key })

abbrev pub read_key : Option (List ℕ) → HeaderKey
read_key None = header.Unreadable
read_key (Some key) = unless_zero key

-- what the first `Ts-Machine-Key` line holds
abbrev pub header_key : Option (List ℕ) → HeaderKey
header_key None = header.Absent
header_key (Some value) = read_key (key_of_text (codes "mkey:") value)

-- a machine's ask
abbrev pub machine_ask : MachineAsk → Wanted
machine_ask x = wants.Ask (Machine x)

-- a registration of the machine, or the first fault of its body
abbrev pub register_wants : MachineKey → List ℕ → Wanted
register_wants machine body =
    unless_faulty (λ form. machine_ask (ask.Register machine form)) (register_of_body body)

-- a poll of the machine, by the handle and the last number that its client has
abbrev pub poll_of : MachineKey → MapAsk → Poll
poll_of machine m = record { machine = machine; node = m.node; handle = m.handle; seq = m.seq }

-- A request with a stream is a poll, and updates nothing. One without that omits the peers and isn't read-only is an
-- update alone; any other is answered with the map, and is an update too unless it is read-only.
abbrev pub map_wants : MachineKey → MapAsk → Wanted
map_wants machine m =
    if m.stream then wants.Poll (poll_of machine m)
    else if m.omit_peers && not m.read_only then machine_ask (ask.Update machine m.node m.update)
    else machine_ask (ask.OneMap machine m.node (if m.read_only then None else Some m.update))

abbrev pub map_body_wants : MachineKey → List ℕ → Wanted
map_body_wants machine body = unless_faulty (map_wants machine) (map_ask_of_body body)

-- what a body of that machine asks
abbrev pub action_wants : MachineAction → MachineKey → List ℕ → Wanted
action_wants action.Register machine body = register_wants machine body
action_wants action.Map machine body = map_body_wants machine body

-- a machine's key comes before the body
abbrev pub machine_wants : MachineAction → HeaderKey → List ℕ → Wanted
machine_wants a header.Absent body = field_answer (codes "Missing") (codes "Ts-Machine-Key")
machine_wants a header.Unreadable body = field_answer (codes "BadField") (codes "Ts-Machine-Key")
machine_wants a (header.Key machine) body = action_wants a machine body
