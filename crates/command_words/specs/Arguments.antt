-- What a command's arguments ask, by what `clap` found for each.
use Rattle.std.specs.Prelude.{ℕ, ◌<◌, Bool, List, [], Option, Some, None, codes, length, option_and_then, option_map, unwrap_or, if◌then◌else◌, nat_le, ◌&&◌}
use Rattle.std.specs.List.{list_all}
use Rattle.std.specs.Str.{bytes_eq}
use Rattle.clap.specs.Words.{Row, Text, first_of}
use Rattle.tail_base.specs.Numerals.{number_in}
use Rattle.tail_base.specs.OptionSteps.{◌>>=◌}
use Rattle.net_addr.specs.AddrTexts.{addr_of_text}
use Rattle.net_addr.specs.Bits.{Address}
use Rattle.port_sets.specs.Protocols.{proto_of_text}
use Rattle.command_words.specs.Lines.{name_of}
use Rattle.command_words.specs.declared.argument.Argument.{Argument}
use Rattle.command_words.specs.declared.argument.Argument.TheVariants as argument
use Rattle.command_words.specs.declared.asked_flow.AskedFlow.{AskedFlow}
use Rattle.command_words.specs.declared.invocation.Invocation.{Invocation}
use Rattle.command_words.specs.declared.invocation.Invocation.TheVariants as asked
use Rattle.command_words.specs.declared.invocation.OperatorCall.{OperatorCall}
use Rattle.command_words.specs.declared.invocation.OperatorCommand.{OperatorCommand}
use Rattle.command_words.specs.declared.invocation.OperatorCommand.TheVariants as command
use Rattle.command_words.specs.declared.line.CommandKind.{CommandKind}
use Rattle.command_words.specs.declared.line.CommandKind.TheVariants as kind
use Rattle.command_words.specs.declared.line.OperatorKind.{OperatorKind}
use Rattle.command_words.specs.declared.line.OperatorKind.TheVariants as operator
use Rattle.command_words.specs.declared.values.TheConstants.{EVENT_LIMIT, ID_LIMIT, MACHINE_LIMIT}

-- the value of an argument that may be left out
abbrev pub given_option : Argument → List Row → Option Text
given_option x rows = first_of (name_of x) rows

-- the value of an argument that has to be given
abbrev pub given_text : Argument → List Row → Text
given_text x rows = unwrap_or (given_option x rows) []

-- whether a flag is set
abbrev pub is_set : Argument → List Row → Bool
is_set x rows = bytes_eq (given_text x rows) (codes "true")

-- the number in a range that an argument is: decimal digits without a sign or leading zeros
abbrev pub given_number : Argument → ℕ → ℕ → List Row → Option ℕ
given_number x least greatest rows = number_in 10 least greatest (given_text x rows)

-- the number that is the id
abbrev pub given_id : List Row → Option ℕ
given_id rows = given_number argument.Id 1 ID_LIMIT rows

-- how many machines and how many events a load has
abbrev pub given_machines : List Row → Option ℕ
given_machines rows = given_number argument.Machines 1 MACHINE_LIMIT rows

abbrev pub given_events : List Row → Option ℕ
given_events rows = given_number argument.Events 0 EVENT_LIMIT rows

-- what is asked, if both numbers keep their rules
abbrev pub load_of : List Row → Option Invocation
load_of rows = option_and_then (λ machines. option_map (λ events. asked.Load machines events) (given_events rows)) (given_machines rows)

-- 1 to 128 visible ASCII bytes
abbrev pub is_seed_key : Text → Bool
is_seed_key text = nat_le 1 (length text) && nat_le (length text) 128 && list_all (λ b. nat_le 33 b && nat_le b 126) text

-- what is asked, if the seed key keeps its rule
abbrev pub pipe_with : Text → Option Text → Option Invocation
pipe_with settings None = Some (asked.Pipe settings None)
pipe_with settings (Some key) = if is_seed_key key then Some (asked.Pipe settings (Some key)) else None

abbrev pub pipe_of : List Row → Option Invocation
pipe_of rows = pipe_with (given_text argument.Settings rows) (given_option argument.Seed rows)

-- the one address that an argument is, without brackets and without a length
abbrev pub given_addr : Argument → List Row → Option Address
given_addr x rows = addr_of_text (given_text x rows)

-- the protocol of a flow, as a policy names one: a name in small letters, or a number from 1 to 255
abbrev pub given_proto : List Row → Option ℕ
given_proto rows = proto_of_text (given_text argument.Proto rows)

-- the port of a flow
abbrev pub given_port : List Row → Option ℕ
given_port rows = number_in 5 0 65535 (given_text argument.Port rows)

-- the flow, if each word of it is read
unfoldable pub flow_of : List Row → Option AskedFlow
flow_of rows = do
  source ← given_addr argument.Source rows
  dest ← given_addr argument.Dest rows
  proto ← given_proto rows
  port ← given_port rows
  Some (record { source = source; dest = dest; proto = proto; port = port })

-- what is asked, if each word of the flow is read
abbrev pub explain_of : List Row → Option Invocation
explain_of rows = option_map (λ flow. asked.Explain (given_text argument.Settings rows) flow) (flow_of rows)

abbrev pub key_add_of : List Row → OperatorCommand
key_add_of rows = command.KeyAdd (given_text argument.Login rows) (is_set argument.Reusable rows)
    (is_set argument.Ephemeral rows) (given_option argument.Expiry rows) (given_option argument.Tags rows)

-- what an operator asks, if the id keeps its rule
abbrev pub operator_command_of : OperatorKind → List Row → Option OperatorCommand
operator_command_of operator.UserList rows = Some command.UserList
operator_command_of operator.UserAdd rows = Some (command.UserAdd (given_text argument.Name rows))
operator_command_of operator.UserDel rows = Some (command.UserDel (given_text argument.Login rows))
operator_command_of operator.KeyList rows = Some command.KeyList
operator_command_of operator.KeyAdd rows = Some (key_add_of rows)
operator_command_of operator.KeyExpire rows = option_map command.KeyExpire (given_id rows)
operator_command_of operator.NodeList rows = Some command.NodeList
operator_command_of operator.NodeDel rows = option_map command.NodeDel (given_id rows)
operator_command_of operator.NodeExpire rows = option_map command.NodeExpire (given_id rows)
operator_command_of operator.NodeRename rows = option_map (λ id. command.NodeRename id (given_text argument.Name rows)) (given_id rows)
operator_command_of operator.NodeTags rows = option_map (λ id. command.NodeTags id (given_text argument.List rows)) (given_id rows)
operator_command_of operator.NodeRoutes rows = option_map (λ id. command.NodeRoutes id (given_text argument.List rows)) (given_id rows)
operator_command_of operator.PendingList rows = Some command.PendingList
operator_command_of operator.PendingAdmit rows = Some (command.PendingAdmit (given_text argument.Pending rows) (given_text argument.Login rows))
operator_command_of operator.PolicyGet rows = Some command.PolicyGet
operator_command_of operator.PolicySet rows = Some (command.PolicySet (given_text argument.File rows))
operator_command_of operator.DnsGet rows = Some command.DnsGet
operator_command_of operator.DnsSet rows = Some (command.DnsSet (given_text argument.File rows))
operator_command_of operator.Sweep rows = Some command.Sweep

-- that, with the server and the token that it goes to
abbrev pub call_of : List Row → OperatorCommand → OperatorCall
call_of rows c = record { server = given_text argument.Server rows; token = given_text argument.Token rows; command = c }

abbrev pub operator_of : OperatorKind → List Row → Option Invocation
operator_of k rows = option_map (λ c. asked.Operator (call_of rows c)) (operator_command_of k rows)

-- what a command's arguments ask, if numbers, the seed key and a flow's words keep their rules
unfoldable pub asked_of : CommandKind → List Row → Option Invocation
asked_of kind.Pipe rows = pipe_of rows
asked_of kind.Serve rows = Some (asked.Serve (given_text argument.Settings rows))
asked_of kind.PolicyCheck rows = Some (asked.PolicyCheck (given_text argument.File rows))
asked_of kind.Load rows = load_of rows
asked_of kind.Explain rows = explain_of rows
asked_of kind.Reach rows = Some (asked.Reach (given_text argument.Settings rows))
asked_of (kind.Operator k) rows = operator_of k rows

-- a load has a machine
abbrev pub HasLoadMachine : Option Invocation → Type 0
HasLoadMachine None = Unit {0}
HasLoadMachine (Some (asked.Load machines events)) = 0 < machines
HasLoadMachine (Some (asked.Explain settings flow)) = Unit {0}
HasLoadMachine (Some (asked.Reach settings)) = Unit {0}
HasLoadMachine (Some (asked.Pipe settings seed)) = Unit {0}
HasLoadMachine (Some (asked.Serve settings)) = Unit {0}
HasLoadMachine (Some (asked.PolicyCheck file)) = Unit {0}
HasLoadMachine (Some (asked.Operator call)) = Unit {0}
