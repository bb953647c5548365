-- The table of commands.
use Rattle.std.specs.Prelude.{List, [], ◌∷◌, ◌++◌, codes}
use Rattle.std.specs.Borrow.{Bor}
use Rattle.clap.specs.Words.{Text}
use Rattle.command_words.specs.declared.argument.Argument.{Argument}
use Rattle.command_words.specs.declared.argument.Argument.TheVariants.{Dest, Ephemeral, Events, Expiry, File, Id, List as ListArgument, Login, Machines, Name, Pending, Port, Proto, Reusable, Seed, Server, Settings, Source, Tags, Token}
use Rattle.command_words.specs.declared.line.CommandKind.{CommandKind}
use Rattle.command_words.specs.declared.line.CommandKind.TheVariants.{Explain, Load, Operator, Pipe, PolicyCheck, Reach, Serve}
use Rattle.command_words.specs.declared.line.OperatorKind.{OperatorKind}
use Rattle.command_words.specs.declared.line.OperatorKind.TheVariants as operator

-- a line of the table: a name, what it leads to, and the arguments, positional ones in their order
abbrev pub CommandLine : Type 0
CommandLine = Text × CommandKind × List Argument

-- the line of an operator's command, which has a server and a token besides
abbrev pub operator_line : Text → OperatorKind → List Argument → CommandLine
operator_line name kind arguments = (name, Operator kind, arguments ++ (Server ∷ Token ∷ []))

-- each line
unfoldable pub lines : List CommandLine
lines =
    (codes "pipe", Pipe, Settings ∷ Seed ∷ [])
    ∷ (codes "serve", Serve, Settings ∷ [])
    ∷ (codes "policy-check", PolicyCheck, File ∷ [])
    ∷ (codes "load", Load, Machines ∷ Events ∷ [])
    ∷ (codes "explain", Explain, Settings ∷ Source ∷ Dest ∷ Proto ∷ Port ∷ [])
    ∷ (codes "reach", Reach, Settings ∷ [])
    ∷ operator_line (codes "user-list") operator.UserList []
    ∷ operator_line (codes "user-add") operator.UserAdd (Name ∷ [])
    ∷ operator_line (codes "user-del") operator.UserDel (Login ∷ [])
    ∷ operator_line (codes "key-list") operator.KeyList []
    ∷ operator_line (codes "key-add") operator.KeyAdd (Login ∷ Reusable ∷ Ephemeral ∷ Expiry ∷ Tags ∷ [])
    ∷ operator_line (codes "key-expire") operator.KeyExpire (Id ∷ [])
    ∷ operator_line (codes "node-list") operator.NodeList []
    ∷ operator_line (codes "node-del") operator.NodeDel (Id ∷ [])
    ∷ operator_line (codes "node-expire") operator.NodeExpire (Id ∷ [])
    ∷ operator_line (codes "node-rename") operator.NodeRename (Id ∷ Name ∷ [])
    ∷ operator_line (codes "node-tags") operator.NodeTags (Id ∷ ListArgument ∷ [])
    ∷ operator_line (codes "node-routes") operator.NodeRoutes (Id ∷ ListArgument ∷ [])
    ∷ operator_line (codes "pending-list") operator.PendingList []
    ∷ operator_line (codes "pending-admit") operator.PendingAdmit (Pending ∷ Login ∷ [])
    ∷ operator_line (codes "policy-get") operator.PolicyGet []
    ∷ operator_line (codes "policy-set") operator.PolicySet (File ∷ [])
    ∷ operator_line (codes "dns-get") operator.DnsGet []
    ∷ operator_line (codes "dns-set") operator.DnsSet (File ∷ [])
    ∷ operator_line (codes "sweep") operator.Sweep []
    ∷ []

-- what stands behind the references of a line
abbrev pub plain_line : Bor Text × CommandKind × Bor (List Argument) → CommandLine
plain_line line = (line.0.now, line.1, line.2.now)
