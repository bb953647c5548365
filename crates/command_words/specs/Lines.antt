-- The command that `clap` is given for a line of the table.
use Rattle.std.specs.Prelude.{true, List, [], ◌∷◌, Some, codes}
use Rattle.clap.specs.Simple.{on_top}
use Rattle.clap.specs.Words.{App, Rule, Text, new_app, new_rule, with_rule}
use Rattle.clap.specs.declared.builder.action.ArgAction.TheVariants.{SetTrue}
use Rattle.command_words.specs.declared.argument.Argument.{Argument}
use Rattle.command_words.specs.declared.argument.Argument.TheVariants as argument
use Rattle.command_words.specs.declared.argument.Form.{Form}
use Rattle.command_words.specs.declared.argument.Form.TheVariants as form

-- the name of an argument; that of an option or a flag is what stands behind `--`
abbrev pub name_of : Argument → Text
name_of argument.Settings = codes "SETTINGS"
name_of argument.File = codes "FILE"
name_of argument.Name = codes "NAME"
name_of argument.Login = codes "LOGIN"
name_of argument.Id = codes "ID"
name_of argument.List = codes "LIST"
name_of argument.Pending = codes "PENDING"
name_of argument.Machines = codes "N"
name_of argument.Events = codes "M"
name_of argument.Source = codes "SRC"
name_of argument.Dest = codes "DST"
name_of argument.Proto = codes "PROTO"
name_of argument.Port = codes "PORT"
name_of argument.Server = codes "server"
name_of argument.Token = codes "token"
name_of argument.Seed = codes "seed"
name_of argument.Expiry = codes "expiry"
name_of argument.Tags = codes "tags"
name_of argument.Reusable = codes "reusable"
name_of argument.Ephemeral = codes "ephemeral"

-- how an argument is given
abbrev pub form_of : Argument → Form
form_of argument.Settings = form.Positional
form_of argument.File = form.Positional
form_of argument.Name = form.Positional
form_of argument.Login = form.Positional
form_of argument.Id = form.Positional
form_of argument.List = form.Positional
form_of argument.Pending = form.Positional
form_of argument.Machines = form.Positional
form_of argument.Events = form.Positional
form_of argument.Source = form.Positional
form_of argument.Dest = form.Positional
form_of argument.Proto = form.Positional
form_of argument.Port = form.Positional
form_of argument.Server = form.Required
form_of argument.Token = form.Required
form_of argument.Seed = form.Optional
form_of argument.Expiry = form.Optional
form_of argument.Tags = form.Optional
form_of argument.Reusable = form.Flag
form_of argument.Ephemeral = form.Flag

-- an argument of that form and name
abbrev pub rule_in : Form → Text → Rule
rule_in form.Positional name = record (new_rule name) { required = true }
rule_in form.Required name = record (new_rule name) { long = Some name; required = true }
rule_in form.Optional name = record (new_rule name) { long = Some name }
rule_in form.Flag name = record (new_rule name) { long = Some name; action = Some SetTrue }

-- the command with these arguments behind those that it has
abbrev pub with_arguments : List Argument → App → App
with_arguments [] a = a
with_arguments (x ∷ xs) a = with_arguments xs (with_rule a (rule_in (form_of x) (name_of x)))

-- a command of that name without arguments, and without a flag for help
abbrev pub bare_app : Text → App
bare_app name = on_top (λ s. record s { disable_help_flag = true }) (new_app name)

-- the command of that name with these arguments
unfoldable pub app_of_line : Text → List Argument → App
app_of_line name arguments = with_arguments arguments (bare_app name)
