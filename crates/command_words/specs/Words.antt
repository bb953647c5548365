-- The words behind the program's own name, and the command that they are.
use Rattle.std.specs.Prelude.{List, [], ◌∷◌, Option, None, option_and_then}
use Rattle.std.specs.List.{find}
use Rattle.std.specs.Str.{bytes_eq}
use Rattle.clap.specs.Words.{App, Kinds, Row, Text, fault_of, matches_of}
use Rattle.command_words.specs.Arguments.{asked_of}
use Rattle.command_words.specs.Lines.{app_of_line}
use Rattle.command_words.specs.Table.{CommandLine, lines}
use Rattle.command_words.specs.declared.invocation.Invocation.{Invocation}
use Rattle.command_words.specs.declared.line.CommandKind.{CommandKind}

-- the line of that name among these
abbrev pub line_in : List CommandLine → Text → Option CommandLine
line_in ls name = find (λ line. bytes_eq line.0 name) ls

-- the line of a name
unfoldable pub table_line : Text → Option CommandLine
table_line name = line_in lines name

-- what arguments ask, if `clap` found no fault
abbrev pub asked_if : Kinds → CommandKind → List Row → Option Invocation
asked_if [] kind rows = asked_of kind rows
asked_if (fault ∷ more) kind rows = None

-- what words ask of a command, if `clap` takes them: they have no fault by its definition
unfoldable pub asked_in : App → CommandKind → List Text → Option Invocation
asked_in app kind words = asked_if (fault_of app words) kind (matches_of app words)

-- what words ask, of which the first names the command
abbrev pub asked_by : List Text → CommandLine → Option Invocation
asked_by words line = asked_in (app_of_line line.0 line.2) line.1 words

-- What the words ask. They are a command where the first is the name of a line of the table, `clap` takes them for that line,
-- and numbers, the seed key and a flow's words keep their rules.
unfoldable pub invocation_of : List Text → Option Invocation
invocation_of [] = None
invocation_of (name ∷ words) = option_and_then (asked_by (name ∷ words)) (table_line name)
