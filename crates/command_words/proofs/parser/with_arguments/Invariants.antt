use Rattle.std.proofs.Common.{◌≡◌, drop}
use Rattle.clap.specs.Words.{app_of}
use Rattle.command_words.specs.Lines.{with_arguments}
use Rattle.command_words.proofs.parser.with_arguments.Given as goal

abbrev pub invariant-loop-argument : goal.invariant-loop-argument
invariant-loop-argument l =
    with_arguments (drop l.argument-index l.arguments) (app_of l.made) ≡ with_arguments l.arguments (app_of l.fn.command)
