use Rattle.std.proofs.Common.{◌≡◌, ◌++◌, drop}
use Rattle.desk_state.specs.Texts.{digits_of}
use Rattle.desk_state.proofs.texts.digits_of.Given as goal

abbrev pub invariant-loop-word : goal.invariant-loop-word
invariant-loop-word l = l.digits ++ digits_of (drop l.word-index l.words) ≡ digits_of l.words
