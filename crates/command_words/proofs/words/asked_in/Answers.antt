use Rattle.std.proofs.Common.{◌∙◌, inl, inr}
use Rattle.std.proofs.lemmas.Bool.{and_parts}
use Rattle.std.proofs.lemmas.Result.{IfOk-weaker}
use Rattle.clap.specs.Words.{app_of}
use Rattle.command_words.proofs.WordsLemmas.{asked_when_refused, asked_when_taken}
use Rattle.command_words.proofs.words.asked_in.Goals as goal

pub returns-in-Ok : goal.returns-in-Ok
returns-in-Ok c = record {
  value = IfOk-weaker c.asked_of.result _ _
      (λ asked e. asked_when_taken (app_of c.args.command) c.args.kind _ _ asked (c.in-Ok.ensures.kinds c.requires.simple)
      (c.in-Ok.ensures.matches (and_parts _ _ c.requires.simple).0).0 e)
      c.asked_of.ensures.value;
  machine = c.asked_of.ensures.machine;
}

pub returns : goal.returns
returns c = record {
  value = elim (c.in-Err.ensures.kinds c.requires.simple) [
    | inl memory ↦ absurd (c.in_default.not-OutOfMemory (c.kind.ensures ∙ memory))
    | inr among ↦ asked_when_refused (app_of c.args.command) c.args.kind _ _ among
  ];
  machine = tt;
}
