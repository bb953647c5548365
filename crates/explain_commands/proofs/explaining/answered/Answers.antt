use Rattle.std.proofs.Common.{refl}
use Rattle.tailnet_commands.proofs.PipeLemmas.{told_by_itself}
use Rattle.explain_commands.proofs.AnswerLemmas.{unanswered_explained, unread_explained, written_explained}
use Rattle.explain_commands.specs.Explained.{beside_errors}
use Rattle.explain_commands.proofs.explaining.answered.Goals as goal

pub returns-in-Err : goal.returns-in-Err
returns-in-Err g c = record {
  explained = λ rest before after.
      let at = beside_errors g.O.Sink.holds g.O.Sink.write_faults g.F.Files.holds g.F.Files.faults g.P.Opener.told g.P.Opener.asked g.P.Opener.faults g.C.Clock.answer rest in
      let old = at before c.args.output.now c.args.files.now c.args.opener.now c.args.clock.now in
      let new = at after c.args.output.now c.settings_file.new.files c.args.opener.now c.args.clock.now in
      unread_explained c.args.question.now c.args.settings.now old new c.in-Err.ended c.in-Err.ensures.read
      (record { left = refl; read_faults = refl; held = refl; write_faults = refl; words = refl; word_faults = refl; rows = told_by_itself (g.P.Opener.told c.args.opener.now) })
      (record { told = refl; rows = refl; asked = refl; keeper_faults = refl });
  safe = λ tells safe. safe;
}

pub returns-in-Err-answer_over : goal.returns-in-Err-answer_over
returns-in-Err-answer_over g c = record {
  explained = λ rest before after.
      let at = beside_errors g.O.Sink.holds g.O.Sink.write_faults g.F.Files.holds g.F.Files.faults g.P.Opener.told g.P.Opener.asked g.P.Opener.faults g.C.Clock.answer rest in
      let old = at before c.args.output.now c.args.files.now c.args.opener.now c.args.clock.now in
      let new = at after c.args.output.now c.settings_file.new.files c.answer_over.new.opener c.answer_over.new.clock in
      unanswered_explained c.args.question.now c.args.settings.now old new c.in-Err-answer_over.ended c.in-Ok.settings c.in-Ok.ensures.read c.in-Err-answer_over.ensures.fault
      (λ kept. record { left = refl; read_faults = refl; held = refl; write_faults = refl; words = refl; word_faults = refl; rows = kept });
  safe = c.answer_over.ensures.safe;
}

pub returns-in-Ok-answer_over : goal.returns-in-Ok-answer_over
returns-in-Ok-answer_over g c = record {
  explained = λ rest before after.
      let at = beside_errors g.O.Sink.holds g.O.Sink.write_faults g.F.Files.holds g.F.Files.faults g.P.Opener.told g.P.Opener.asked g.P.Opener.faults g.C.Clock.answer rest in
      let old = at before c.args.output.now c.args.files.now c.args.opener.now c.args.clock.now in
      let new = at after c.write_answer.new.output c.settings_file.new.files c.answer_over.new.opener c.answer_over.new.clock in
      written_explained c.args.question.now c.args.settings.now old new c.write_answer.result c.in-Ok.settings c.in-Ok-answer_over.text.items c.in-Ok.ensures.read c.in-Ok-answer_over.ensures.answer
      (rw c.deref.ensures.value at c.write_answer.ensures.written);
  safe = c.answer_over.ensures.safe;
}
