use Rattle.std.proofs.Common.{[]}
use Rattle.reach_report.proofs.TextLemmas.{ok_moved}
use Rattle.reach_report.proofs.texts.add_report.Goals as goal

pub returns : goal.returns
returns c = record { ok = ok_moved c.add_lines.result _ _ (λ f h. f _ (c.in_ok-add_header.ensures.ok [] h)) c.add_lines.ensures.ok }
