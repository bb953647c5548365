use Rattle.std.proofs.Common.{◌++◌, ℕ, List, ap}
use Rattle.reach_report.proofs.TextLemmas.{header_line, moved, ok_moved}
use Rattle.reach_report.proofs.texts.add_header.Goals as goal

pub returns : goal.returns
returns c = record { ok = ok_moved c.add_record.result _ _ (λ f bytes h. moved _ _ _ _ (ap (λ (text : List ℕ). bytes ++ text) header_line) (f bytes h)) c.add_record.ensures.ok }
