use Rattle.std.proofs.Common.{sym, ◌∙◌}
use Rattle.http_front.proofs.Targets.{scan_from_ends, ends_from_scan}
use Rattle.http_front.proofs.target.ends_in_target.Goals as goal

pub returns : goal.returns
returns c = record { value = (λ h. ends_from_scan c.args.bytes.now (sym c.scan.ensures.value ∙ h), λ x. c.scan.ensures.value ∙ scan_from_ends c.args.bytes.now x) }
