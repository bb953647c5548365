use Rattle.std.proofs.Common.{Global, Vec, ℕ, ap, append_assoc, ◌∙◌}
use Rattle.reach_report.proofs.texts.granted_line.Goals as goal

pub returns : goal.returns
returns c =
    let text = ap (λ (bytes : Vec ℕ Global). bytes.items) c.into_bytes.ensures.value ∙ c.in_ok-format.ensures.ok in
    record { value = simp append_assoc text }
