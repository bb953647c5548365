use Rattle.std.proofs.Common.{append_assoc, ◌∙◌}
use Rattle.exit_status.proofs.noting.settings_line.Goals as goal

pub returns : goal.returns
returns c =
    let text = c.from_string.ensures.value ∙ c.in_ok-format.ensures.ok in
    record { value = simp append_assoc (rw c.number-number.ensures.value at text) }
