use Rattle.exit_status.proofs.noting.note.Goals as goal

pub returns-in-Settings : goal.returns-in-Settings
returns-in-Settings g c = rw c.in-Settings.is (record { noted = c.note_made.ensures.noted _ (rw c.as_str.ensures.value at c.settings_line.ensures.value) })

pub returns-in-Damaged : goal.returns-in-Damaged
returns-in-Damaged g c = rw c.in-Damaged.is (record { noted = c.note_made-in-Damaged.ensures.noted _ c.damaged_line.ensures.value })
