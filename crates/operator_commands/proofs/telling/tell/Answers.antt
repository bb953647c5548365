use Rattle.std.proofs.Common.{◌∙◌, true, false, sym, refl}
use Rattle.operator_commands.proofs.telling.tell.Goals as goal

pub returns-in-Ok : goal.returns-in-Ok
returns-in-Ok g c = record {
  told = rw (sym c.is_success.ensures.value ∙ c.if-is_success.true, ← c.as_slice-body.ensures.value) (record { failed = false; wrote = c.in-Ok.ensures.wrote; status_is = refl; same = refl });
}

pub returns-in-Err : goal.returns-in-Err
returns-in-Err g c = record {
  told = rw (sym c.is_success.ensures.value ∙ c.if-is_success.true, ← c.as_slice-body.ensures.value) (record { failed = true; wrote = c.in-Err.ensures.wrote; status_is = refl; same = refl });
}

pub returns-in-Ok-write_line : goal.returns-in-Ok-write_line
returns-in-Ok-write_line g c = record {
  told = rw (sym c.is_success.ensures.value ∙ c.if-is_success.false, ← c.as_slice-body.ensures.value) (record { failed = false; wrote = c.in-Ok-write_line.ensures.wrote; status_is = refl; same = refl });
}

pub returns-in-Err-write_line : goal.returns-in-Err-write_line
returns-in-Err-write_line g c = record {
  told = rw (sym c.is_success.ensures.value ∙ c.if-is_success.false, ← c.as_slice-body.ensures.value) (record { failed = true; wrote = c.in-Err-write_line.ensures.wrote; status_is = refl; same = refl });
}
