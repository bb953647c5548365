use Rattle.std.proofs.Common.{◌∙◌, inl, inr, ap, refl}
use Rattle.std.proofs.lemmas.Bool.{cases_Bool}
use Rattle.std.proofs.lemmas.Str.{IsUtf8-from_is_utf8, is_utf8-from_IsUtf8}
use Rattle.std.specs.Str.{is_utf8}
use Rattle.store_rows.specs.declared.cell.Cell.TheVariants.{Text}
use Rattle.store_reads.proofs.cells.text_cell.Goals as goal

pub returns-in_ok-from_str-in-Ok : goal.returns-in_ok-from_str-in-Ok
returns-in_ok-from_str-in-Ok c = record { value = rw (is_utf8-from_IsUtf8 _ c.in-Ok.ensures.cases.1) (ap Text (c.in_ok-from_str-in-Ok.ensures.value ∙ c.in-Ok.ensures.cases.0)) }

pub returns-in-Err : goal.returns-in-Err
returns-in-Err c = record {
  value = elim (cases_Bool (is_utf8 c.args.bytes.now)) [
    | inl text ↦ absurd (c.in-Err.ensures.cases.0 (IsUtf8-from_is_utf8 _ text))
    | inr none ↦ rw none refl
  ];
}
