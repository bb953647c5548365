use Rattle.std.proofs.Common.{◌≡◌, true, subst}
use Rattle.std.specs.Str.{is_utf8}
use Rattle.std.proofs.lemmas.Str.{is_utf8-from_IsUtf8}
use Rattle.store_rows.proofs.utf8.text_is_utf8.Goals as goal

pub returns : goal.returns
returns c = record { value = subst (λ bytes. is_utf8 bytes ≡ true) c.as_bytes-bytes.ensures.value (is_utf8-from_IsUtf8 _ c.as_bytes-bytes.ensures.utf8) }
