use Rattle.std.proofs.Common.{◌≡◌, ◌∙◌, ℕ, List, Some, None, true, false, refl, ap, cond, sym}
use Rattle.std.specs.Prelude.{IsUtf8}
use Rattle.std.specs.Str.{is_utf8}
use Rattle.std.proofs.lemmas.Str.{IsUtf8-from_is_utf8, is_utf8-from_IsUtf8}
use Rattle.path_routes.specs.Finds.{text_of}
use Rattle.path_routes.proofs.paths.text_of.Goals as goal

is_text : (path : List ℕ) → IsUtf8 path → text_of path ≡ Some path
is_text path h = rw (is_utf8-from_IsUtf8 path h) refl

is_none : (path : List ℕ) → (IsUtf8 path → ⊥) → text_of path ≡ None
is_none path h =
    elim (is_utf8 path) as (λ b. is_utf8 path ≡ b → cond b (Some path) None ≡ None) [ true ↦ λ e. absurd (h (IsUtf8-from_is_utf8 path e)) | false ↦ λ _. refl ] refl

pub returns-in-Ok : goal.returns-in-Ok
returns-in-Ok c = record { value = ap Some c.in-Ok.ensures.cases.0 ∙ sym (is_text c.args.path.now c.in-Ok.ensures.cases.1) }

pub returns-in-Err : goal.returns-in-Err
returns-in-Err c = record { value = sym (is_none c.args.path.now c.in-Err.ensures.cases.0) }
