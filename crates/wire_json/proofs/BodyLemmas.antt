-- Which value a body is.
use Rattle.std.proofs.Common.{◌≡◌, ℕ, true, false, List, Some, None, refl, ap, ◌∙◌, cond}
use Rattle.std.specs.Prelude.{IsUtf8}
use Rattle.std.specs.Str.{is_utf8}
use Rattle.std.proofs.lemmas.Str.{IsUtf8-from_is_utf8, is_utf8-from_IsUtf8}
use Rattle.serde_json.specs.Data.{Data}
use Rattle.serde_json.specs.Read.{read}
use Rattle.wire_json.specs.Body.{body_value}

pub body_some : (body : List ℕ) (d : Data) → IsUtf8 body → read body ≡ Some d → body_value body ≡ Some d
body_some body d text same = ap (λ b. cond b (read body) None) (is_utf8-from_IsUtf8 body text) ∙ same

pub body_none : (body : List ℕ) → (IsUtf8 body → read body ≡ None) → body_value body ≡ None
body_none body unread =
    elim (is_utf8 body) as (λ b. is_utf8 body ≡ b → cond b (read body) None ≡ None) [ true ↦ λ e. unread (IsUtf8-from_is_utf8 body e) | false ↦ λ _. refl ] refl
