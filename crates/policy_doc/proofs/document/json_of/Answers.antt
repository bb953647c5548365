use Rattle.std.proofs.Common.{◌≡◌, ℕ, true, false, List, Some, None, refl, ap, ◌∙◌, cond}
use Rattle.std.specs.Prelude.{IsUtf8, Ok, Err, codes}
use Rattle.std.specs.Str.{is_utf8}
use Rattle.std.proofs.lemmas.Bool.{false≢true}
use Rattle.std.proofs.lemmas.Str.{IsUtf8-from_is_utf8, is_utf8-from_IsUtf8}
use Rattle.serde_json.specs.Data.{Data}
use Rattle.serde_json.specs.Read.{read}
use Rattle.policy_rows.specs.declared.code.PolicyCode.TheVariants as code
use Rattle.tail_base.specs.Steps.{or_fault}
use Rattle.policy_rows.specs.Faults.{fault_at}
use Rattle.policy_doc.specs.Document.{json_at}
use Rattle.serde_json.specs.View.{view}
use Rattle.policy_doc.proofs.Seen.{seen_refused}
use Rattle.policy_doc.proofs.document.json_of.Goals as goal

json_some : (text : List ℕ) (d : Data) → IsUtf8 text → read text ≡ Some d → json_at text ≡ Ok d
json_some text d utf8 same = ap (or_fault (fault_at code.Syntax (codes "json"))) (ap (λ b. cond b (read text) None) (is_utf8-from_IsUtf8 text utf8) ∙ same)

json_none : (text : List ℕ) → (IsUtf8 text → read text ≡ None) → json_at text ≡ Err (fault_at code.Syntax (codes "json"))
json_none text unread = ap (or_fault (fault_at code.Syntax (codes "json")))
    (elim (is_utf8 text) as (λ b. is_utf8 text ≡ b → cond b (read text) None ≡ None) [ true ↦ λ e. unread (IsUtf8-from_is_utf8 text e) | false ↦ λ _. refl ] refl)

pub returns-in-Ok : goal.returns-in-Ok
returns-in-Ok c = record { value = json_some c.args.text.now _ c.in-Ok.ensures.ok.0 c.in-Ok.ensures.ok.1 }

pub returns-in-Err-2 : goal.returns-in-Err-2
returns-in-Err-2 c =
    let same = json_none c.args.text.now (c.in-Err.ensures.err (λ m. false≢true (c.if-is_memory.ensures.1 m))) in
    record { value = rw same (seen_refused view c.refused.result (fault_at code.Syntax (codes "json")) c.refused.ensures.value) }
