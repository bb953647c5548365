use Rattle.std.proofs.Common.{◌≡◌, ℕ, true, false, List, Some, None, refl, ap, ◌∙◌, cond}
use Rattle.std.specs.Prelude.{IsUtf8, Err, codes}
use Rattle.std.specs.Str.{is_utf8}
use Rattle.std.proofs.lemmas.Bool.{false≢true}
use Rattle.std.proofs.lemmas.Str.{IsUtf8-from_is_utf8, is_utf8-from_IsUtf8}
use Rattle.toml.specs.Data.{Members}
use Rattle.toml.specs.Parse.{parse_document}
use Rattle.tail_words.specs.declared.fault.SettingsRule.TheVariants.{Toml}
use Rattle.tail_words.specs.SettingsText.{broken_at, settings_at, settings_of, table_of}
use Rattle.tail_base.specs.Steps.{◌>>=◌, or_fault}
use Rattle.tail_words.proofs.settings_file.read_settings.Goals as goal

table_some : (text : List ℕ) (table : Members) → IsUtf8 text → parse_document text ≡ Some table → table_of text ≡ Some table
table_some text table utf8 same = ap (λ b. cond b (parse_document text) None) (is_utf8-from_IsUtf8 text utf8) ∙ same

table_none : (text : List ℕ) → (IsUtf8 text → parse_document text ≡ None) → table_of text ≡ None
table_none text unread =
    elim (is_utf8 text) as (λ b. is_utf8 text ≡ b → cond b (parse_document text) None ≡ None) [ true ↦ λ e. unread (IsUtf8-from_is_utf8 text e) | false ↦ λ _. refl ] refl

settings_some : (text : List ℕ) (table : Members) → table_of text ≡ Some table → settings_of text ≡ settings_at table
unfolding settings_of
settings_some text table same = ap (λ o. or_fault (broken_at Toml (codes "text")) o >>= settings_at) same

settings_none : (text : List ℕ) → table_of text ≡ None → settings_of text ≡ Err (broken_at Toml (codes "text"))
unfolding settings_of
settings_none text same = ap (λ o. or_fault (broken_at Toml (codes "text")) o >>= settings_at) same

pub returns-in-Ok : goal.returns-in-Ok
returns-in-Ok c =
    let same = settings_some c.args.text.now _ (table_some c.args.text.now _ c.in-Ok.ensures.ok.0 c.in-Ok.ensures.ok.1) in
    record { value = rw same c.settings_from.ensures.value }

pub returns-in-Err-2 : goal.returns-in-Err-2
returns-in-Err-2 c =
    let same = settings_none c.args.text.now (table_none c.args.text.now (c.in-Err.ensures.refused (λ m. false≢true (c.if-is_memory.ensures.1 m)))) in
    record { value = rw same c.refused.ensures.value }
