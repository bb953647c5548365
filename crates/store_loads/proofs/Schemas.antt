-- The empty schema isn't ours.
use Rattle.std.proofs.Common.{◌≡◌, ◌∙◌, ap, sym}
use Rattle.sqlite_schema.specs.declared.schema.Schema.{Schema}
use Rattle.store_sql.specs.Schema.{no_schema, schema_1}

pub none_is_not_ours : (s : Schema) → s ≡ schema_1 → s ≡ no_schema → ⊥
none_is_not_ours s ours none = absurd (let e = ap (λ (x : Schema). x.tables) (sym ours ∙ none) in cc)
