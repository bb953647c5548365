-- The first damage of a database.
use Rattle.std.specs.Prelude.{◌≡◌, ◌⊎◌}
use Rattle.net_rows.specs.declared.change.Damage.{Damage}
use Rattle.net_rows.specs.declared.change.Kind.TheVariants as kind
use Rattle.sqlite.specs.Effect.{Database}
use Rattle.store_reads.specs.Damages.{IsFirstIn}
use Rattle.store_sql.specs.Schema.{no_schema, schema_1}

-- Under our schema it is the first of what the trees hold, under another one that of `meta`. A database that has
-- nothing has none.
abbrev pub IsFirstDamage : Database → Damage → Type 0
IsFirstDamage db d =
    ((db.schema ≡ schema_1) × IsFirstIn db.trees d)
    ⊎ ((db.schema ≡ schema_1 → ⊥) × (db.schema ≡ no_schema → ⊥) × (d ≡ record { kind = kind.Meta; id = 0 }))
