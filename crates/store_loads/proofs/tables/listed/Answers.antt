use Rattle.store_sql.specs.Schema.{no_schema}
use Rattle.store_sql.proofs.Selects.{select_schema_plain}
use Rattle.store_loads.proofs.tables.listed.Goals as goal

pub returns : goal.returns
returns g c = record {
  shown = c.rows_of.ensures.shown;
  seen = c.rows_of.ensures.seen no_schema select_schema_plain;
}
