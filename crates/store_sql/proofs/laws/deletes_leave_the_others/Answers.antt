use Rattle.std.proofs.Common.{◌∷◌, [], drop}
use Rattle.sqlite_value.specs.declared.value.Value.TheVariants.{Null}
use Rattle.store_sql.specs.Schema.{users_table, auth_keys_table, pending_table, machines_table, extras_table}
use Rattle.store_sql.specs.declared.texts.TheConstants.{CLEAR_EXTRAS, DELETE_AUTH_KEYS, DELETE_MACHINES, DELETE_PENDING, DELETE_USERS}
use Rattle.store_sql.proofs.Deletes.{delete_users_means, delete_auth_keys_means, delete_pending_means, delete_machines_means}
use Rattle.store_sql.proofs.Updates.{clear_extras_means}
use Rattle.store_sql.proofs.Places.{users_place, auth_keys_place, pending_place, machines_place, extras_place}
use Rattle.store_sql.proofs.Puts.{takes_out, takes_all_out}
use Rattle.store_sql.proofs.laws.deletes_leave_the_others.Goals as goal

pub returns : goal.returns
returns c = record {
  users = λ db after rows id count stands ran. takes_out 1 1 (drop 1 users_table.columns) users_place (λ p. p.0) (λ p. Null ∷ p.1) rows DELETE_USERS.now count db after stands.schema stands.rows_are id delete_users_means ran;
  auth_keys = λ db after rows id count stands ran. takes_out 2 3 (drop 1 auth_keys_table.columns) auth_keys_place (λ p. p.0) (λ p. Null ∷ p.1) rows DELETE_AUTH_KEYS.now count db after stands.schema stands.rows_are id delete_auth_keys_means ran;
  pending = λ db after rows id count stands ran. takes_out 3 5 (drop 1 pending_table.columns) pending_place (λ p. p.0) (λ p. Null ∷ p.1) rows DELETE_PENDING.now count db after stands.schema stands.rows_are id delete_pending_means ran;
  machines = λ db after rows id count stands ran. takes_out 4 8 (drop 1 machines_table.columns) machines_place (λ p. p.0) (λ p. Null ∷ p.1) rows DELETE_MACHINES.now count db after stands.schema stands.rows_are id delete_machines_means ran;
  extras = λ db after rows count stands ran. takes_all_out 5 14 (drop 1 extras_table.columns) extras_place (λ p. p.0) (λ p. Null ∷ p.1) rows CLEAR_EXTRAS.now count db after stands.schema stands.rows_are [] clear_extras_means ran;
}
