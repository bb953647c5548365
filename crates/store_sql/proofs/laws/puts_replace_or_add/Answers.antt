use Rattle.std.proofs.Common.{◌∷◌, [], drop, refl}
use Rattle.sqlite_value.specs.declared.value.Value.TheVariants.{Null}
use Rattle.store_sql.specs.Schema.{meta_table, users_table, auth_keys_table, pending_table, machines_table, policy_table}
use Rattle.store_sql.specs.declared.texts.TheConstants.{INSERT_AUTH_KEYS, INSERT_MACHINES, INSERT_META, INSERT_PENDING, INSERT_POLICY, INSERT_USERS, UPDATE_AUTH_KEYS, UPDATE_MACHINES, UPDATE_META, UPDATE_PENDING, UPDATE_POLICY, UPDATE_USERS}
use Rattle.store_sql.proofs.Inserts.{insert_meta_means, insert_users_means, insert_auth_keys_means, insert_pending_means, insert_machines_means, insert_policy_means}
use Rattle.store_sql.proofs.Updates.{update_meta_means, update_users_means, update_auth_keys_means, update_pending_means, update_machines_means, update_policy_means}
use Rattle.store_sql.proofs.Places.{meta_place, users_place, auth_keys_place, pending_place, machines_place, policy_place}
use Rattle.store_sql.proofs.Puts.{puts_row}
use Rattle.store_sql.proofs.laws.puts_replace_or_add.Goals as goal

pub returns : goal.returns
returns c = record {
  meta = λ id a b c d e db after rows taken stands put. puts_row 0 0 (drop 1 meta_table.columns) meta_place id (a ∷ b ∷ c ∷ d ∷ e ∷ []) taken (λ p. p.0) (λ p. Null ∷ p.1) rows UPDATE_META.now INSERT_META.now _ _ _ db after stands.schema stands.rows_are update_meta_means insert_meta_means (λ row. refl) refl put;
  users = λ id a db after rows taken stands put. puts_row 1 1 (drop 1 users_table.columns) users_place id (a ∷ []) taken (λ p. p.0) (λ p. Null ∷ p.1) rows UPDATE_USERS.now INSERT_USERS.now _ _ _ db after stands.schema stands.rows_are update_users_means insert_users_means (λ row. refl) refl put;
  auth_keys = λ id a b c d e f g db after rows taken stands put. puts_row 2 3 (drop 1 auth_keys_table.columns) auth_keys_place id (a ∷ b ∷ c ∷ d ∷ e ∷ f ∷ g ∷ []) taken (λ p. p.0) (λ p. Null ∷ p.1) rows UPDATE_AUTH_KEYS.now INSERT_AUTH_KEYS.now _ _ _ db after stands.schema stands.rows_are update_auth_keys_means insert_auth_keys_means (λ row. refl) refl put;
  pending = λ id a b c d e f g h i db after rows taken stands put. puts_row 3 5 (drop 1 pending_table.columns) pending_place id (a ∷ b ∷ c ∷ d ∷ e ∷ f ∷ g ∷ h ∷ i ∷ []) taken (λ p. p.0) (λ p. Null ∷ p.1) rows UPDATE_PENDING.now INSERT_PENDING.now _ _ _ db after stands.schema stands.rows_are update_pending_means insert_pending_means (λ row. refl) refl put;
  machines = λ id a b c d e f g h i j k l m n o p db after rows taken stands put. puts_row 4 8 (drop 1 machines_table.columns) machines_place id (a ∷ b ∷ c ∷ d ∷ e ∷ f ∷ g ∷ h ∷ i ∷ j ∷ k ∷ l ∷ m ∷ n ∷ o ∷ p ∷ []) taken (λ p. p.0) (λ p. Null ∷ p.1) rows UPDATE_MACHINES.now INSERT_MACHINES.now _ _ _ db after stands.schema stands.rows_are update_machines_means insert_machines_means (λ row. refl) refl put;
  policy = λ id a db after rows taken stands put. puts_row 6 15 (drop 1 policy_table.columns) policy_place id (a ∷ []) taken (λ p. p.0) (λ p. Null ∷ p.1) rows UPDATE_POLICY.now INSERT_POLICY.now _ _ _ db after stands.schema stands.rows_are update_policy_means insert_policy_means (λ row. refl) refl put;
}
