use Rattle.store_rows.proofs.RowLemmas.{auth_key_cells-injective, extra_cells-injective, machine_cells-injective, meta_cells-injective, pending_cells-injective, policy_cells-injective, user_cells-injective}
use Rattle.store_rows.proofs.laws.stored_rows_differ.Goals as goal

pub returns : goal.returns
returns c = record {
  meta = meta_cells-injective;
  users = user_cells-injective;
  auth_keys = auth_key_cells-injective;
  pending = pending_cells-injective;
  machines = machine_cells-injective;
  extras = extra_cells-injective;
  policy = policy_cells-injective;
}
