use Rattle.store_rows.proofs.TableReads.{auth_key_reads, extra_reads, machine_reads, meta_reads, pending_reads, policy_reads, user_reads}
use Rattle.store_rows.proofs.laws.rows_are_read_by_columns.Goals as goal

pub returns : goal.returns
returns c = record {
  meta = meta_reads;
  users = user_reads;
  auth_keys = auth_key_reads;
  pending = pending_reads;
  machines = machine_reads;
  extras = extra_reads;
  policy = policy_reads;
}
