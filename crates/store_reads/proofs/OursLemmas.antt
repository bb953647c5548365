-- All cells of a stored row are values of a database.
use Rattle.std.proofs.Common.{◌≡◌, ℕ, ℤ, Bool, true, false, cond, List, [], ◌∷◌, Option, Some, None}
use Rattle.std.specs.List.{AllByRecursion}
use Rattle.net_addr.specs.Bits.{Address}
use Rattle.net_rows.specs.declared.change.Counters.{Counters}
use Rattle.net_rows.specs.declared.key.AuthKey.{AuthKey}
use Rattle.net_rows.specs.declared.machine.Machine.{Machine}
use Rattle.net_rows.specs.declared.pending.Pending.{Pending}
use Rattle.net_rows.specs.declared.user.User.{User}
use Rattle.store_rows.specs.Addresses.{address_cell, v6_bytes}
use Rattle.store_rows.specs.Cells.{expiry_cell, truth_cell}
use Rattle.store_rows.specs.Rows.{auth_key_cells, extra_cells, machine_cells, meta_cells, pending_cells, policy_cells, user_cells}
use Rattle.store_rows.specs.declared.cell.Cell.TheVariants.{Blob, Number}
use Rattle.tailcfg.specs.declared.dns.DnsExtra.{DnsExtra}
use Rattle.store_reads.specs.Back.{IsOfOurs}

truth_ours : (b : Bool) → IsOfOurs (truth_cell b)
truth_ours true = tt
truth_ours false = tt

expiry_ours : (o : Option ℤ) → IsOfOurs (expiry_cell o)
expiry_ours None = tt
expiry_ours (Some n) = tt

family_ours : (addr : Address) (v6 : Bool) → IsOfOurs (cond v6 (Blob (v6_bytes addr.bits)) (Number (Rattle.std.proofs.Common.pos addr.bits)))
family_ours addr true = tt
family_ours addr false = tt

address_ours : (addr : Address) → IsOfOurs (address_cell addr)
address_ours addr = family_ours addr addr.v6

pub meta_ours : (x : Counters) → AllByRecursion IsOfOurs (meta_cells x)
meta_ours x = (tt, (tt, (tt, (tt, (tt, (tt, tt))))))

pub user_ours : (x : User) → AllByRecursion IsOfOurs (user_cells x)
user_ours x = (tt, (tt, tt))

pub auth_key_ours : (x : AuthKey) → AllByRecursion IsOfOurs (auth_key_cells x)
auth_key_ours x = (tt, (tt, (tt, (truth_ours x.reusable, (truth_ours x.ephemeral, (truth_ours x.used, (expiry_ours x.expiry, (tt, tt))))))))

pub pending_ours : (x : Pending) → AllByRecursion IsOfOurs (pending_cells x)
pending_ours x = (tt, (tt, (tt, (tt, (tt, (tt, (tt, (truth_ours x.ephemeral, (expiry_ours x.expiry, (tt, tt))))))))))

pub machine_ours : (x : Machine) → AllByRecursion IsOfOurs (machine_cells x)
machine_ours x =
    (tt, (tt, (tt, (tt, (tt, (tt, (tt, (address_ours x.v4, (address_ours x.v6, (tt, (tt, (tt, (tt, (tt, (truth_ours x.ephemeral, (expiry_ours x.expiry, (tt, tt)))))))))))))))))

pub extra_ours : (place : ℕ) (x : DnsExtra) → AllByRecursion IsOfOurs (extra_cells place x)
extra_ours place x = (tt, (tt, (tt, tt)))

pub policy_ours : (x : List ℕ) → AllByRecursion IsOfOurs (policy_cells x)
policy_ours x = (tt, (tt, tt))
