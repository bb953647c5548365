use Rattle.std.proofs.Common.{◌≡◌, ◌⊎◌, Option, Some, IfSome, IsTrue, subst, sym}
use Rattle.io_edge.specs.Edge.{Rose}
use Rattle.net_rows.specs.declared.rows.Rows.{Rows}
use Rattle.sqlite.specs.Files.{file_state}
use Rattle.sqlite.specs.Held.{state}
use Rattle.sqlite.specs.Steps.{over_memory}
use Rattle.keeper_sqlite.specs.Host.{faults_of, is_clean_of, may_leave_of, told_of}
use Rattle.keeper_sqlite.specs.Left.{MayBeFound}
use Rattle.keeper_sqlite.specs.declared.host_keeper.HostKeeper.{HostKeeper}
use Rattle.keeper_sqlite.proofs.host_keeper.HostKeeperKeeper.load.Goals as goal

-- what is left of a keeper that became one with this, and told rows
abbrev Leaves : (Option Rows → Type 0) → HostKeeper → Type 0
Leaves may k = IfSome (told_of k) (λ rows. (found : Option Rows) → may found → may_leave_of k found ⊎ (found ≡ Some rows))

pub returns-in-Memory-clause-crash : goal.returns-in-Memory-clause-crash
returns-in-Memory-clause-crash c clean = subst (Leaves (MayBeFound (state over_memory c.load.new.self.conn))) (sym c.in-Memory.is) (c.load.ensures.crash clean)

pub returns-in-File-clause-clean : goal.returns-in-File-clause-clean
returns-in-File-clause-clean c clean = subst (λ k. IsTrue (is_clean_of k)) (sym c.in-File.is) (c.load-in-File.ensures.clean clean)

pub returns-in-File-clause-crash : goal.returns-in-File-clause-crash
returns-in-File-clause-crash c clean = subst (Leaves (MayBeFound (file_state c.load-in-File.new.self.conn))) (sym c.in-File.is) (c.load-in-File.ensures.crash clean)

pub returns-in-File-clause-cause : goal.returns-in-File-clause-cause
returns-in-File-clause-cause c failed = subst (λ k. Rose (faults_of k) c.load-in-File.new.self.faults) (sym c.in-File.is) (c.load-in-File.ensures.cause failed)
