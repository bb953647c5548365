use Rattle.std.proofs.Common.{◌≡◌, ◌⊎◌, Option, Some, IfSome, IsTrue, OnOk, subst, sym}
use Rattle.io_edge.specs.Edge.{Rose}
use Rattle.net_rows.specs.Rows.{after}
use Rattle.net_rows.specs.declared.change.Change.{Change}
use Rattle.net_rows.specs.declared.rows.Rows.{Rows}
use Rattle.sqlite.specs.Files.{file_state}
use Rattle.sqlite.specs.Held.{state}
use Rattle.sqlite.specs.Steps.{over_memory}
use Rattle.keeper_sqlite.specs.Host.{faults_of, is_clean_of, may_leave_of, told_of}
use Rattle.keeper_sqlite.specs.Left.{MayBeFound}
use Rattle.keeper_sqlite.specs.declared.host_keeper.HostKeeper.{HostKeeper}
use Rattle.keeper_sqlite.proofs.host_keeper.HostKeeperKeeper.commit.Goals as goal

-- what is left of a keeper that became one with this behind a change, and told rows
abbrev Leaves : (Option Rows → Type 0) → Change → HostKeeper → Type 0
Leaves may change k = IfSome (told_of k) (λ rows. (found : Option Rows) → may found → may_leave_of k found ⊎ (found ≡ Some (after rows change)))

pub returns-in-Memory-clause-crash : goal.returns-in-Memory-clause-crash
returns-in-Memory-clause-crash c clean = subst (Leaves (MayBeFound (state over_memory c.commit.new.self.conn)) c.args.change.now) (sym c.in-Memory.is) (c.commit.ensures.crash clean)

pub returns-in-File-clause-clean : goal.returns-in-File-clause-clean
returns-in-File-clause-clean c clean = subst (λ k. IsTrue (is_clean_of k)) (sym c.in-File.is) (c.commit-in-File.ensures.clean clean)

pub returns-in-File-clause-crash : goal.returns-in-File-clause-crash
returns-in-File-clause-crash c clean = subst (Leaves (MayBeFound (file_state c.commit-in-File.new.self.conn)) c.args.change.now) (sym c.in-File.is) (c.commit-in-File.ensures.crash clean)

pub returns-in-File-clause-durable : goal.returns-in-File-clause-durable
returns-in-File-clause-durable c clean =
    subst
    (λ k. IfSome (told_of k) (λ rows. OnOk c.commit-in-File.result ((found : Option Rows) → MayBeFound (file_state c.commit-in-File.new.self.conn) found → found ≡ Some (after rows c.args.change.now))))
    (sym c.in-File.is) (c.commit-in-File.ensures.durable clean)

pub returns-in-File-clause-cause : goal.returns-in-File-clause-cause
returns-in-File-clause-cause c failed = subst (λ k. Rose (faults_of k) c.commit-in-File.new.self.faults) (sym c.in-File.is) (c.commit-in-File.ensures.cause failed)
