use Rattle.std.proofs.Common.{take}
use Rattle.std.specs.Prelude.{Contains}
use Rattle.port_sets.specs.Ranges.{IsPorts}
use Rattle.policy_rows.specs.declared.dest.Dest.{Dest}
use Rattle.policy_sites.proofs.rules.look_at_ports.Given as goal

abbrev pub invariant-loop-entry : goal.invariant-loop-entry
invariant-loop-entry l = (entry : Dest) → Contains (take l.entry-index l.entries) entry → IsPorts entry.ports
