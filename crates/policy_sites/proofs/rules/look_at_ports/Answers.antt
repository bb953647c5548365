use Rattle.port_sets.specs.Ranges.{IsPorts}
use Rattle.policy_rows.specs.declared.dest.Dest.{Dest}
use Rattle.policy_sites.proofs.ListLemmas.{told_more}
use Rattle.policy_sites.proofs.rules.look_at_ports.Goals as goal

pub loop-entry-preserved : goal.loop-entry-preserved
loop-entry-preserved c =
    told_more (λ (e : Dest). IsPorts e.ports) c.args.entries.now c.loop-entry.entry-index c.entry-item.result c.loop-entry-test.true c.entry-item.is c.loop-entry.invariant c.ranges-in-loop-entry.ensures.sound
