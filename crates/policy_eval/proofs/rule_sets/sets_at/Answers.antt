use Rattle.std.proofs.Common.{false, true}
use Rattle.policy_rows.specs.declared.dest.Dest.{Dest}
use Rattle.policy_rows.specs.declared.selector.Selector.{Selector}
use Rattle.policy_eval.proofs.CoverLemmas.{flags_of_places}
use Rattle.policy_eval.proofs.rule_sets.sets_at.Goals as goal

pub source_set-requires : goal.source_set-requires
source_set-requires c = record { matched = rw c.as_slice.ensures.value c.requires.sources }

pub returns : goal.returns
returns c = record {
  fits = record {
    sources = c.in_ok-sources.ensures.held;
    source_places = c.requires.sources;
    dests = c.requires.dests;
    sends = flags_of_places false (λ (s : Selector). s) c.args.covers.now.groups c.args.covers.now.sites c.sites-count.result.now c.args.covers.now.list c.list.result.now c.args.rule.now.sources c.args.source_places c.as_slice-2.result.now
        c.in_ok-sends.sends c.sites-count.ensures.value c.list.ensures.value c.as_slice-2.ensures.value c.requires.sources c.in_ok-sends.ensures.indexed;
    takes = flags_of_places true (λ (e : Dest). e.to) c.args.covers.now.groups c.args.covers.now.sites c.sites-count.result.now c.args.covers.now.list c.list-2.result.now c.args.rule.now.dests c.args.dests c.as_slice-3.result.now
        c.in_ok-takes.takes c.sites-count.ensures.value c.list-2.ensures.value c.as_slice-3.ensures.value c.requires.dests c.in_ok-takes.ensures.indexed;
    owns = c.has_own_devices.ensures.value;
  };
}
