use Rattle.std.proofs.Common.{◌≡◌, []}
use Rattle.std.specs.List.{slice_split}
use Rattle.port_sets.specs.PortTexts.{is_comma, merged_from}
use Rattle.port_sets.specs.Ranges.{IsApart}
use Rattle.port_sets.proofs.ports.merged.Given as goal

abbrev pub invariant-loop : goal.invariant-loop
invariant-loop l = record {
  rest : merged_from l.counter l.ranges.items (slice_split is_comma l.rest) ≡ merged_from 0 [] (slice_split is_comma l.text);
  apart : IsApart 0 l.ranges.items;
}
