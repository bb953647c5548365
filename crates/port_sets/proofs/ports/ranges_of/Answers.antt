use Rattle.std.proofs.Common.{rules, ◌≡◌, true, false, sym, ap, ◌∙◌}
use Rattle.std.specs.Prelude.{Ok, codes}
use Rattle.std.specs.Str.{bytes_eq}
use Rattle.port_sets.proofs.ReadLemmas.{ports_parts, ports_star}
use Rattle.port_sets.proofs.ports.ranges_of.Goals as goal

pub returns-in_ok-inserted-clause-value : goal.returns-in_ok-inserted-clause-value
returns-in_ok-inserted-clause-value c =
    let star : bytes_eq c.args.text.now (codes "*") ≡ true = search rules in
    ports_star c.args.text.now star ∙ ap Ok (sym c.in_ok-inserted.ensures.value)

pub returns-else-eq-clause-value : goal.returns-else-eq-clause-value
returns-else-eq-clause-value c =
    let other : bytes_eq c.args.text.now (codes "*") ≡ false = search rules in
    rw (ports_parts c.args.text.now other) c.merged.ensures.value
