use Rattle.std.proofs.Common.{◌≡◌, true, false, rules}
use Rattle.net_rows.specs.Damage.{address_eq}
use Rattle.policy_sites.specs.declared.site.Site.{Site}
use Rattle.policy_sites.proofs.ListLemmas.{told_more}
use Rattle.filter_compile.proofs.TakeLemmas.{place_is, stands_somewhere}
use Rattle.filter_compile.proofs.holdings.place_of.Goals as goal

pub returns-then-eq-clause-there : goal.returns-then-eq-clause-there
returns-then-eq-clause-there c =
    let same : address_eq c.index-sites-place.result.v4 c.args.machine.now.v4 ≡ true = search rules in
    place_is c.args.sites.now c.args.machine.now c.loop-place.place c.index-sites-place.result c.requires.distinct c.requires.among c.loop-place-test.true c.index-sites-place.is same

pub loop-place-preserved : goal.loop-place-preserved
loop-place-preserved c =
    let other : address_eq c.index-sites-place.result.v4 c.args.machine.now.v4 ≡ false = search rules in
    told_more (λ (s : Site). address_eq s.v4 c.args.machine.now.v4 ≡ false) c.args.sites.now c.loop-place.place c.index-sites-place.result c.loop-place-test.true c.index-sites-place.is c.loop-place.invariant other

pub unreachable-requires : goal.unreachable-requires
unreachable-requires c =
    stands_somewhere c.args.sites.now c.args.machine.now c.loop-place.place c.requires.among c.loop-place.auto.place-end c.loop-place-test.false c.loop-place.invariant
