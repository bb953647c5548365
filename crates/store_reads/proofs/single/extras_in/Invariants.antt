use Rattle.std.proofs.Common.{◌≡◌, List, take}
use Rattle.std.specs.List.{AllByRecursion}
use Rattle.tailcfg.specs.declared.dns.DnsExtra.{DnsExtra}
use Rattle.store_reads.specs.Readable.{IsReadableExtra, shown_extras}
use Rattle.store_reads.proofs.BackLemmas.{AreExtrasReadSo}
use Rattle.store_reads.proofs.single.extras_in.Given as goal

abbrev pub invariant-loop-row : goal.invariant-loop-row
invariant-loop-row l = record {
  last : l.last ≡ l.row-index;
  read : (xs : List DnsExtra) → l.rows ≡ shown_extras 1 xs → AllByRecursion IsReadableExtra xs → l.extras ≡ take l.row-index xs;
  back : AreExtrasReadSo (take l.row-index l.rows) l.extras;
}
