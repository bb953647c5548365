use Rattle.std.proofs.Common.{refl}
use Rattle.net_rows.specs.declared.change.Counters.{Counters}
use Rattle.store_rows.specs.Rows.{IsTypedCounters, meta_cells}
use Rattle.store_rows.proofs.ReadLemmas.{columns_none, columns_some}
use Rattle.store_rows.proofs.meta.read_meta.Goals as goal

pub returns-in-Some : goal.returns-in-Some
returns-in-Some c = rw c.of_columns.ensures.value (record {
  exact = columns_some meta_cells IsTypedCounters _ _ c.args.given.now c.in-Some.columns (rw c.in-Some.is at c.in_ok-columns.ensures.exact)
      (λ (x : Counters). record { 0 = record {}; 1 = record { 0 = record {}; 1 = record { 0 = x.user; 1 = record { 0 = x.key; 1 = record { 0 = x.pending; 1 = record { 0 = x.machine; 1 = record {} } } } } } })
      (λ q. record { user = q.1.1.0; key = q.1.1.1.0; pending = q.1.1.1.1.0; machine = q.1.1.1.1.1.0 })
      (λ x. refl) (λ x fit. (tt, (tt, (fit.user, (fit.key, (fit.pending, (fit.machine, tt))))))) (λ x. refl) (λ q. refl)
      (λ q fit. record { user = fit.1.1.0; key = fit.1.1.1.0; pending = fit.1.1.1.1.0; machine = fit.1.1.1.1.1.0 });
})

pub returns-in-None : goal.returns-in-None
returns-in-None c = record {
  exact = columns_none meta_cells IsTypedCounters _ _ c.args.given.now
      (λ (x : Counters). record { 0 = record {}; 1 = record { 0 = record {}; 1 = record { 0 = x.user; 1 = record { 0 = x.key; 1 = record { 0 = x.pending; 1 = record { 0 = x.machine; 1 = record {} } } } } } })
      (λ x. refl) (λ x fit. (tt, (tt, (fit.user, (fit.key, (fit.pending, (fit.machine, tt))))))) (rw c.in-None.is at c.in_ok-columns.ensures.exact);
}
