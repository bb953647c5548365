use Rattle.std.proofs.Common.{refl}
use Rattle.net_rows.specs.declared.pending.Pending.{Pending}
use Rattle.store_rows.specs.Rows.{IsTypedPending, pending_cells}
use Rattle.store_rows.proofs.ReadLemmas.{columns_none, columns_some}
use Rattle.store_rows.proofs.pending.read_pending.Goals as goal

pub returns-in-Some : goal.returns-in-Some
returns-in-Some c = rw c.of_columns.ensures.value (record {
  exact = columns_some pending_cells IsTypedPending _ _ c.args.given.now c.in-Some.columns (rw c.in-Some.is at c.in_ok-columns.ensures.exact)
      (λ (x : Pending). record { 0 = x.id; 1 = record { 0 = x.text; 1 = record { 0 = x.machine; 1 = record { 0 = x.node; 1 = record { 0 = x.host; 1 = record { 0 = x.routes; 1 = record { 0 = x.tags; 1 = record { 0 = x.ephemeral; 1 = record { 0 = x.expiry; 1 = record { 0 = x.made; 1 = record {} } } } } } } } } } })
      (λ q. record { id = q.0; text = q.1.0; machine = q.1.1.0; node = q.1.1.1.0; host = q.1.1.1.1.0; routes = q.1.1.1.1.1.0; tags = q.1.1.1.1.1.1.0; ephemeral = q.1.1.1.1.1.1.1.0; expiry = q.1.1.1.1.1.1.1.1.0; made = q.1.1.1.1.1.1.1.1.1.0 })
      (λ x. refl) (λ x fit. (fit.id, (tt, (fit.machine, (fit.node, (tt, (fit.routes, (fit.tags, (tt, (fit.expiry, (fit.made, tt))))))))))) (λ x. refl) (λ q. refl)
      (λ q fit. record { id = fit.0; machine = fit.1.1.0; node = fit.1.1.1.0; routes = fit.1.1.1.1.1.0; tags = fit.1.1.1.1.1.1.0; expiry = fit.1.1.1.1.1.1.1.1.0; made = fit.1.1.1.1.1.1.1.1.1.0 });
})

pub returns-in-None : goal.returns-in-None
returns-in-None c = record {
  exact = columns_none pending_cells IsTypedPending _ _ c.args.given.now
      (λ (x : Pending). record { 0 = x.id; 1 = record { 0 = x.text; 1 = record { 0 = x.machine; 1 = record { 0 = x.node; 1 = record { 0 = x.host; 1 = record { 0 = x.routes; 1 = record { 0 = x.tags; 1 = record { 0 = x.ephemeral; 1 = record { 0 = x.expiry; 1 = record { 0 = x.made; 1 = record {} } } } } } } } } } })
      (λ x. refl) (λ x fit. (fit.id, (tt, (fit.machine, (fit.node, (tt, (fit.routes, (fit.tags, (tt, (fit.expiry, (fit.made, tt))))))))))) (rw c.in-None.is at c.in_ok-columns.ensures.exact);
}
