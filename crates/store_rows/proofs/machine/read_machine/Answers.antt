use Rattle.std.proofs.Common.{refl}
use Rattle.net_rows.specs.declared.machine.Machine.{Machine}
use Rattle.store_rows.specs.Rows.{IsTypedMachine, machine_cells}
use Rattle.store_rows.proofs.ReadLemmas.{columns_none, columns_some}
use Rattle.store_rows.proofs.machine.read_machine.Goals as goal

pub returns-in-Some : goal.returns-in-Some
returns-in-Some c = rw c.of_columns.ensures.value (record {
  exact = columns_some machine_cells IsTypedMachine _ _ c.args.given.now c.in-Some.columns (rw c.in-Some.is at c.in_ok-columns.ensures.exact)
      (λ (x : Machine). record { 0 = x.id; 1 = record { 0 = x.user; 1 = record { 0 = x.machine; 1 = record { 0 = x.node; 1 = record { 0 = x.disco; 1 = record { 0 = x.host; 1 = record { 0 = x.name; 1 = record { 0 = record { 0 = x.v4 }; 1 = record { 0 = record { 0 = x.v6 }; 1 = record { 0 = x.endpoints; 1 = record { 0 = x.derp; 1 = record { 0 = x.routes; 1 = record { 0 = x.approved; 1 = record { 0 = x.tags; 1 = record { 0 = x.ephemeral; 1 = record { 0 = x.expiry; 1 = record { 0 = x.created; 1 = record {} } } } } } } } } } } } } } } } } })
      (λ q. record { id = q.0; user = q.1.0; machine = q.1.1.0; node = q.1.1.1.0; disco = q.1.1.1.1.0; host = q.1.1.1.1.1.0; name = q.1.1.1.1.1.1.0; v4 = q.1.1.1.1.1.1.1.0.0; v6 = q.1.1.1.1.1.1.1.1.0.0; endpoints = q.1.1.1.1.1.1.1.1.1.0; derp = q.1.1.1.1.1.1.1.1.1.1.0; routes = q.1.1.1.1.1.1.1.1.1.1.1.0; approved = q.1.1.1.1.1.1.1.1.1.1.1.1.0; tags = q.1.1.1.1.1.1.1.1.1.1.1.1.1.0; ephemeral = q.1.1.1.1.1.1.1.1.1.1.1.1.1.1.0; expiry = q.1.1.1.1.1.1.1.1.1.1.1.1.1.1.1.0; created = q.1.1.1.1.1.1.1.1.1.1.1.1.1.1.1.1.0 })
      (λ x. refl) (λ x fit. (fit.id, (fit.user, (fit.machine, (fit.node, (fit.disco, (tt, (fit.name, (fit.v4, (fit.v6, (fit.endpoints, (fit.derp, (fit.routes, (fit.approved, (fit.tags, (tt, (fit.expiry, (fit.created, tt)))))))))))))))))) (λ x. refl) (λ q. refl)
      (λ q fit. record { id = fit.0; user = fit.1.0; machine = fit.1.1.0; node = fit.1.1.1.0; disco = fit.1.1.1.1.0; name = fit.1.1.1.1.1.1.0; v4 = fit.1.1.1.1.1.1.1.0; v6 = fit.1.1.1.1.1.1.1.1.0; endpoints = fit.1.1.1.1.1.1.1.1.1.0; derp = fit.1.1.1.1.1.1.1.1.1.1.0; routes = fit.1.1.1.1.1.1.1.1.1.1.1.0; approved = fit.1.1.1.1.1.1.1.1.1.1.1.1.0; tags = fit.1.1.1.1.1.1.1.1.1.1.1.1.1.0; expiry = fit.1.1.1.1.1.1.1.1.1.1.1.1.1.1.1.0; created = fit.1.1.1.1.1.1.1.1.1.1.1.1.1.1.1.1.0 });
})

pub returns-in-None : goal.returns-in-None
returns-in-None c = record {
  exact = columns_none machine_cells IsTypedMachine _ _ c.args.given.now
      (λ (x : Machine). record { 0 = x.id; 1 = record { 0 = x.user; 1 = record { 0 = x.machine; 1 = record { 0 = x.node; 1 = record { 0 = x.disco; 1 = record { 0 = x.host; 1 = record { 0 = x.name; 1 = record { 0 = record { 0 = x.v4 }; 1 = record { 0 = record { 0 = x.v6 }; 1 = record { 0 = x.endpoints; 1 = record { 0 = x.derp; 1 = record { 0 = x.routes; 1 = record { 0 = x.approved; 1 = record { 0 = x.tags; 1 = record { 0 = x.ephemeral; 1 = record { 0 = x.expiry; 1 = record { 0 = x.created; 1 = record {} } } } } } } } } } } } } } } } } })
      (λ x. refl) (λ x fit. (fit.id, (fit.user, (fit.machine, (fit.node, (fit.disco, (tt, (fit.name, (fit.v4, (fit.v6, (fit.endpoints, (fit.derp, (fit.routes, (fit.approved, (fit.tags, (tt, (fit.expiry, (fit.created, tt)))))))))))))))))) (rw c.in-None.is at c.in_ok-columns.ensures.exact);
}
