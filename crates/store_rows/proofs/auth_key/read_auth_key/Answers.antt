use Rattle.std.proofs.Common.{refl}
use Rattle.net_rows.specs.declared.key.AuthKey.{AuthKey}
use Rattle.store_rows.specs.Rows.{IsTypedKey, auth_key_cells}
use Rattle.store_rows.proofs.ReadLemmas.{columns_none, columns_some}
use Rattle.store_rows.proofs.auth_key.read_auth_key.Goals as goal

pub returns-in-Some : goal.returns-in-Some
returns-in-Some c = rw c.of_columns.ensures.value (record {
  exact = columns_some auth_key_cells IsTypedKey _ _ c.args.given.now c.in-Some.columns (rw c.in-Some.is at c.in_ok-columns.ensures.exact)
      (λ (x : AuthKey). record { 0 = x.id; 1 = record { 0 = x.text; 1 = record { 0 = x.user; 1 = record { 0 = x.reusable; 1 = record { 0 = x.ephemeral; 1 = record { 0 = x.used; 1 = record { 0 = x.expiry; 1 = record { 0 = x.tags; 1 = record {} } } } } } } } })
      (λ q. record { id = q.0; text = q.1.0; user = q.1.1.0; reusable = q.1.1.1.0; ephemeral = q.1.1.1.1.0; used = q.1.1.1.1.1.0; expiry = q.1.1.1.1.1.1.0; tags = q.1.1.1.1.1.1.1.0 })
      (λ x. refl) (λ x fit. (fit.id, (tt, (fit.user, (tt, (tt, (tt, (fit.expiry, (fit.tags, tt))))))))) (λ x. refl) (λ q. refl)
      (λ q fit. record { id = fit.0; user = fit.1.1.0; expiry = fit.1.1.1.1.1.1.0; tags = fit.1.1.1.1.1.1.1.0 });
})

pub returns-in-None : goal.returns-in-None
returns-in-None c = record {
  exact = columns_none auth_key_cells IsTypedKey _ _ c.args.given.now
      (λ (x : AuthKey). record { 0 = x.id; 1 = record { 0 = x.text; 1 = record { 0 = x.user; 1 = record { 0 = x.reusable; 1 = record { 0 = x.ephemeral; 1 = record { 0 = x.used; 1 = record { 0 = x.expiry; 1 = record { 0 = x.tags; 1 = record {} } } } } } } } })
      (λ x. refl) (λ x fit. (fit.id, (tt, (fit.user, (tt, (tt, (tt, (fit.expiry, (fit.tags, tt))))))))) (rw c.in-None.is at c.in_ok-columns.ensures.exact);
}
