use Rattle.std.proofs.Common.{refl}
use Rattle.net_rows.specs.declared.user.User.{User}
use Rattle.store_rows.specs.Rows.{IsTypedUser, user_cells}
use Rattle.store_rows.proofs.ReadLemmas.{columns_none}
use Rattle.store_rows.proofs.user.read_user.Goals as goal

pub returns-in-None : goal.returns-in-None
returns-in-None c = record {
  exact = columns_none user_cells IsTypedUser _ _ c.args.given.now (λ (u : User). record { 0 = u.id; 1 = record { 0 = u.login; 1 = record {} } })
      (λ u. refl) (λ u fit. (fit.id, (fit.login, tt))) (rw c.in-None.is at c.in_ok-id.ensures.exact);
}
