use Rattle.std.proofs.Common.{◌≡◌, true, ℕ, List, sym, ◌∙◌}
use Rattle.tail_base.specs.Logins.{is_login, login_of}
use Rattle.tail_base.proofs.LoginLemmas.{login_again}
use Rattle.store_rows.proofs.ReadLemmas.{guess_none, guess_refused}
use Rattle.store_rows.proofs.names.read_login.Goals as goal

abbrev itself : List ℕ → List ℕ
itself login = login

abbrev Login : List ℕ → Type 0
Login login = is_login login ≡ true

pub returns-in_default : goal.returns-in_default
returns-in_default c = record {
  exact = guess_none itself Login login_of c.args.text.now login_again (sym c.in_ok-login.ensures.value ∙ c.in_default.is);
}

pub returns-else-is_same : goal.returns-else-is_same
returns-else-is_same c = record {
  exact = guess_refused itself Login login_of c.args.text.now c.in-Some.login c.is_same.result login_again
      (sym c.in_ok-login.ensures.value ∙ c.in-Some.is) (rw c.as_slice.ensures.value at c.is_same.ensures.value) c.if-is_same.false;
}
