use Rattle.std.proofs.Common.{sym, ap, ◌∙◌, ◌+◌}
use Rattle.std.proofs.lemmas.List.{take_rest}
use Rattle.tail_base.specs.Logins.{is_login_domain}
use Rattle.tail_base.proofs.LoginLemmas.{login_of_user, login_of_no_user, login_none}
use Rattle.tail_base.proofs.login.is_login.Goals as goal

pub returns-then-is_user : goal.returns-then-is_user
returns-then-is_user c =
    let place = sym c.place_of_at.ensures.value ∙ c.in-Some.is in
    let user = sym c.is_user.ensures.value ∙ c.if-is_user.true in
    record { value = c.is_login_domain.ensures.value ∙ ap is_login_domain (take_rest c.args.text.now (c.in-Some.at + 1)) ∙ sym (login_of_user c.args.text.now c.in-Some.at place user) }

pub returns-else-is_user : goal.returns-else-is_user
returns-else-is_user c =
    let place = sym c.place_of_at.ensures.value ∙ c.in-Some.is in
    let other = sym c.is_user.ensures.value ∙ c.if-is_user.false in
    record { value = c.if-is_user.false ∙ sym (login_of_no_user c.args.text.now c.in-Some.at place other) }

pub returns-in-None : goal.returns-in-None
returns-in-None c = record { value = sym (login_none c.args.text.now (sym c.place_of_at.ensures.value ∙ c.in-None.is)) }
