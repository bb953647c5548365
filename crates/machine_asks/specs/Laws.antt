-- What laws speak of.
use Rattle.std.specs.Prelude.{◌≡◌, true, None, Contains}
use Rattle.net_rows.specs.Damage.{damage}
use Rattle.net_rows.specs.declared.machine.Machine.{Machine}
use Rattle.tailcfg.specs.declared.register.Register.{Register}
use Rattle.desk_state.specs.State.{State, is_ahead, is_live}

-- A live machine of sound tables registers again with the node key that it has, and doesn't log out.
pub record IsRepeat (s : State) (m : Machine) (form : Register) : Type 0 where
  pub sound : damage s.rows ≡ None
  pub row : Contains s.rows.machines m
  pub live : is_live s m ≡ true
  pub node : m.node ≡ form.node
  pub stays : is_ahead s.now form.expiry ≡ true
