-- States from which laws on histories can be applied.
use Rattle.settings.specs.Settings.{AreSettings}
use Rattle.net_rows.specs.Sound.{AreSound}
use Rattle.desk_state.specs.State.{State}
use Rattle.tailnet_desk.specs.Seated.{IsInForce}
use Rattle.tailnet_desk.specs.Sessions.{AreSoundSessions}

-- Settings, tables and sessions keep their rules, and the policy in force is that of the tables.
pub record IsSoundState (s : State) : Type 0 where
  pub settings : AreSettings s.settings
  pub rows : AreSound s.rows
  pub in_force : IsInForce s.rows s.policy
  pub sessions : AreSoundSessions s
