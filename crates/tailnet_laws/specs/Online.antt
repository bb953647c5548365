-- Which machines are online.
use Rattle.std.specs.Prelude.{◌≡◌, ℕ, true, is_some}
use Rattle.desk_state.specs.Sessions.{is_attached, session_of}
use Rattle.desk_state.specs.State.{State, is_online, presence_of}

-- A machine is online exactly while a poll holds its session, and what a poll holds is a session.
pub record AreOnlineByPolls (s : State) : Type 0 where
  pub online : (id : ℕ) → is_online (presence_of s.presence id) ≡ is_attached s.attached id
  pub held : (id : ℕ) → is_attached s.attached id ≡ true → is_some (session_of s.sessions id) ≡ true
