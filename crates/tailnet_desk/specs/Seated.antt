-- What contracts see of a desk, and what its objects tell.
use Rattle.std.specs.Prelude.{◌≡◌, ℕ, List, Option}
use Rattle.io_edge.specs.Edge.{IsWhereTold}
use Rattle.net_rows.specs.declared.rows.Rows.{Rows}
use Rattle.policy_rows.specs.declared.policy.Policy.{Policy}
use Rattle.desk_state.specs.State.{State}
use Rattle.desk_state.specs.declared.session.Session.{Session}
use Rattle.policy_asks.specs.Kept.{policy_in}
use Rattle.tailnet_desk.specs.Sessions.{KeepSessionRules}

-- the state of the Tailnet machine, and who keeps its tables
pub record Seated (K : Type 0) : Type 0 where
  pub state : State
  pub keeper : K

-- The policy in force is that of the tables.
abbrev pub IsInForce : Rows → Option Policy → Type 0
IsInForce rows policy = policy ≡ policy_in rows

-- What a desk holds: its keeper has its rows, where it tells them, their policy is in force, and its sessions keep their
-- rules.
pub record IsHeld (rows : Rows) (policy : Option Policy) (told : Option Rows) (base : List ℕ) (next : ℕ) (held : List Session) : Type 0 where
  pub kept : IsWhereTold rows told
  pub in_force : IsInForce rows policy
  pub sessions : KeepSessionRules base next held

-- what is known of a keeper: its rows, if it tells them, how often a call has failed, and how often it was called
pub record Keeping : Type 0 where
  pub told : Option Rows
  pub faults : ℕ
  pub calls : ℕ

-- the state of the Tailnet machine, and what is known of its keeper
pub record Point : Type 0 where
  pub state : State
  pub keeping : Keeping

abbrev pub keeping_of : {K : Type 0} → (K → Option Rows) → (K → ℕ) → (K → ℕ) → K → Keeping
keeping_of told faults calls k = record { told = told k; faults = faults k; calls = calls k }

abbrev pub point_of : {K : Type 0} → (K → Option Rows) → (K → ℕ) → (K → ℕ) → Seated K → Point
point_of told faults calls desk = record { state = desk.state; keeping = keeping_of told faults calls desk.keeper }
