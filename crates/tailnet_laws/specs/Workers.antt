-- How many polls may wait.
use Rattle.std.specs.Prelude.{◌≤◌, ◌-◌, ℕ, filter, length}
use Rattle.net_rows.specs.Shelf.{IsAscending}
use Rattle.desk_state.specs.State.{State}
use Rattle.desk_state.specs.declared.session.Attachment.{Attachment}

-- how many polls that hold a session may wait
abbrev pub waiting_polls : State → ℕ
waiting_polls s = length (filter (λ (a : Attachment). a.may_wait) s.attached)

-- Attachments rise by the ids of their machines, and fewer polls may wait than the settings have workers.
pub record LeaveWorker (s : State) : Type 0 where
  pub rise : IsAscending (λ (a : Attachment). a.id) s.attached
  pub few : waiting_polls s ≤ s.settings.workers - 1
