-- What each request of a load asks, and when it comes.
use Rattle.std.specs.Prelude.{ℕ, ℤ, pos, ◌+◌, ◌-◌, ◌*◌, ◌%◌, ◌&&◌, ◌==◌, Bool, min, nat_le, nat_lt, if◌then◌else◌}
use Rattle.load_run.specs.Draws.{next_source, number_drawn}
use Rattle.load_run.specs.declared.task.LoadPlan.{LoadPlan}
use Rattle.load_run.specs.declared.task.PolicyChoice.{PolicyChoice}
use Rattle.load_run.specs.declared.task.PolicyChoice.TheVariants as choice
use Rattle.load_run.specs.declared.task.Task.{Task}
use Rattle.load_run.specs.declared.task.TaskKind.{TaskKind}
use Rattle.load_run.specs.declared.task.TaskKind.TheVariants as kind

-- how many requests there are: a registration and a last poll of each machine, and the events
abbrev pub request_count : LoadPlan → ℕ
request_count plan = 2 * plan.machines + plan.events

-- whether the request of this number, counted from 0, is an event that is drawn
abbrev pub is_drawn : LoadPlan → ℕ → Bool
is_drawn plan number = nat_le plan.machines number && nat_lt number (plan.machines + plan.events)

abbrev pub choice_of : ℕ → PolicyChoice
choice_of value = if value % 3 == 0 then choice.Open else if value % 3 == 1 then choice.Closed else choice.First

-- the kind of an event, by its first and its third draw
abbrev pub kind_of : ℕ → ℕ → TaskKind
kind_of first value =
    if first % 6 == 0 then kind.Point (value % 256)
    else if first % 6 == 1 then kind.Poll
    else if first % 6 == 2 then kind.Save (choice_of value)
    else if first % 6 == 3 then kind.Announce (value % 256)
    else if first % 6 == 4 then kind.Approve
    else kind.Rename (value % 1000)

-- the event of three draws: its kind, its machine, and a value
abbrev pub drawn_task : LoadPlan → ℕ → Task
drawn_task plan source =
    let first = next_source source in
    let second = next_source first in
    let third = next_source second in
    record { machine = number_drawn second % plan.machines + 1; kind = kind_of (number_drawn first) (number_drawn third) }

-- What the request of this number asks: first each machine registers, then come the events, and at last each machine polls.
unfoldable pub task_at : LoadPlan → ℕ → ℕ → Task
task_at plan number source =
    if is_drawn plan number then drawn_task plan source
    else if nat_lt number plan.machines then record { machine = number + 1; kind = kind.Register }
    else record { machine = number - plan.machines - plan.events + 1; kind = kind.Poll }

-- the source behind it: an event takes three draws
unfoldable pub source_after : LoadPlan → ℕ → ℕ → ℕ
source_after plan number source = if is_drawn plan number then next_source (next_source (next_source source)) else source

-- how many events have come with it
abbrev pub events_by : LoadPlan → ℕ → ℕ
events_by plan number = if nat_lt number plan.machines then 0 else min (number - plan.machines + 1) plan.events

-- its moment: each event comes a second after the one before, and the last polls with the last event
unfoldable pub moment_at : LoadPlan → ℕ → ℤ
moment_at plan number = pos (1000000000 + events_by plan number)
