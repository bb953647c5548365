-- What a crash may leave behind a history at a desk.
use Rattle.std.specs.Prelude.{◌≡◌, ◌⊎◌, List, [], ◌∷◌, Option, Some, ⊤}
use Rattle.net_rows.specs.declared.rows.Rows.{Rows}
use Rattle.desk_state.specs.State.{State}
use Rattle.keeper_sqlite.specs.Left.{rows_left}
use Rattle.sqlite.specs.State.{State as StoreState}
use Rattle.sqlite_trees.specs.Tree.{Trees}
use Rattle.tailnet_desk.specs.Chains.{Turned}
use Rattle.tailnet_desk.specs.Crashes.{IsLost}
use Rattle.tailnet_desk.specs.History.{state_after}
use Rattle.tailnet_desk.specs.Step.{step}
use Rattle.tailnet_desk.specs.declared.entry.Event.{Event}

-- A crash leaves these rows, and nothing else.
abbrev pub LeavesAlone : (Option Rows → Type 0) → Rows → Type 0
LeavesAlone may rows = (found : Option Rows) → may found → found ≡ Some rows

-- In each of the trees that a crash of the store may leave these rows are found.
abbrev pub LeaveTheRows : StoreState → Rows → Type 0
LeaveTheRows s rows = (trees : Trees) → s.may_leave trees → rows_left trees ≡ Some rows

-- no ask was lost
abbrev pub NoneIsLost : List Turned → Type 0
NoneIsLost [] = ⊤
NoneIsLost (x ∷ xs) = (IsLost x.reply → ⊥) × NoneIsLost xs

-- no turn changed rows
abbrev pub LeaveRows : State → List Turned → Type 0
LeaveRows s [] = ⊤
LeaveRows s (x ∷ xs) = ((state_after s x.event x.reply).rows ≡ s.rows) × LeaveRows (state_after s x.event x.reply) xs

-- the rows that an ask would have made that was lost, and behind which none changed rows
abbrev pub WouldHaveMade : State → List Turned → Rows → Type 0
WouldHaveMade s [] rows = ⊥
WouldHaveMade s (x ∷ xs) rows =
    (IsLost x.reply × (rows ≡ (step s x.event).state.rows) × LeaveRows (state_after s x.event x.reply) xs) ⊎ WouldHaveMade (state_after s x.event x.reply) xs rows

-- What a crash may leave behind these turns, whatever it might have left before them: that, if none changed rows; the rows
-- of the last state; or those that a lost ask would have made, if none changed rows behind it.
abbrev pub MayBeLeft : (Option Rows → Type 0) → State → List Turned → Rows → Option Rows → Type 0
MayBeLeft before s turns last found =
    (before found × LeaveRows s turns) ⊎ ((found ≡ Some last) ⊎ ((rows : Rows) × WouldHaveMade s turns rows × (found ≡ Some rows)))
