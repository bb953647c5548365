-- What a decision says, what it leaves of the rows, and what is owed of it.
use Rattle.std.specs.Prelude.{◌≡◌, ◌≢◌, ◌≤◌, [], Option, Some, None, Result, Ok}
use Rattle.net_rows.specs.Damage.{damage}
use Rattle.net_rows.specs.Rows.{after}
use Rattle.net_rows.specs.declared.change.Change.{Change}
use Rattle.net_rows.specs.declared.change.Counters.{Counters}
use Rattle.net_rows.specs.declared.rows.Rows.{Rows}
use Rattle.desk_state.specs.declared.decision.Decision.{Decision}
use Rattle.desk_state.specs.declared.refusal.Refusal.{Refusal}

-- an answer alone
abbrev pub only : {A : Type 0} → A → Decision A
only answer = record { change = None; policy = None; offline = []; ended = []; answer = answer }

-- a change of rows and an answer
abbrev pub changing : {A : Type 0} → Change → A → Decision A
changing change answer = record { change = Some change; policy = None; offline = []; ended = []; answer = answer }

-- the same decision with another answer
abbrev pub with_answer : {A B : Type 0} → Decision A → B → Decision B
with_answer d answer = record {
  change = d.change;
  policy = d.policy;
  offline = d.offline;
  ended = d.ended;
  answer = answer;
}

-- the same decision with the answer as another layer has it
abbrev pub answered : {A B : Type 0} → (A → B) → Decision A → Decision B
answered view d = with_answer d (view d.answer)

-- the rows after a change, or as they are
abbrev pub rows_after : Rows → Option Change → Rows
rows_after rows None = rows
rows_after rows (Some change) = after rows change

-- no counter falls, so that no id is given twice
pub record IsNoLess (old new : Counters) : Type 0 where
  pub user : old.user ≤ new.user
  pub key : old.key ≤ new.key
  pub pending : old.pending ≤ new.pending
  pub machine : old.machine ≤ new.machine

-- A change keeps the rules of the tables, changes rows, and lets no counter fall.
pub record IsSoundChange (rows : Rows) (change : Change) : Type 0 where
  pub sound : damage (after rows change) ≡ None
  pub differs : after rows change ≢ rows
  pub rises : IsNoLess rows.next change.next

-- A decision is sound on these rows: its change, if any, is a sound one, and unless it puts a policy in
-- force, the text of the policy stays.
pub record IsSoundDecision {A : Type 0} (rows : Rows) (d : Decision A) : Type 0 where
  pub change : (change : Change) → d.change ≡ Some change → IsSoundChange rows change
  pub text : d.policy ≡ None → (rows_after rows d.change).policy ≡ rows.policy

-- what is decided, if it isn't refused, is sound
abbrev pub IsSound : {A : Type 0} → Rows → Result (Decision A) Refusal → Type 0
IsSound {A} rows decided = (d : Decision A) → decided ≡ Ok d → IsSoundDecision rows d

-- What is decided, if it isn't refused, is sound and leaves the policy in force.
pub record IsPlain {A : Type 0} (rows : Rows) (decided : Result (Decision A) Refusal) : Type 0 where
  pub sound : IsSound rows decided
  pub policy : (d : Decision A) → decided ≡ Ok d → d.policy ≡ None
