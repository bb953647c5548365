-- The first user and key.
use Rattle.std.specs.Prelude.{◌+◌, ℕ, Bool, true, false, List, [], ◌∷◌, None, Result, Ok, length, codes, nat_lt, not, ◌||◌, nat_eq, if◌then◌else◌}
use Rattle.std.specs.List.{starts_with}
use Rattle.net_rows.specs.Room.{has_room}
use Rattle.net_rows.specs.declared.change.Kind.TheVariants as kind
use Rattle.net_rows.specs.declared.rows.Rows.{Rows}
use Rattle.net_rows.specs.declared.user.User.{User}
use Rattle.net_rows.specs.declared.key.AuthKey.{AuthKey}
use Rattle.net_rows.specs.declared.change.Change.{Change}
use Rattle.net_rows.specs.declared.change.Row.TheVariants as row
use Rattle.desk_state.specs.State.{State}
use Rattle.tail_base.specs.Steps.{◌>>=◌, refuse_if}
use Rattle.desk_state.specs.Decisions.{changing, only}
use Rattle.desk_state.specs.declared.refusal.Refusal.{Refusal}
use Rattle.desk_state.specs.declared.refusal.Refusal.TheVariants.{Full}
use Rattle.desk_state.specs.declared.refusal.Scarce.TheVariants as scarce
use Rattle.desk_state.specs.declared.decision.Decision.{Decision}

-- tables with users, and texts of the server's own keys, stay as they are
abbrev pub is_past_seed : Rows → List ℕ → Bool
is_past_seed rows text = nat_lt 0 (length rows.users) || starts_with nat_eq text (codes "tnkey-")

-- the first user
abbrev pub seed_user : Rows → User
seed_user rows = record { id = rows.next.user; login = codes "seed@" }

-- a reusable key of that user with this text
abbrev pub seed_key : Rows → List ℕ → AuthKey
seed_key rows text = record {
  id = rows.next.key;
  text = text;
  user = rows.next.user;
  reusable = true;
  ephemeral = false;
  used = false;
  expiry = None;
  tags = [];
}

-- both are put, under the next ids
abbrev pub seed_change : Rows → List ℕ → Change
seed_change rows text = record {
  puts = row.User (seed_user rows) ∷ row.Key (seed_key rows text) ∷ [];
  gone = [];
  next = record rows.next { user = rows.next.user + 1; key = rows.next.key + 1 };
}

-- the outcome of a seed with this text
abbrev pub seed : State → List ℕ → Result (Decision (Unit {0})) Refusal
seed s text =
    if is_past_seed s.rows text then Ok (only tt)
    else do
      user ← refuse_if (not (has_room s.rows kind.User)) (Full scarce.User)
      key ← refuse_if (not (has_room s.rows kind.Key)) (Full scarce.Key)
      Ok (changing (seed_change s.rows text) tt)
