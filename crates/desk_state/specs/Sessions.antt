-- Sessions of machines.
use Rattle.std.specs.Prelude.{ℕ, Bool, List, Option, is_some}
use Rattle.net_rows.specs.Shelf.{row_at}
use Rattle.desk_state.specs.declared.session.Attachment.{Attachment}
use Rattle.desk_state.specs.declared.session.Session.{Session}

-- the session of the machine of an id
abbrev pub session_of : List Session → ℕ → Option Session
session_of sessions id = row_at (λ (x : Session). x.id) sessions id

-- a poll holds the session of the machine of an id
abbrev pub is_attached : List Attachment → ℕ → Bool
is_attached attached id = is_some (row_at (λ (a : Attachment). a.id) attached id)
