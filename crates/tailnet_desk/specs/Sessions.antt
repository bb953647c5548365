-- Sessions that keep their rules, and the maps that were sent in them.
use Rattle.std.specs.Prelude.{◌≡◌, ◌<◌, ◌≤◌, ◌^◌, ℕ, false, List, Option, Some, None, option_and_then}
use Rattle.std.specs.List.{find}
use Rattle.std.specs.Str.{bytes_eq}
use Rattle.net_rows.specs.Shelf.{IsAscending}
use Rattle.fresh_maps.specs.InOrder.{IsInOrder}
use Rattle.fresh_maps.specs.declared.view.View.{View}
use Rattle.desk_state.specs.Sessions.{session_of}
use Rattle.desk_state.specs.State.{State}
use Rattle.desk_state.specs.Texts.{session_handle}
use Rattle.desk_state.specs.declared.session.Session.{Session}
use Rattle.tailnet_desk.specs.declared.reply.Reply.{Reply}
use Rattle.tailnet_desk.specs.declared.reply.Reply.TheVariants.{Attached, Detached, Done, Ended, Frames, Lost, Refused}

-- a handle that was given, with a number below the next one
pub record IsGiven (next : ℕ) (handle : List ℕ) : Type 0 where
  pub number : ℕ
  pub words : List ℕ
  pub below : number < next
  pub small : number < 2 ^ 63
  pub is : handle ≡ session_handle number words

-- Under a domain and a number that is next: sessions rise by the ids of their machines, each has a handle that was given,
-- no two have the same, the map that was sent is in order and of the domain, and where none was sent the last number is 0.
pub record KeepSessionRules (base : List ℕ) (next : ℕ) (sessions : List Session) : Type 0 where
  pub rise : IsAscending (λ (x : Session). x.id) sessions
  pub given : (k : ℕ) (x : Session) → session_of sessions k ≡ Some x → IsGiven next x.handle
  pub apart : (j k : ℕ) (x y : Session) → session_of sessions j ≡ Some x → session_of sessions k ≡ Some y
      → x.handle ≡ y.handle → j ≡ k
  pub order : (k : ℕ) (x : Session) (map : View) → session_of sessions k ≡ Some x → x.sent ≡ Some map → IsInOrder map
  pub domain : (k : ℕ) (x : Session) (map : View) → session_of sessions k ≡ Some x → x.sent ≡ Some map → map.domain ≡ base
  pub unsent : (k : ℕ) (x : Session) → session_of sessions k ≡ Some x → x.sent ≡ None → x.seq ≡ 0

-- the sessions of a state keep these rules under its domain
abbrev pub AreSoundSessions : State → Type 0
AreSoundSessions s = KeepSessionRules s.settings.base_domain s.next_session s.sessions

-- the reply begins a session under this handle
abbrev pub IsBegunUnder : List ℕ → Reply → Type 0
IsBegunUnder handle (Done answer) = ⊥
IsBegunUnder handle (Attached other seq resumed may_wait) = (other ≡ handle) × (resumed ≡ false)
IsBegunUnder handle (Frames responses) = ⊥
IsBegunUnder handle Ended = ⊥
IsBegunUnder handle Detached = ⊥
IsBegunUnder handle (Refused refusal) = ⊥
IsBegunUnder handle (Lost loss) = ⊥

-- the map that was sent in the session of a handle; none where there is no such session
abbrev pub sent_to : List Session → List ℕ → Option View
sent_to sessions handle =
    option_and_then (λ (x : Session). x.sent) (find (λ (x : Session). bytes_eq x.handle handle) sessions)

-- The clients of sessions have the maps that were sent to them, and nobody has one under a handle that is still to be
-- given.
pub record AreHeld (s : State) (views : List ℕ → Option View) : Type 0 where
  pub sent : (k : ℕ) (x : Session) → session_of s.sessions k ≡ Some x → views x.handle ≡ x.sent
  pub coming : (number : ℕ) (words : List ℕ) → s.next_session ≤ number → number < 2 ^ 63
      → views (session_handle number words) ≡ None
