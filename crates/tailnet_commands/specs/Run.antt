-- A run of `pipe`.
use Rattle.std.specs.Prelude.{◌≡◌, ◌+◌, ◌⊎◌, ℕ, ℤ, Option, None, Some, List, [], ◌++◌, length, IfSome, IsSome}
use Rattle.std.specs.Option.{option_map}
use Rattle.net_addr.specs.Moments.{clamped}
use Rattle.io_edge.specs.Asked.{and_asked}
use Rattle.io_edge.specs.Edge.{Rose, RoseBy, IsWhereTold}
use Rattle.net_rows.specs.Sound.{AreSound}
use Rattle.net_rows.specs.declared.change.Kind.{Kind}
use Rattle.net_rows.specs.declared.rows.Rows.{Rows}
use Rattle.settings.specs.Settings.{AreSettings}
use Rattle.server_settings.specs.declared.file_settings.FileSettings.{FileSettings}
use Rattle.tailnet_desk.specs.Chains.{Chain, Turned, IsHistory}
use Rattle.tailnet_desk.specs.Opening.{opening, unread_policy}
use Rattle.tailnet_desk.specs.Seated.{IsInForce, Keeping, Point}
use Rattle.tailnet_desk.specs.Turns.{IsTurn}
use Rattle.tailnet_desk.specs.declared.desk.OpenFault.{OpenFault}
use Rattle.tailnet_desk.specs.declared.desk.OpenFault.TheVariants as fault
use Rattle.tailnet_laws.specs.Followed.{AreFollowed}
use Rattle.desk_front.specs.Wanted.{front_settings}
use Rattle.connections.specs.Exchanges.{turns_of}
use Rattle.connections.specs.Tellings.{MomentsTold, from_number}
use Rattle.tailnet_commands.specs.Outside.{Outside}
use Rattle.tailnet_commands.specs.Seeding.{IsSeeding, after_answers}
use Rattle.connections.specs.Connection.{IsConnection}
use Rattle.exit_status.specs.declared.closed.Closed.{Closed}
use Rattle.exit_status.specs.declared.ended.Ended.{Ended}
use Rattle.exit_status.specs.declared.ended.Ended.TheVariants as ended

-- nothing was read or written, no random words were drawn, and the opener's rows are as before
pub record Untouched (old new : Outside) : Type 0 where
  pub left : new.told.left ≡ old.told.left
  pub read_faults : new.told.read_faults ≡ old.told.read_faults
  pub held : new.told.giving.held ≡ old.told.giving.held
  pub write_faults : new.told.giving.write_faults ≡ old.told.giving.write_faults
  pub words : new.told.giving.words ≡ old.told.giving.words
  pub word_faults : new.told.giving.word_faults ≡ old.told.giving.word_faults
  pub rows : IfSome old.rows (λ rows. IsWhereTold rows new.rows)

-- of all but files and errors nothing was asked, the clock and the random source neither
pub record IsUnbegun (old new : Outside) : Type 0 where
  pub told : new.told ≡ old.told
  pub rows : new.rows ≡ old.rows
  pub asked : new.asked ≡ old.asked
  pub keeper_faults : new.keeper_faults ≡ old.keeper_faults

-- the opener was asked for nothing
abbrev pub IsUnasked : Outside → Outside → Type 0
IsUnasked old new = new.asked ≡ old.asked

-- the opener was asked once, for the database of the settings
abbrev pub IsAskedFor : FileSettings → Outside → Outside → Type 0
IsAskedFor settings old new = new.asked ≡ and_asked old.asked settings.server.database

-- rows, where they are told, aren't opened, and this damage is the cause
abbrev pub IsUnopened : Kind → ℕ → Option Rows → Type 0
IsUnopened kind id told = IfSome told (λ rows. unread_policy rows ≡ Some (record { kind = kind; id = id }))

-- A connection over a desk that was opened at the clock's first answer. Its tables keep their rules, at the beginning
-- and at the end.
pub record Conversation (closed : Closed) (settings : FileSettings) (seed : Option (List ℕ)) (old new : Outside) : Type 0 where
  pub rules : AreSettings settings.tailnet
  pub rows : Rows
  pub sound : AreSound rows
  pub asked : IsAskedFor settings old new
  -- a store whose disk lied tells no rows at the end, and what it loaded is no promise of the rows before
  pub rows_told : IsSome new.rows → IsWhereTold rows old.rows
  pub moment : ℤ
  pub moment_told : IsWhereTold moment (option_map clamped (old.told.giving.answers 0))
  -- what is known of the keeper after the load, and the state and the keeper at the end
  pub keeping : Keeping
  pub final : Point
  pub seeding : List Turned
  pub seeding_is : IsSeeding seed seeding
  pub seeding_moments : MomentsTold (from_number 1 old.told.giving.answers) seeding
  pub seeded : Point
  pub seeding_leads : Chain IsTurn (record { state = opening settings.tailnet rows moment; keeping = keeping }) seeding seeded
  -- no poll waits
  pub serves : IsConnection IsTurn (front_settings settings.server) 0 closed settings.server.requests [] (after_answers (1 + length seeding) old.told) new.told seeded final
  -- a legal history from the opening state: the seed, and the turns of the served requests
  pub history : IsHistory (record { state = opening settings.tailnet rows moment; keeping = keeping }) (seeding ++ turns_of serves.exchanges) final
  -- what the client of each session has folded after a drain is its machine's map, computed afresh, and the filter in it
  -- admits exactly what the policy in force grants
  pub followed : AreFollowed (opening settings.tailnet rows moment) (λ handle. None) history.entries
  -- the policy in force is the one that the tables keep
  pub in_force : IsInForce final.state.rows final.state.policy
  pub final_sound : AreSound final.state.rows
  pub final_rows : IsWhereTold final.state.rows new.rows
  pub rose : RoseBy final.keeping.faults old.keeper_faults new.keeper_faults

-- The outcome of a run over settings: a connection, or a fault before anything was read.
abbrev pub Ran : Ended → FileSettings → Option (List ℕ) → Outside → Outside → Type 0
Ran (ended.Closed closed) settings seed old new = Conversation closed settings seed old new
Ran (ended.Settings rule key) settings seed old new = ⊥
Ran ended.TooLarge settings seed old new = ⊥
Ran ended.FileFault settings seed old new = ⊥
Ran ended.KeeperFault settings seed old new = Untouched old new × IsAskedFor settings old new × Rose old.keeper_faults new.keeper_faults
Ran (ended.Damaged kind id) settings seed old new =
    Untouched old new × IsAskedFor settings old new × IsUnopened kind id new.rows
Ran ended.NoMemory settings seed old new = Untouched old new × (IsUnasked old new ⊎ IsAskedFor settings old new)

-- no connection was served
abbrev pub IsOpeningFault : Ended → Type 0
IsOpeningFault (ended.Closed closing) = ⊥
IsOpeningFault (ended.Settings rule key) = Unit {0}
IsOpeningFault ended.TooLarge = Unit {0}
IsOpeningFault ended.FileFault = Unit {0}
IsOpeningFault ended.KeeperFault = Unit {0}
IsOpeningFault (ended.Damaged kind id) = Unit {0}
IsOpeningFault ended.NoMemory = Unit {0}

-- how a run ends whose desk didn't open
abbrev pub IsFaultOf : OpenFault → Ended → Type 0
IsFaultOf fault.KeeperFault e = e ≡ ended.KeeperFault
IsFaultOf (fault.Damaged kind id) e = e ≡ ended.Damaged kind id
IsFaultOf fault.NoMemory e = e ≡ ended.NoMemory
