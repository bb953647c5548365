-- A machine registers with a pre-auth key.
use Rattle.std.specs.Prelude.{ℕ, ℤ, Bool, false, List, [], ◌∷◌, ◌++◌, Option, Some, None, Result, Ok, not, ◌&&◌, ◌||◌, if◌then◌else◌}
use Rattle.std.specs.Cmp.Lexicographic.{slice_cmp}
use Rattle.std.specs.Option.{is_none}
use Rattle.std.specs.Ordering.{nat_cmp}
use Rattle.tail_base.specs.declared.key.MachineKey.{MachineKey}
use Rattle.tail_base.specs.Sorted.{sorted_once}
use Rattle.tail_base.specs.Steps.{◌>>=◌, refuse_if, or_fault}
use Rattle.net_rows.specs.Rows.{key_of, pending_of}
use Rattle.net_rows.specs.declared.change.Change.{Change}
use Rattle.net_rows.specs.declared.key.AuthKey.{AuthKey}
use Rattle.net_rows.specs.declared.machine.Machine.{Machine}
use Rattle.net_rows.specs.declared.pending.Pending.{Pending}
use Rattle.tailcfg.specs.declared.register.Register.{Register}
use Rattle.fresh_maps.specs.Profiles.{profile_of}
use Rattle.desk_state.specs.State.{State, is_ahead}
use Rattle.desk_state.specs.Tags.{tags_granted}
use Rattle.desk_state.specs.declared.decision.Decision.{Decision}
use Rattle.desk_state.specs.declared.refusal.Refusal.{Refusal}
use Rattle.desk_state.specs.declared.refusal.Refusal.TheVariants.{KeyUnknown, KeyExpired, KeyUsed}
use Rattle.desk_state.specs.Rows.{expiry_of, machine_row, place_for, row_change}
use Rattle.desk_state.specs.Same.{same_row}
use Rattle.desk_state.specs.declared.entrant.Entrant.{Entrant}
use Rattle.machine_asks.specs.declared.answer.MachineAnswer.{MachineAnswer}
use Rattle.machine_asks.specs.declared.answer.MachineAnswer.TheVariants.{Registered}

-- the pre-auth key of that text, if it may be used
abbrev pub usable_key : State → List ℕ → Result AuthKey Refusal
usable_key s text = do
  key ← or_fault KeyUnknown (key_of s.rows.keys text)
  timely ← refuse_if (not (is_ahead s.now key.expiry)) KeyExpired
  unused ← refuse_if (key.used && not key.reusable) KeyUsed
  Ok key

-- the key's tags and the requested ones, in order and each once
abbrev pub all_tags : AuthKey → Register → List (List ℕ)
all_tags key form = sorted_once (slice_cmp nat_cmp) (key.tags ++ form.tags)

-- who enters by this key
abbrev pub entrant_of_key : State → Register → AuthKey → Entrant
entrant_of_key s form key = record {
  node = form.node;
  user = key.user;
  host = form.host;
  routes = form.routes;
  tags = all_tags key form;
  ephemeral = key.ephemeral || form.ephemeral;
  expiry = expiry_of s form.expiry (all_tags key form);
}

-- nothing changes: the renewed row is as it was, the key is used already, and the machine has no pending entry
abbrev pub changes_nothing : Option Machine → Machine → AuthKey → Option Pending → Bool
changes_nothing None r key pending = false
changes_nothing (Some m) r key pending = same_row m r && key.used && is_none pending

-- the row is put, the key counts as used, and the machine's pending entry goes; unless nothing changes
abbrev pub change_by_key : State → Option Machine → Machine → ℕ → AuthKey → Option Change
change_by_key s held r next key =
    if changes_nothing held r key (pending_of s.rows.pending r.machine.0) then None
    else Some (row_change s.rows r next (Some key) (pending_of s.rows.pending r.machine.0))

-- the answer: for whom the machine is registered, and whether its node key has expired already
abbrev pub registered : State → ℕ → Option ℤ → MachineAnswer
registered s user expiry = Registered (profile_of s.rows.users user) (not (is_ahead s.now expiry))

-- the machine is offline from now on, also if nothing changes
abbrev pub admitted_by_key : State → Option Machine → Machine → ℕ → AuthKey → Decision MachineAnswer
admitted_by_key s held r next key = record {
  change = change_by_key s held r next key;
  policy = None;
  offline = r.id ∷ [];
  ended = [];
  answer = registered s r.user r.expiry;
}

-- by a key: the row is made or renewed
abbrev pub by_key : State → MachineKey → Register → Option Machine → Result (Decision MachineAnswer) Refusal
by_key s mk form held = do
  key ← usable_key s form.auth
  tags ← tags_granted s key.user form.tags
  place ← place_for s form.host held
  Ok (admitted_by_key s held (machine_row mk (entrant_of_key s form key) place) place.next key)
