-- A run over settings.
use Rattle.std.proofs.Common.{◌≡◌, ◌+◌, ◌-◌, ℕ, ℤ, Option, None, Some, List, [], ◌++◌, length, ap, refl, sym, ◌∙◌, arith, subst}
use Rattle.std.specs.Prelude.{IfSome, IsSome}
use Rattle.std.specs.Option.{option_map}
use Rattle.net_addr.specs.Moments.{clamped}
use Rattle.io_edge.specs.Edge.{RoseBy, IsWhereTold, StillTells}
use Rattle.net_rows.specs.Damage.{damage}
use Rattle.net_rows.specs.Sound.{AreSound}
use Rattle.net_rows.proofs.Sounds.{sound_of}
use Rattle.settings.specs.Settings.{AreSettings}
use Rattle.server_settings.specs.declared.file_settings.FileSettings.{FileSettings}
use Rattle.tailnet_desk.specs.Chains.{Chain, IsHistory, Turned}
use Rattle.tailnet_desk.specs.Opening.{opening}
use Rattle.tailnet_desk.specs.Seated.{IsInForce, Keeping, Point}
use Rattle.tailnet_desk.specs.Turns.{IsTurn}
use Rattle.desk_state.specs.State.{State}
use Rattle.row_keeper.specs.Before.{ToldBefore}
use Rattle.tailnet_desk.proofs.Histories.{Chain-append, history_of, told_before_turns}
use Rattle.tailnet_desk.proofs.SoundHistories.{legal_in_force, legal_sound}
use Rattle.tailnet_laws.proofs.Following.{opening_followed}
use Rattle.desk_front.specs.Wanted.{front_settings}
use Rattle.connections.specs.Connection.{IsConnection}
use Rattle.connections.specs.Exchanges.{turns_of}
use Rattle.connections.specs.Tellings.{from_number}
use Rattle.tailnet_commands.specs.Run.{Conversation, IsAskedFor}
use Rattle.tailnet_commands.specs.Outside.{Outside}
use Rattle.tailnet_commands.specs.Seeding.{IsSeeded}
use Rattle.connections.proofs.Seen.{serves_from, with_answers}
use Rattle.connections.proofs.Tellings.{same_moments}
use Rattle.exit_status.specs.declared.closed.Closed.{Closed}

-- what is where an object tells, is where one still tells
pub where_still : {A : Type 0} (x : A) (a b : Option A) → StillTells a b → IsWhereTold x a → IsWhereTold x b
where_still x a None h w = tt
where_still x None (Some y) h w = absurd (let bad : None ≡ Some y = h in cc)
where_still {A} x (Some z) (Some y) h w = let e : Some z ≡ Some y = h in let same : z ≡ y = cc in w ∙ same

-- what was told is what is known still
pub kept_still : {A : Type 0} (a b : Option A) → StillTells a b → IfSome a (λ x. IsWhereTold x b)
kept_still None b h = tt
kept_still (Some x) None h = tt
kept_still (Some x) (Some y) h = let e : Some x ≡ Some y = h in let same : x ≡ y = cc in same

-- what the keeper tells after the load, if it still tells, is what the opener told
pub where_loaded : {A : Type 0} (x : A) (a k l : Option A) → IfSome a (λ rows. k ≡ Some rows) → StillTells k l → IsWhereTold x l → IsSome l → IsWhereTold x a
where_loaded x None k l h s w tells = tt
where_loaded x (Some rows) k None h s w tells = absurd (cc)
where_loaded {A} x (Some rows) k (Some y) h s w tells = let e : Some rows ≡ Some y = sym h ∙ s in let same : rows ≡ y = cc in w ∙ sym same

pub kept_given : {A : Type 0} (a k b : Option A) → IfSome a (λ rows. k ≡ Some rows) → StillTells k b → IfSome a (λ x. IsWhereTold x b)
kept_given None k b h s = tt
kept_given (Some x) k None h s = tt
kept_given (Some x) k (Some y) h s = let e : Some x ≡ Some y = sym h ∙ s in let same : x ≡ y = cc in same

-- what is said of the rows that the keeper tells is said of those that the opener tells after it
pub still_some : {A : Type 0} (P : A → Type 0) (k b : Option A) → StillTells k b → IfSome k P → IfSome b P
still_some P k None s p = tt
still_some P None (Some y) s p = absurd (let bad : None ≡ Some y = s in cc)
still_some {A} P (Some x) (Some y) s p = let e : Some x ≡ Some y = s in let same : x ≡ y = cc in subst P same p

pub still_still : {A : Type 0} (a b c : Option A) → StillTells a b → StillTells b c → StillTells a c
still_still a b None h k = tt
still_still a None (Some y) h k = absurd (let bad : None ≡ Some y = k in cc)
still_still {A} a (Some z) (Some y) h k = let e : Some z ≡ Some y = k in h ∙ e

-- under settings that keep their rules a legal history from sound rows ends in sound rows
pub sound_at_end : (p : Point) (turns : List Turned) (q : Point) → AreSettings p.state.settings → AreSound p.state.rows → IsHistory p turns q → AreSound q.state.rows
sound_at_end p turns q hold sound h = subst (λ (s : State). AreSound s.rows) (sym h.state) (legal_sound p.state p.keeping.faults h.entries hold sound h.legal)

-- and the policy in force stays the one that the tables keep
pub in_force_at_end : (p : Point) (turns : List Turned) (q : Point) → AreSettings p.state.settings → damage p.state.rows ≡ None → IsInForce p.state.rows p.state.policy
    → IsHistory p turns q → IsInForce q.state.rows q.state.policy
in_force_at_end p turns q hold whole held h =
    subst (λ (s : State). IsInForce s.rows s.policy) (sym h.state) (legal_in_force p.state p.keeping.faults h.entries hold whole held h.legal)

-- a desk that was opened, then its seed, then a connection
pub conversed : (closed : Closed) (settings : FileSettings) (seed : Option (List ℕ)) (moment : ℤ) (old new : Outside) (f g : ℕ → Option ℤ) (d : State) (keeping : Keeping) (middle final : Point)
    → AreSettings settings.tailnet → damage d.rows ≡ None
    → IsWhereTold moment (option_map clamped (old.told.giving.answers 0)) → ((k : ℕ) → f k ≡ old.told.giving.answers (k + 1))
    → d ≡ opening settings.tailnet d.rows moment → (IsSome keeping.told → IsWhereTold d.rows old.rows)
    → IsSeeded seed f g (record { state = d; keeping = keeping }) middle
    → IsConnection IsTurn (front_settings settings.server) 0 closed settings.server.requests [] (with_answers old.told g) new.told middle final
    → IsWhereTold final.state.rows new.rows → ToldBefore final.keeping.told new.rows → RoseBy final.keeping.faults old.keeper_faults new.keeper_faults → IsAskedFor settings old new → Conversation closed settings seed old new
conversed closed settings seed moment old new f g d keeping middle final hold whole at shifted is rows_told seeded serves last before rose asked =
    let n = length seeded.seeding in
    let turns = seeded.seeding ++ turns_of serves.exchanges in
    let served = serves_from IsTurn (front_settings settings.server) 0 closed settings.server.requests [] (with_answers old.told g) new.told middle final (from_number (1 + n) old.told.giving.answers)
    (λ k. seeded.rest k ∙ shifted (k + n) ∙ ap old.told.giving.answers (omega arith)) serves in
    let start : Point = record { state = opening settings.tailnet d.rows moment; keeping = keeping } in
    let opened : Point = record { state = d; keeping = keeping } in
    let joined : Chain IsTurn opened turns final = Chain-append IsTurn opened seeded.seeding (turns_of serves.exchanges) middle final seeded.chain serves.chain in
    let chain : Chain IsTurn start turns final = subst (λ (s : State). Chain IsTurn (record { state = s; keeping = keeping }) turns final) is joined in
    let history = history_of start turns final chain in
    let sound = sound_of d.rows whole in
    record {
      rules = hold;
      rows = d.rows;
      sound = sound;
      asked = asked;
      rows_told = λ tells. rows_told (told_before_turns start turns final chain (before tells));
      moment = moment;
      moment_told = at;
      keeping = keeping;
      final = final;
      seeding = seeded.seeding;
      seeding_is = seeded.seeding_is;
      seeding_moments = same_moments f (from_number 1 old.told.giving.answers) seeded.seeding shifted seeded.moments;
      seeded = middle;
      seeding_leads = subst (λ (s : State). Chain IsTurn (record { state = s; keeping = keeping }) seeded.seeding middle) is seeded.chain;
      serves = served;
      history = history;
      followed = opening_followed settings.tailnet d.rows moment keeping.faults history.entries hold whole history.legal;
      in_force = in_force_at_end start turns final hold whole refl history;
      final_sound = sound_at_end start turns final hold sound history;
      final_rows = last;
      rose = rose;
    }
