-- What is carried out, refused or lost is one turn.
use Rattle.std.proofs.Common.{◌≡◌, ◌≢◌, ◌≤◌, ◌⊎◌, ◌∙◌, ℕ, ℤ, List, Option, Some, None, Result, Ok, Err, inl, refl, sym, ap, subst, arith}
use Rattle.std.specs.Prelude.{IfSome, IsSome}
use Rattle.io_edge.specs.Edge.{IsWhereTold, Rose}
use Rattle.net_addr.specs.Moments.{later_of}
use Rattle.net_rows.specs.Damage.{damage}
use Rattle.net_rows.specs.Rows.{after}
use Rattle.net_rows.specs.declared.change.Change.{Change}
use Rattle.net_rows.specs.declared.rows.Rows.{Rows}
use Rattle.policy_rows.specs.declared.policy.Policy.{Policy}
use Rattle.row_keeper.specs.Before.{ToldBefore}
use Rattle.row_keeper.specs.Calls.{one_more}
use Rattle.settings.specs.declared.fields.SettingsFields.{SettingsFields}
use Rattle.desk_state.specs.Decisions.{IsSound, IsSoundChange, rows_after}
use Rattle.desk_state.specs.State.{State, at_moment}
use Rattle.desk_state.specs.declared.decision.Decision.{Decision}
use Rattle.desk_state.specs.declared.presence.MachinePresence.{MachinePresence}
use Rattle.desk_state.specs.declared.refusal.Refusal.{Refusal}
use Rattle.desk_state.specs.declared.session.Attachment.{Attachment}
use Rattle.desk_state.specs.declared.session.Session.{Session}
use Rattle.tailnet_desk.specs.Asks.{IsShort}
use Rattle.tailnet_desk.specs.Carried.{Carried, Committed, Failed, Perhaps}
use Rattle.tailnet_desk.specs.Seated.{Keeping, Point, Seated, keeping_of, point_of}
use Rattle.tailnet_desk.specs.Step.{decision, outcome, settled, step}
use Rattle.tailnet_desk.specs.Turns.{IsTurn}
use Rattle.tailnet_desk.specs.declared.ask.Ask.{Ask}
use Rattle.tailnet_desk.specs.declared.entry.Event.TheVariants as event
use Rattle.tailnet_desk.specs.declared.reply.Answer.{Answer}
use Rattle.tailnet_desk.specs.declared.reply.Loss.TheVariants.{NoMemory, KeeperFault}
use Rattle.tailnet_desk.specs.declared.reply.Reply.{Reply}
use Rattle.tailnet_desk.specs.declared.reply.Reply.TheVariants.{Done, Attached, Frames, Ended, Detached, Refused, Lost}

-- a keeper that stays as it was tells what it told
pub before_same : (k l : Keeping) → l ≡ k → ToldBefore k.told l.told
before_same k l same = subst (λ (m : Keeping). IsSome m.told) same

-- each change that is decided is a sound one
abbrev pub EachSound : Rows → Option Change → Type 0
EachSound rows change = (c : Change) → change ≡ Some c → IsSoundChange rows c

pub committed_calls : (change : Option Change) (rows : Rows) (k l : Keeping) → Committed change k l → rows_after rows change ≢ rows → l.calls ≡ one_more k.calls
committed_calls None rows k l h differs = absurd (differs refl)
committed_calls (Some c) rows k l h differs = h

pub committed_idle : (change : Option Change) (rows : Rows) (k l : Keeping) → EachSound rows change → Committed change k l → rows_after rows change ≡ rows → l ≡ k
committed_idle None rows k l sound h same = h
committed_idle (Some c) rows k l sound h same = absurd ((sound c refl).differs same)

pub perhaps_calls : (change : Option Change) (k l : Keeping) → Perhaps change k l → (l.calls ≡ k.calls) ⊎ (l.calls ≡ one_more k.calls)
perhaps_calls None k l h = inl (ap (λ (x : Keeping). x.calls) h)
perhaps_calls (Some c) k l h = h

pub perhaps_idle : (change : Option Change) (rows : Rows) (k l : Keeping) → EachSound rows change → Perhaps change k l → rows_after rows change ≡ rows → l ≡ k
perhaps_idle None rows k l sound h same = h
perhaps_idle (Some c) rows k l sound h same = absurd ((sound c refl).differs same)

pub failed_parts : (change : Option Change) (rows : Rows) (k l : Keeping) → EachSound rows change → Failed change k l
    → (rows_after rows change ≢ rows) × (l.calls ≡ one_more k.calls) × Rose k.faults l.faults
failed_parts None rows k l sound h = absurd h
failed_parts (Some c) rows k l sound h = ((sound c refl).differs, h.0, h.1)

pub each_of : (rows : Rows) (r : Result (Decision Answer) Refusal) (d : Decision Answer) → r ≡ Ok d → IsSound rows r → EachSound rows d.change
each_of rows r d is sound = (sound d is).change

pub each_holds : (rows : Rows) (change : Option Change) → EachSound rows change → IfSome change (λ c. damage (after rows c) ≡ None)
each_holds rows None each = tt
each_holds rows (Some c) each = (each c refl).sound

-- a state in its parts
abbrev pub state_with : SettingsFields → Rows → Option Policy → List MachinePresence → List Session → List Attachment → ℕ → ℤ → State
state_with f t policy p x a k n = record { settings = f; rows = t; policy = policy; presence = p; sessions = x; attached = a; next_session = k; now = n }

-- its time is brought forward
pub at_later : (f : SettingsFields) (t : Rows) (policy : Option Policy) (p : List MachinePresence) (x : List Session) (a : List Attachment) (k : ℕ) (was now m : ℤ) (s : State)
    → now ≡ later_of was m → state_with f t policy p x a k was ≡ s → state_with f t policy p x a k now ≡ at_moment s m
at_later f t policy p x a k was now m s later same = ap (λ n. state_with f t policy p x a k n) later ∙ ap (λ (u : State). at_moment u m) same

pub carried_turn : (p q : Point) (x : Ask) (m : ℤ) (words : Option (List ℕ)) (d : Decision Answer) (reply : Reply)
    → IsShort x → decision (at_moment p.state m) x words ≡ Ok d → EachSound p.state.rows d.change
    → Carried (at_moment p.state m) d reply q.state p.keeping q.keeping → p.keeping.faults ≤ q.keeping.faults
    → IsWhereTold q.state.rows q.keeping.told → ToldBefore p.keeping.told q.keeping.told → IsTurn p (event.Ask x m words) reply q
carried_turn p q x m words d (Done a) short is sound c later kept before =
    let state_is : (step p.state (event.Ask x m words)).state ≡ settled (at_moment p.state m) d.change d.policy d.ended d.offline =
    ap (λ r. (outcome (at_moment p.state m) r).state) is in
    let reply_is : (step p.state (event.Ask x m words)).reply ≡ Done d.answer = ap (λ r. (outcome (at_moment p.state m) r).reply) is in
    let rows_are : (step p.state (event.Ask x m words)).state.rows ≡ rows_after p.state.rows d.change = ap (λ (t : State). t.rows) state_is in
    record {
      call = record { short = short; reply_is = ap (λ y. Done y) c.0 ∙ sym reply_is; state = c.1 ∙ sym state_is; later = later };
      kept = kept;
      before = before;
      calls = λ changes. committed_calls d.change p.state.rows p.keeping q.keeping c.2 (λ same. changes (rows_are ∙ same));
      idle = λ same. committed_idle d.change p.state.rows p.keeping q.keeping sound c.2 (sym rows_are ∙ same);
    }
carried_turn p q x m words d (Attached handle seq resumed may_wait) short is sound c later kept before = absurd c
carried_turn p q x m words d (Frames responses) short is sound c later kept before = absurd c
carried_turn p q x m words d Ended short is sound c later kept before = absurd c
carried_turn p q x m words d Detached short is sound c later kept before = absurd c
carried_turn p q x m words d (Refused r) short is sound c later kept before = absurd c
carried_turn p q x m words d (Lost NoMemory) short is sound c later kept before =
    let state_is : (step p.state (event.Ask x m words)).state ≡ settled (at_moment p.state m) d.change d.policy d.ended d.offline =
    ap (λ r. (outcome (at_moment p.state m) r).state) is in
    let rows_are : (step p.state (event.Ask x m words)).state.rows ≡ rows_after p.state.rows d.change = ap (λ (t : State). t.rows) state_is in
    record {
      call = record { short = short; reply_is = tt; state = c.0; later = later };
      kept = kept;
      before = before;
      calls = perhaps_calls d.change p.keeping q.keeping c.1;
      idle = λ same. perhaps_idle d.change p.state.rows p.keeping q.keeping sound c.1 (sym rows_are ∙ same);
    }
carried_turn p q x m words d (Lost KeeperFault) short is sound c later kept before =
    let state_is : (step p.state (event.Ask x m words)).state ≡ settled (at_moment p.state m) d.change d.policy d.ended d.offline =
    ap (λ r. (outcome (at_moment p.state m) r).state) is in
    let rows_are : (step p.state (event.Ask x m words)).state.rows ≡ rows_after p.state.rows d.change = ap (λ (t : State). t.rows) state_is in
    let failed = failed_parts d.change p.state.rows p.keeping q.keeping sound c.1 in
    record {
      call = record { short = short; reply_is = (λ same. failed.0 (sym rows_are ∙ same), failed.2); state = c.0; later = later };
      kept = kept;
      before = before;
      calls = failed.1;
      idle = λ same. absurd (failed.0 (sym rows_are ∙ same));
    }

pub refused_turn : (p q : Point) (x : Ask) (m : ℤ) (words : Option (List ℕ)) (r : Refusal)
    → IsShort x → decision (at_moment p.state m) x words ≡ Err r → q.state ≡ at_moment p.state m → q.keeping ≡ p.keeping
    → IsWhereTold q.state.rows q.keeping.told → IsTurn p (event.Ask x m words) (Refused r) q
refused_turn p q x m words r short is state same kept = record {
  call = record {
    short = short;
    reply_is = ap (λ y. (outcome (at_moment p.state m) y).reply) (sym is);
    state = state ∙ ap (λ y. (outcome (at_moment p.state m) y).state) (sym is);
    later = omega (arith, ap (λ (k : Keeping). k.faults) same);
  };
  kept = kept;
  before = before_same p.keeping q.keeping same;
  calls = ap (λ (k : Keeping). k.calls) same;
  idle = λ unchanged. same;
}

pub lost_turn : (p q : Point) (x : Ask) (m : ℤ) (words : Option (List ℕ))
    → IsShort x → q.state ≡ at_moment p.state m → q.keeping ≡ p.keeping
    → IsWhereTold q.state.rows q.keeping.told → IsTurn p (event.Ask x m words) (Lost NoMemory) q
lost_turn p q x m words short state same kept = record {
  call = record { short = short; reply_is = tt; state = state; later = omega (arith, ap (λ (k : Keeping). k.faults) same) };
  kept = kept;
  before = before_same p.keeping q.keeping same;
  calls = inl (ap (λ (k : Keeping). k.calls) same);
  idle = λ unchanged. same;
}

-- the same at a desk, whose time was brought forward before
pub carried_at : {K : Type 0} (told : K → Option Rows) (faults calls : K → ℕ) (was q : Seated K) (mid : State) (keeper : K)
    (x : Ask) (m : ℤ) (words : Option (List ℕ)) (d : Decision Answer) (reply : Reply)
    → mid ≡ at_moment was.state m → keeper ≡ was.keeper → IsShort x → decision mid x words ≡ Ok d → IsSound mid.rows (decision mid x words)
    → Carried mid d reply q.state (keeping_of told faults calls keeper) (keeping_of told faults calls q.keeper)
    → faults keeper ≤ faults q.keeper → IsWhereTold q.state.rows (told q.keeper) → ToldBefore (told keeper) (told q.keeper)
    → IsTurn (point_of told faults calls was) (event.Ask x m words) reply (point_of told faults calls q)
carried_at {K} told faults calls was q mid keeper x m words d reply mid_is keeper_is short is sound c later kept before =
    let is' : decision (at_moment was.state m) x words ≡ Ok d = subst (λ s. decision s x words ≡ Ok d) mid_is is in
    let sound' : IsSound was.state.rows (decision (at_moment was.state m) x words) = subst (λ (s : State). IsSound s.rows (decision s x words)) mid_is sound in
    let c' = subst (λ s. Carried s d reply q.state (keeping_of told faults calls was.keeper) (keeping_of told faults calls q.keeper)) mid_is
    (subst (λ k. Carried mid d reply q.state (keeping_of told faults calls k) (keeping_of told faults calls q.keeper)) keeper_is c) in
    let later' : faults was.keeper ≤ faults q.keeper = subst (λ k. faults k ≤ faults q.keeper) keeper_is later in
    let before' : ToldBefore (told was.keeper) (told q.keeper) = subst (λ k. ToldBefore (told k) (told q.keeper)) keeper_is before in
    carried_turn (point_of told faults calls was) (point_of told faults calls q) x m words d reply short is'
    (each_of was.state.rows (decision (at_moment was.state m) x words) d is' sound') c' later' kept before'
