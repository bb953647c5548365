-- What polls do at a desk is one turn.
use Rattle.std.proofs.Common.{◌≡◌, ◌<◌, ◌∙◌, ℕ, ℤ, List, Option, Some, None, sym, ap, subst, arith}
use Rattle.std.specs.Prelude.{IsSome}
use Rattle.io_edge.specs.Edge.{IsWhereTold}
use Rattle.tail_base.specs.declared.key.MachineKey.{MachineKey}
use Rattle.net_rows.specs.declared.rows.Rows.{Rows}
use Rattle.desk_state.specs.State.{State, at_moment}
use Rattle.desk_state.specs.declared.session.Session.{Session}
use Rattle.machine_asks.specs.Drain.{drain}
use Rattle.machine_asks.specs.declared.draining.DrainDecision.{DrainDecision}
use Rattle.tailnet_desk.specs.Seated.{Keeping, Point, Seated, keeping_of, point_of}
use Rattle.tailnet_desk.specs.Step.{drain_turn, step}
use Rattle.tailnet_desk.specs.Turns.{IsTurn}
use Rattle.tailnet_desk.proofs.TurnLemmas.{before_same}
use Rattle.tailnet_desk.specs.declared.entry.Event.TheVariants as event
use Rattle.tailnet_desk.specs.declared.reply.Reply.{Reply}
use Rattle.tailnet_desk.specs.declared.reply.Reply.TheVariants.{Frames, Ended}

-- a row that is there needs no place
pub room_for : (o : Option Session) (n : ℕ) → IsSome o → o ≡ None → 0 < n
room_for None n there none = absurd (cc)
room_for (Some x) n there none = absurd (cc)

-- a drain
pub drained_turn : (p q : Point) (mk : MachineKey) (handle : List ℕ) (m : ℤ) (o : Option DrainDecision)
    → drain (at_moment p.state m) mk handle ≡ o → q.state ≡ (drain_turn (at_moment p.state m) o).state → q.keeping ≡ p.keeping
    → IsWhereTold q.state.rows q.keeping.told → IsTurn p (event.Drain mk handle m) (drain_turn (at_moment p.state m) o).reply q
drained_turn p q mk handle m None is state same kept =
    let e = event.Drain mk handle m in
    let state_is : (step p.state e).state ≡ (drain_turn (at_moment p.state m) None).state = ap (λ x. (drain_turn (at_moment p.state m) x).state) is in
    let reply_is : (step p.state e).reply ≡ Ended = ap (λ x. (drain_turn (at_moment p.state m) x).reply) is in
    record {
      call = record { short = tt; reply_is = sym reply_is; state = state ∙ sym state_is; later = omega (arith, ap (λ (k : Keeping). k.faults) same) };
      kept = kept;
      before = before_same p.keeping q.keeping same;
      calls = ap (λ (k : Keeping). k.calls) same;
      idle = λ unchanged. same;
    }
drained_turn p q mk handle m (Some d) is state same kept =
    let e = event.Drain mk handle m in
    let state_is : (step p.state e).state ≡ (drain_turn (at_moment p.state m) (Some d)).state = ap (λ x. (drain_turn (at_moment p.state m) x).state) is in
    let reply_is : (step p.state e).reply ≡ Frames d.responses = ap (λ x. (drain_turn (at_moment p.state m) x).reply) is in
    record {
      call = record { short = tt; reply_is = sym reply_is; state = state ∙ sym state_is; later = omega (arith, ap (λ (k : Keeping). k.faults) same) };
      kept = kept;
      before = before_same p.keeping q.keeping same;
      calls = ap (λ (k : Keeping). k.calls) same;
      idle = λ unchanged. same;
    }

-- the same at a desk, whose time was brought forward before
module _ {K : Type 0} (told : K → Option Rows) (faults calls : K → ℕ) (was q : Seated K) (mid : State) (m : ℤ) (mid_is : mid ≡ at_moment was.state m) (same : q.keeper ≡ was.keeper) (kept : IsWhereTold q.state.rows (told q.keeper)) where
  pub drained_at : (mk : MachineKey) (handle : List ℕ) (o : Option DrainDecision) (reply : Reply)
      → o ≡ drain mid mk handle → q.state ≡ (drain_turn mid o).state → reply ≡ (drain_turn mid o).reply
      → IsTurn (point_of told faults calls was) (event.Drain mk handle m) reply (point_of told faults calls q)
  drained_at mk handle o reply is state reply_is =
      let is' : drain (at_moment was.state m) mk handle ≡ o = subst (λ (s : State). drain s mk handle ≡ o) mid_is (sym is) in
      let state' : q.state ≡ (drain_turn (at_moment was.state m) o).state = subst (λ (s : State). q.state ≡ (drain_turn s o).state) mid_is state in
      let reply' : reply ≡ (drain_turn (at_moment was.state m) o).reply = subst (λ (s : State). reply ≡ (drain_turn s o).reply) mid_is reply_is in
      subst (λ (r : Reply). IsTurn (point_of told faults calls was) (event.Drain mk handle m) r (point_of told faults calls q)) (sym reply')
      (drained_turn (point_of told faults calls was) (point_of told faults calls q) mk handle m o is' state' (ap (keeping_of told faults calls) same) kept)
