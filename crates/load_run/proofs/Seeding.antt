-- The seed of a load.
use Rattle.std.proofs.Common.{◌≡◌, ℤ, true, false, Option, None, List, ℕ, Result, Ok, Err, OnOk, codes, length, ◌+◌, refl, ap, sym, ◌∙◌, subst}
use Rattle.std.proofs.lemmas.List.{length-replicate}
use Rattle.net_rows.specs.declared.rows.Rows.{Rows}
use Rattle.desk_state.specs.State.{State}
use Rattle.tailnet_desk.specs.Seated.{keeping_of, point_of}
use Rattle.tailnet_desk.specs.Turns.{IsTurn}
use Rattle.tailnet_desk.specs.declared.ask.Ask.TheVariants as ask
use Rattle.tailnet_desk.specs.declared.entry.Event.TheVariants as event
use Rattle.tailnet_desk.specs.declared.reply.Reply.{Reply}
use Rattle.load_run.specs.Beginning.{IsBegun, IsLoadSeeded, IsSeedHeard, IsUnseeded}
use Rattle.load_run.specs.Loads.{load_moment, seed_event}
use Rattle.load_run.specs.Watching.{IsWatchedTurn, Watched, watched_of}
use Rattle.load_run.specs.declared.counts.Counts.{Counts}
use Rattle.load_run.specs.declared.heard.Heard.{Heard}
use Rattle.load_run.specs.declared.run.Run.{Run}
use Rattle.load_run.specs.declared.task.LoadPlan.{LoadPlan}
use Rattle.load_run.specs.declared.watched.WatchedDesk.{WatchedDesk}
use Rattle.load_run.proofs.Watching.{starving}

-- a seed to which memory wasn't refused, and of whose reply nothing is counted
pub seed_heard : (p q : Watched) (reply : Reply) (text : List ℕ) (moment : ℤ) → IsWatchedTurn p (event.Ask (ask.Seed text) moment None) reply q → q.heard.starved ≡ false
    → IsSeedHeard text moment p (record { point = q.point; heard = record q.heard { frames = 0 } })
seed_heard p q reply text moment turn fed = record {
  reply = reply;
  memory = λ lost. let bad : true ≡ false = sym (starving p.heard reply lost) ∙ ap (λ (h : Heard). h.starved) (sym (turn.heard.heard fed)) ∙ fed in cc;
  turn = turn.turn;
  fed = fed;
  uncounted = refl;
}

-- it is that of a load
pub load_seeded : (p q : Watched) (text : List ℕ) (moment : ℤ) → text ≡ codes "k1" → moment ≡ load_moment → IsSeedHeard text moment p q → IsLoadSeeded p q
unfolding seed_event
load_seeded p q text moment text_is moment_is heard = record {
  reply = heard.reply;
  memory = heard.memory;
  seeds = subst (λ (m : ℤ). IsTurn p.point (event.Ask (ask.Seed (codes "k1")) m None) heard.reply q.point) moment_is
      (subst (λ (t : List ℕ). IsTurn p.point (event.Ask (ask.Seed t) moment None) heard.reply q.point) text_is heard.turn);
  fed = heard.fed;
  uncounted = heard.uncounted;
}

-- so it is where memory sufficed
pub load_seeded_on : {T E : Type 0} (result : Result T E) (p q : Watched) (text : List ℕ) (moment : ℤ) → text ≡ codes "k1" → moment ≡ load_moment → OnOk result (IsSeedHeard text moment p q) → OnOk result (IsLoadSeeded p q)
load_seeded_on (Ok done) p q text moment text_is moment_is heard = load_seeded p q text moment text_is moment_is heard
load_seeded_on (Err e) p q text moment text_is moment_is heard = tt

-- a load that was seeded has begun
pub begun : {K : Type 0} (told : K → Option Rows) (faults calls : K → ℕ) (plan : LoadPlan) (old : Run K) (watched : WatchedDesk K) → IsUnseeded plan old → faults old.watched.desk.keeper ≡ 0
    → IsLoadSeeded (watched_of (point_of told faults calls) old.watched) (watched_of (point_of told faults calls) watched) → IsBegun plan (point_of told faults calls) (record old { watched = watched })
begun told faults calls plan old watched un sure seeded =
    let keeping = keeping_of told faults calls old.watched.desk.keeper in
    record {
      keeping = keeping;
      reply = seeded.reply;
      memory = seeded.memory;
      seeds = subst (λ (s : State). IsTurn (record { state = s; keeping = keeping }) seed_event seeded.reply (point_of told faults calls watched.desk)) un.state seeded.seeds;
      faultless = sure;
      stand = (let words = un.words in let roll = un.roll in let source = un.source in let counts = un.counts in let frames = seeded.uncounted in cc);
      ready = record { roll = ap length un.roll ∙ length-replicate _ _; fed = seeded.fed; sum = ap (λ (c : Counts). c.ok + c.refused) un.counts };
    }

pub begun_on : {T E K : Type 0} (result : Result T E) (told : K → Option Rows) (faults calls : K → ℕ) (plan : LoadPlan) (old : Run K) (watched : WatchedDesk K) → IsUnseeded plan old → faults old.watched.desk.keeper ≡ 0
    → OnOk result (IsLoadSeeded (watched_of (point_of told faults calls) old.watched) (watched_of (point_of told faults calls) watched)) → OnOk result (IsBegun plan (point_of told faults calls) (record old { watched = watched }))
begun_on (Ok done) told faults calls plan old watched un sure seeded = begun told faults calls plan old watched un sure seeded
begun_on (Err e) told faults calls plan old watched un sure seeded = tt
