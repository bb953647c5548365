use Rattle.std.proofs.Common.{◌≡◌, ◌≤◌, ◌+◌, ℕ, ◌||◌, ◌++◌, length, map}
use Rattle.std.specs.Prelude.{All, vec_capacity, vec_len}
use Rattle.std.specs.Vec.Iter.{into_iter_items, into_iter_len}
use Rattle.io_edge.specs.Edge.{RoseBy}
use Rattle.session_hub.specs.Seats.{SeatView}
use Rattle.tailnet_serve.specs.Crews.{AreJoined, all_word_faults, has_any_starved, is_any_failed}
use Rattle.tailnet_serve.proofs.crew.join_workers.Given as goal

-- the workers so far were joined, and whatever becomes of the others completes it
abbrev pub invariant-loop-worker : goal.invariant-loop-worker
invariant-loop-worker g l =
    let left = into_iter_items l.workers in
    let all = l.fn.workers.items in
    record {
      hub : (l.first.hub ≡ l.hub.view) × All (λ w. w.seat.hub ≡ l.hub.view) left;
      room : (vec_len l.doors + into_iter_len l.workers ≡ length all) × (vec_capacity l.doors ≡ vec_capacity l.fn.room);
      full : into_iter_len l.workers ≡ length left;
      joined : (t : SeatView) → AreJoined l.first (map (λ w. w.seat) left) t → AreJoined l.fn.first (map (λ w. w.seat) all) t;
      doors : l.doors.items ++ map (λ w. w.door) left ≡ map (λ w. w.door) all;
      failed : (l.failed || is_any_failed left) ≡ is_any_failed all;
      starved : (l.starved || has_any_starved left) ≡ has_any_starved all;
      rose : (n : ℕ) → RoseBy (all_word_faults g.N.Entropy.faults left) (g.N.Entropy.faults l.entropy) n → RoseBy (all_word_faults g.N.Entropy.faults all) (g.N.Entropy.faults l.fn.entropy) n;
      same : (k : ℕ) → g.N.Entropy.word l.entropy k ≡ g.N.Entropy.word l.fn.entropy k;
      later : g.N.Entropy.faults l.fn.entropy ≤ g.N.Entropy.faults l.entropy;
    }

abbrev pub decreases-loop-worker : goal.decreases-loop-worker
decreases-loop-worker g l = into_iter_len l.workers
