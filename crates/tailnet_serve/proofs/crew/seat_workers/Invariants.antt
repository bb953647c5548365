use Rattle.std.proofs.Common.{◌≡◌, ◌+◌, ◌++◌, List, length}
use Rattle.std.specs.Prelude.{vec_capacity, vec_len}
use Rattle.std.specs.Vec.Iter.{into_iter_items, into_iter_len}
use Rattle.tailnet_serve.specs.Crews.{AreSeated}
use Rattle.tailnet_serve.proofs.crew.seat_workers.Given as goal

-- the workers so far, and whatever ones are seated from here on
abbrev pub invariant-loop-door : goal.invariant-loop-door
invariant-loop-door g l = record {
  same : l.first ≡ l.fn.first;
  alike : into_iter_len l.outfits ≡ into_iter_len l.doors;
  full : (into_iter_len l.doors ≡ length (into_iter_items l.doors)) × (into_iter_len l.outfits ≡ length (into_iter_items l.outfits));
  room : vec_len l.workers + into_iter_len l.doors ≡ length l.fn.doors.items;
  capacity : vec_capacity l.workers ≡ vec_capacity l.fn.room;
  rest : (more : List _) → AreSeated l.fn.first (into_iter_items l.doors) (into_iter_items l.outfits) more → AreSeated l.fn.first l.fn.doors.items l.fn.outfits.items (l.workers.items ++ more);
}

abbrev pub decreases-loop-door : goal.decreases-loop-door
decreases-loop-door g l = into_iter_len l.doors
