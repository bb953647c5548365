use Rattle.std.proofs.Common.{◌≡◌, ◌≤◌, ◌-◌, vec_len}
use Rattle.std.specs.Prelude.{All, vec_capacity}
use Rattle.tailnet_serve.specs.Crews.{IsSplitDrawing, TellsSame}
use Rattle.tailnet_serve.specs.Works.{drawing}
use Rattle.tailnet_serve.proofs.outfits.outfits_of.Given as goal

-- not too many, for which there is room, and each tells what the first clock and entropy told
abbrev pub invariant-outfits : goal.invariant-outfits
invariant-outfits g l =
    let at = drawing g.C.Clock.answer g.N.Entropy.word g.N.Entropy.faults in
    let first = at l.fn.clock l.fn.entropy in
    record {
      few : (vec_len l.outfits ≤ l.wanted) × (vec_capacity l.outfits ≡ l.wanted);
      each : All (λ o. IsSplitDrawing first (at o.clock o.entropy)) l.outfits.items;
      same : TellsSame first (at l.clock l.entropy);
      later : g.N.Entropy.faults l.fn.entropy ≤ g.N.Entropy.faults l.entropy;
    }

abbrev pub decreases-outfits : goal.decreases-outfits
decreases-outfits g l = l.wanted - vec_len l.outfits
