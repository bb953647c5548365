use Rattle.std.proofs.Common.{◌≡◌, ◌∙◌, sym}
use Rattle.peer_view.specs.Seen.{node_reaches, of_ids}
use Rattle.peer_view.proofs.SightLaws.{sight_found, sight_missed}
use Rattle.peer_view.proofs.pair.sees_machine.Goals as goal

pub returns-then-reaches : goal.returns-then-reaches
returns-then-reaches c =
    let w = c.args.world.now in
    let v = c.args.viewer.now in
    let p = c.args.peer.now in
    let a : c.spot-a.result.id ≡ v.row.id = c.spot-a.ensures.id in
    let b : c.spot-b.result.id ≡ p.row.id = c.spot-b.ensures.id in
    record {
      value = sight_found w v p c.users-users.ensures.sound.nodes c.requires.viewer c.requires.peer (λ same. c.if-a-b.false (a ∙ (same ∙ sym b)))
          c.reaches.result (c.reaches.ensures.value ∙ (λ i. of_ids (node_reaches w) w (a i) (b i))) c.if-reaches.true;
    }

pub returns-else-reaches : goal.returns-else-reaches
returns-else-reaches c =
    let w = c.args.world.now in
    let v = c.args.viewer.now in
    let p = c.args.peer.now in
    let a : c.spot-a.result.id ≡ v.row.id = c.spot-a.ensures.id in
    let b : c.spot-b.result.id ≡ p.row.id = c.spot-b.ensures.id in
    record {
      value = sight_missed w v p c.users-users.ensures.sound.nodes c.requires.viewer c.requires.peer (λ same. c.if-a-b.false (a ∙ (same ∙ sym b)))
          c.reaches.result (c.reaches.ensures.value ∙ (λ i. of_ids (node_reaches w) w (a i) (b i))) c.if-reaches.false
          c.reaches-else-reaches.result (c.reaches-else-reaches.ensures.value ∙ (λ i. of_ids (node_reaches w) w (b i) (a i)));
    }
