use Rattle.std.proofs.Common.{◌≡◌, ◌∙◌, ap, sym, subst}
use Rattle.std.specs.Prelude.{Some}
use Rattle.policy_eval.specs.Expansion.{Expansion}
use Rattle.policy_sites.specs.Reach.{AreSoundRules}
use Rattle.policy_sites.specs.Sites.{AreServedApart, AreDistinct}
use Rattle.peer_view.specs.Isolation.{only_seen}
use Rattle.peer_view.specs.Seen.{Node, node_with}
use Rattle.fresh_maps.specs.Fresh.{fresh}
use Rattle.fresh_maps.specs.Granted.{MeetsPolicy}
use Rattle.fresh_maps.specs.InOrder.{IsInOrder}
use Rattle.fresh_maps.specs.declared.view.View.{View}
use Rattle.fresh_maps.proofs.FilterLemmas.{admits_granted}
use Rattle.fresh_maps.proofs.IsolationLemmas.{isolated_map}
use Rattle.fresh_maps.proofs.OrderLemmas.{in_order}
use Rattle.fresh_maps.proofs.PeerLemmas.{node_inside}
use Rattle.fresh_maps.proofs.fresh.fresh_map.Goals as goal

pub map_of-requires : goal.map_of-requires
map_of-requires c = record { here = node_inside c.args.world.now c.args.machine c.in-Some.machine (sym c.machine.ensures.value ∙ c.in-Some.is) }

pub returns-clause-order : goal.returns-clause-order
returns-clause-order c =
    let w = c.args.world.now in
    let here = node_inside w c.args.machine c.in-Some.machine (sym c.machine.ensures.value ∙ c.in-Some.is) in
    subst (λ (view : View). IsInOrder view) (sym c.in_ok-view.ensures.value) (in_order w c.in-Some.machine c.users-users.ensures.sound here)

pub returns-clause-admits : goal.returns-clause-admits
returns-clause-admits c = λ m e.
    let w = c.args.world.now in
    let found : node_with w c.args.machine ≡ Some c.in-Some.machine = sym c.machine.ensures.value ∙ c.in-Some.is in
    let both : Some c.in-Some.machine ≡ Some m = sym found ∙ e in
    let same : c.in-Some.machine ≡ m = cc in
    let here = node_inside w c.args.machine c.in-Some.machine found in
    let distinct = subst (λ (x : Expansion). AreDistinct x.sites) c.expanded-expanded.ensures.value c.sites-sites.ensures.distinct in
    let apart = subst (λ (x : Expansion). AreServedApart x.sites) c.expanded-expanded.ensures.value c.sites-sites.ensures.apart in
    let sound = subst (λ (x : Expansion). AreSoundRules x.rules) c.expanded-expanded.ensures.value c.rules-rules.ensures.sound in
    let at = subst (λ (view : View). MeetsPolicy w c.in-Some.machine view.filter) (sym c.in_ok-view.ensures.value) (admits_granted w c.in-Some.machine distinct apart sound here) in
    subst (λ (n : Node). MeetsPolicy w n c.in_ok-view.view.filter) same at

pub returns-clause-isolated : goal.returns-clause-isolated
returns-clause-isolated c = λ m e.
    let w = c.args.world.now in
    let found : node_with w c.args.machine ≡ Some c.in-Some.machine = sym c.machine.ensures.value ∙ c.in-Some.is in
    let both : Some c.in-Some.machine ≡ Some m = sym found ∙ e in
    let same : c.in-Some.machine ≡ m = cc in
    let here = node_inside w c.args.machine c.in-Some.machine found in
    let distinct = subst (λ (x : Expansion). AreDistinct x.sites) c.expanded-expanded.ensures.value c.sites-sites.ensures.distinct in
    let apart = subst (λ (x : Expansion). AreServedApart x.sites) c.expanded-expanded.ensures.value c.sites-sites.ensures.apart in
    let sound = subst (λ (x : Expansion). AreSoundRules x.rules) c.expanded-expanded.ensures.value c.rules-rules.ensures.sound in
    let at = isolated_map w c.in-Some.machine here c.users-users.ensures.sound sound distinct apart in
    c.in_ok-view.ensures.value ∙ (at ∙ ap (λ (n : Node). fresh (only_seen w n) n) same)
