use Rattle.std.proofs.Common.{subst}
use Rattle.std.specs.Option.{option_copied}
use Rattle.peer_view.specs.Seen.{IsSoundSeen, Seen}
use Rattle.peer_view.proofs.WorldLaws.{seen_sound}
use Rattle.peer_view.proofs.world.World.users.Goals as goal

pub returns-clause-sound : goal.returns-clause-sound
returns-clause-sound c =
    let w = c.self.inside in
    subst (λ (x : Seen). IsSoundSeen x) c.self.view_is (seen_sound w.settings.now (option_copied w.policy) w.tables.now.rows w.live.now w.online c.self.invariant.sound)
