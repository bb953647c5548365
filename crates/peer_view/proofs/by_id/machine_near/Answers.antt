use Rattle.std.proofs.Common.{subst, sym}
use Rattle.std.specs.Prelude.{List}
use Rattle.net_rows.specs.Shelf.{IsAscending}
use Rattle.net_rows.specs.declared.machine.Machine.{Machine}
use Rattle.net_rows.proofs.Sounds.{sound_of}
use Rattle.peer_view.proofs.by_id.machine_near.Goals as goal

pub place_near-requires : goal.place_near-requires
place_near-requires c =
    let rows = c.args.tables.now.rows in
    record {
      ascending = subst (λ (ms : List Machine). IsAscending (λ (m : Machine). m.id) ms) (sym c.machines-rows.ensures.value) (sound_of rows c.machines-rows.ensures.sound).machines.ascend;
    }
