use Rattle.net_rows.proofs.Sounds.{sound_of}
use Rattle.tailnet_desk.proofs.Presences.{presence_rises}
use Rattle.tailnet_desk.proofs.opening.all_offline_of.Goals as goal

pub from_items-requires : goal.from_items-requires
from_items-requires c = record {
  ascending = rw (c.in_ok-offline.ensures.value, c.machines.ensures.value) (presence_rises c.args.now c.args.tables.now.rows.machines (sound_of _ c.machines.ensures.sound).machines.ascend);
}
