use Rattle.net_rows.proofs.Sounds.{sound_of}
use Rattle.net_rows.proofs.lists.Lists.from_rows.Goals as goal

pub from_items-requires : goal.from_items-requires
from_items-requires c = record { ascending = (sound_of c.args.rows c.requires.sound).users.ascend }

pub from_items-requires-2 : goal.from_items-requires-2
from_items-requires-2 c = record { ascending = (sound_of c.args.rows c.requires.sound).keys.ascend }

pub from_items-requires-3 : goal.from_items-requires-3
from_items-requires-3 c = record { ascending = (sound_of c.args.rows c.requires.sound).pending.ascend }

pub from_items-requires-4 : goal.from_items-requires-4
from_items-requires-4 c = record { ascending = (sound_of c.args.rows c.requires.sound).machines.ascend }
