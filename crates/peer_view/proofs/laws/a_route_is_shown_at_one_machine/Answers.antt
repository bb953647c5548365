use Rattle.peer_view.proofs.ChoiceLaws.{shown_once, tables_shown_once}
use Rattle.peer_view.proofs.laws.a_route_is_shown_at_one_machine.Goals as goal

pub returns : goal.returns
returns c = record { nodes = shown_once; tables = tables_shown_once }
