use Rattle.peer_view.proofs.ChoiceLaws.{others_unrouted, own_unrouted}
use Rattle.peer_view.proofs.laws.machines_without_routes_change_no_row.Goals as goal

pub returns : goal.returns
returns c = record { own = own_unrouted; others = others_unrouted }
