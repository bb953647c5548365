use Rattle.byte_laws.proofs.Orders.{legal_orderly}
use Rattle.byte_laws.proofs.drains.drains_reply_in_order.Goals as goal

pub returns : goal.returns
returns c = record { orderly = legal_orderly }
