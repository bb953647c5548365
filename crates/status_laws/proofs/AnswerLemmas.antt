-- What answers name as failed has counted it.
use Rattle.std.proofs.Common.{◌≡◌, ◌≤◌, true, List, [], ◌∷◌, inl, inr, ap, ◌∙◌, subst, arith}
use Rattle.io_edge.specs.Edge.{Rose}
use Rattle.io_edge.proofs.Told.{rose_earlier, rose_later}
use Rattle.connections.specs.Tellings.{count_failed, failed_draws, failed_for}
use Rattle.tailnet_desk.specs.Asks.{event_words}
use Rattle.tailnet_desk.specs.Chains.{Chain, Turned}
use Rattle.tailnet_desk.specs.History.{IsReply}
use Rattle.tailnet_desk.specs.Seated.{Point}
use Rattle.tailnet_desk.specs.Turns.{IsTurn}
use Rattle.tailnet_desk.specs.declared.reply.Reply.{Reply}
use Rattle.status_laws.specs.Answers.{AreLacksCounted, AreLossesCounted, HasLackedWords, HasLostChange}

chain_later : (turns : List Turned) (p q : Point) → Chain IsTurn p turns q → p.keeping.faults ≤ q.keeping.faults
chain_later [] p q c = omega (arith, ap (λ (x : Point). x.keeping.faults) c)
chain_later (t ∷ ts) p q c = omega (arith, c.1.call.later, chain_later ts c.0 q c.2)

losses : (turns : List Turned) (p q : Point) → Chain IsTurn p turns q → HasLostChange turns → Rose p.keeping.faults q.keeping.faults
losses [] p q c lost = absurd lost
losses (t ∷ ts) p q c (inl same) =
    let reply = subst (λ (r : Reply). IsReply p.state t.event p.keeping.faults c.0.keeping.faults r) same c.1.call.reply_is in
    rose_earlier p.keeping.faults c.0.keeping.faults q.keeping.faults reply.1 (chain_later ts c.0 q c.2)
losses (t ∷ ts) p q c (inr more) = rose_later p.keeping.faults c.0.keeping.faults q.keeping.faults c.1.call.later (losses ts c.0 q c.2 more)

pub losses_counted : AreLossesCounted
losses_counted p turns q c lost = losses turns p q c lost

one_failed : (turns : List Turned) → HasLackedWords turns → 1 ≤ failed_draws turns
one_failed [] lacks = absurd lacks
one_failed (t ∷ ts) (inl lack) =
    let one : failed_for t.event ≡ 1 = ap (λ due. count_failed due (event_words t.event)) lack.0 ∙ ap (count_failed true) lack.1 in
    omega (arith, one)
one_failed (t ∷ ts) (inr more) = omega (arith, one_failed ts more)

pub lacks_counted : AreLacksCounted
lacks_counted old new turns took lacks = omega (arith, one_failed turns lacks, took.word_faults)
