use Rattle.session_hub.proofs.hub.Hub.close.Given as goal

abbrev pub invariant-loop : goal.invariant-loop
invariant-loop g l = Unit {0}
