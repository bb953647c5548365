use Rattle.tailnet_desk.specs.Seated.{point_of}
use Rattle.session_hub.specs.Calls.{event_of}
use Rattle.session_hub.proofs.seat.Seat.take_turn.Given as goal

abbrev pub ghosts-advance : goal.ghosts-advance
ghosts-advance g a = record {
  line = record {
    by = a._name;
    entry = record {
      event = event_of a._call.now;
      reply = a._reply.now;
      before = (point_of g.K.Keeper.told g.K.Keeper.faults g.K.Keeper.calls a._before.now.value).keeping.faults;
      after = (point_of g.K.Keeper.told g.K.Keeper.faults g.K.Keeper.calls a.desk).keeping.faults;
    };
  };
}
