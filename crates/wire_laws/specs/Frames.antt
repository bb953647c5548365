-- Which responses a stream carries.
use Rattle.std.specs.Prelude.{◌<◌, ◌^◌, List, length}
use Rattle.std.specs.List.{AllByRecursion}
use Rattle.tailcfg.specs.declared.response.Response.{Response}
use Rattle.fresh_maps.specs.Frames.{frame_of}
use Rattle.wire_laws.specs.Responses.{IsWritten}

-- The response is one that is written, and the length of its frame is a number of the machine.
pub record IsFramed (r : Response) : Type 0 where
  pub written : IsWritten r
  pub sized : length (frame_of r) < 2 ^ 64

-- each is one
abbrev pub AreFramed : List Response → Type 0
AreFramed rs = AllByRecursion IsFramed rs
