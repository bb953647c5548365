use Rattle.std.proofs.Common.{[], ◌∷◌}
use Rattle.std.specs.Prelude.{codes}
use Rattle.serde_json.specs.Data.{string}
use Rattle.wire_write.proofs.TokenLemmas.{listed, one_of}
use Rattle.wire_write.proofs.filter.write_any.Goals as goal

pub returns : goal.returns
returns c = record { adds = listed string (codes "*" ∷ []) c.in_ok-begin_array.ensures.adds (one_of string (codes "*") c.in_ok-write_text.ensures.adds) c.in_ok-end_array.ensures.adds }
