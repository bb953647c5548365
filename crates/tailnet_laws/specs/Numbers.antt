-- What a history sends under a handle.
use Rattle.std.specs.Prelude.{ℕ, List, [], ◌∷◌, ◌++◌}
use Rattle.tailcfg.specs.declared.response.Response.{Response}
use Rattle.tailnet_desk.specs.declared.entry.Entry.{Entry}
use Rattle.tailnet_laws.specs.Followed.{frames_to}

-- the responses that the entries send under the handle, in their order
abbrev pub sent_in : List ℕ → List Entry → List Response
sent_in handle [] = []
sent_in handle (e ∷ es) = frames_to handle e ++ sent_in handle es
