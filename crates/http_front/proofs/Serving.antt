-- What a loop of calls of `take_request` keeps.
use Rattle.std.proofs.Common.{◌≡◌, ℕ, List, ◌++◌, Option, ap, ◌∙◌}
use Rattle.io_edge.specs.Edge.{and_then_left}
use Rattle.io_edge.proofs.Told.{left_more}
use Rattle.http_front.specs.declared.request.Request.{Request}
use Rattle.http_front.specs.declared.request.Taken.{Taken}
use Rattle.http_front.specs.Requests.{Leads}
use Rattle.http_front.specs.Taking.{Takes}
use Rattle.http_front.proofs.Streams.{Leads-append}

-- the bytes that one more call read stand behind those that were read before it, and behind those that it found held
pub Takes_behind : (left now after : Option (List ℕ)) (bytes : List ℕ) (served : List Request) (held held_after : List ℕ) (answer : Taken)
    → left ≡ and_then_left bytes now → Leads bytes served held → (takes : Takes now after held held_after answer)
    → (left ≡ and_then_left (bytes ++ takes.read) after) × Leads (bytes ++ takes.read) served (held ++ takes.read)
Takes_behind left now after bytes served held held_after answer moved leads takes =
    (moved ∙ ap (and_then_left bytes) takes.moved ∙ left_more after bytes takes.read, Leads-append bytes served held takes.read leads)
