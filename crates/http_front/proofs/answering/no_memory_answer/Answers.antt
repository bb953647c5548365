use Rattle.std.proofs.Common.{◌≡◌, refl, sym, ap, ◌∙◌, true, false}
use Rattle.std.specs.Prelude.{codes}
use Rattle.std.specs.Fmt.{digits}
use Rattle.http_front.specs.AnswerBytes.{answer}
use Rattle.http_front.proofs.answering.no_memory_answer.Goals as goal

last : codes "HTTP/1.1 503 Service Unavailable\r\nContent-Type: application/json\r\nContent-Length: 20\r\nConnection: close\r\n\r\n{\"error\":\"NoMemory\"}" ≡ answer 503 (codes "{\"error\":\"NoMemory\"}") true
unfolding answer digits
last = refl

next : codes "HTTP/1.1 503 Service Unavailable\r\nContent-Type: application/json\r\nContent-Length: 20\r\n\r\n{\"error\":\"NoMemory\"}" ≡ answer 503 (codes "{\"error\":\"NoMemory\"}") false
unfolding answer digits
next = refl

pub returns-then-close : goal.returns-then-close
returns-then-close c = record { value = last ∙ ap (answer 503 (codes "{\"error\":\"NoMemory\"}")) (sym c.if-close.true) }

pub returns-else-close : goal.returns-else-close
returns-else-close c = record { value = next ∙ ap (answer 503 (codes "{\"error\":\"NoMemory\"}")) (sym c.if-close.false) }
