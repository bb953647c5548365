use Rattle.std.proofs.Common.{ap, Err}
use Rattle.http_front.proofs.Looks.{front_of}
use Rattle.http_client.proofs.AnswerLooks.{err_at, found_at, long_at, part_at, refused_at, whole_at}
use Rattle.http_client.proofs.looking.look_at_answer.Goals as goal

pub returns-in-Some : goal.returns-in-Some
returns-in-Some c =
    let w = rw c.in-Ok-Complete.field-0-is at c.in-Ok-Complete.ensures.within in
    let x = rw c.in-Ok-Complete.field-0-is at c.in-Ok-Complete.ensures.complete in
    let f = (front_of c.args.bytes.now c.min.result c.min.ensures) in
    let found = found_at c.args.bytes.now _ c.parse_response.new.headers c.in-Ok-Complete.head f w x in
    record { look = whole_at c.args.bytes.now _ c.parse_response.new.headers c.in-Ok-Complete.head c.in-Some.size f found c.in-Some.ensures.value c.if-size-bytes.true }

pub returns-in-Some-2 : goal.returns-in-Some-2
returns-in-Some-2 c =
    let w = rw c.in-Ok-Complete.field-0-is at c.in-Ok-Complete.ensures.within in
    let x = rw c.in-Ok-Complete.field-0-is at c.in-Ok-Complete.ensures.complete in
    let f = (front_of c.args.bytes.now c.min.result c.min.ensures) in
    let found = found_at c.args.bytes.now _ c.parse_response.new.headers c.in-Ok-Complete.head f w x in
    record { look = part_at c.args.bytes.now _ c.parse_response.new.headers c.in-Ok-Complete.head c.in-Some.size f found c.in-Some.ensures.value c.if-size-bytes.false }

pub returns-in-None : goal.returns-in-None
returns-in-None c =
    let w = rw c.in-Ok-Complete.field-0-is at c.in-Ok-Complete.ensures.within in
    let x = rw c.in-Ok-Complete.field-0-is at c.in-Ok-Complete.ensures.complete in
    let f = (front_of c.args.bytes.now c.min.result c.min.ensures) in
    let found = found_at c.args.bytes.now _ c.parse_response.new.headers c.in-Ok-Complete.head f w x in
    record { look = refused_at c.args.bytes.now _ c.parse_response.new.headers c.in-Ok-Complete.head f found c.in-None.ensures.value }

pub returns-then-bytes-gt-HEAD_LIMIT : goal.returns-then-bytes-gt-HEAD_LIMIT
returns-then-bytes-gt-HEAD_LIMIT c =
    record { look = long_at c.args.bytes.now _ (front_of c.args.bytes.now c.min.result c.min.ensures) c.if-bytes-gt-HEAD_LIMIT.true (rw c.in-Ok-Partial.field-0-is at c.in-Ok-Partial.ensures.partial) }

pub returns-in-Err : goal.returns-in-Err
returns-in-Err c =
    record { look = err_at c.args.bytes.now _ _ c.in-Err.field-0 (front_of c.args.bytes.now c.min.result c.min.ensures) c.requires.room c.in-Err.ensures.invalid (λ e. c.in-Err.ensures.too_many (ap Err e)) }
