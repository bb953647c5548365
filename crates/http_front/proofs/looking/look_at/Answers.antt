use Rattle.std.proofs.Common.{◌≡◌, length, sym, ap, arith, inr, refl, Err}
use Rattle.std.proofs.lemmas.Bool.{false≢true, eqb-false}
use Rattle.http_front.proofs.Heads.{never_none}
use Rattle.http_front.proofs.Looks.{front_of, is_seen_at, lacks_at, refused_at, short_at, too_long_at, no_head_at, room_at}
use Rattle.http_front.proofs.looking.look_at.Goals as goal

pub returns-in-Ok : goal.returns-in-Ok
returns-in-Ok c =
    let w = rw c.in-Ok-Complete.field-0-is at c.in-Ok-Complete.ensures.within in
    let x = rw c.in-Ok-Complete.field-0-is at c.in-Ok-Complete.ensures.complete in
    record { look = is_seen_at c.args.bytes.now _ c.parse_request.new.headers c.in-Ok-Complete.head c.in-Ok.size (front_of c.args.bytes.now c.min.result c.min.ensures) w x c.in-Ok.ensures.value c.if-size-bytes.true }

pub returns-in-Ok-2 : goal.returns-in-Ok-2
returns-in-Ok-2 c =
    let w = rw c.in-Ok-Complete.field-0-is at c.in-Ok-Complete.ensures.within in
    let x = rw c.in-Ok-Complete.field-0-is at c.in-Ok-Complete.ensures.complete in
    record { look = lacks_at c.args.bytes.now _ c.parse_request.new.headers c.in-Ok-Complete.head c.in-Ok.size (front_of c.args.bytes.now c.min.result c.min.ensures) w x c.in-Ok.ensures.value c.if-size-bytes.false }

pub returns-in-Err-length_of : goal.returns-in-Err-length_of
returns-in-Err-length_of c =
    let w = rw c.in-Ok-Complete.field-0-is at c.in-Ok-Complete.ensures.within in
    let x = rw c.in-Ok-Complete.field-0-is at c.in-Ok-Complete.ensures.complete in
    record { look = refused_at c.args.bytes.now _ c.parse_request.new.headers c.in-Ok-Complete.head c.in-Err-length_of.fault (front_of c.args.bytes.now c.min.result c.min.ensures) w x c.in-Err-length_of.ensures.value }

pub returns-then-bytes-gt-HEAD_LIMIT : goal.returns-then-bytes-gt-HEAD_LIMIT
returns-then-bytes-gt-HEAD_LIMIT c =
    record { look = too_long_at c.args.bytes.now _ (front_of c.args.bytes.now c.min.result c.min.ensures) c.if-bytes-gt-HEAD_LIMIT.true (rw c.in-Ok-Partial.field-0-is at c.in-Ok-Partial.ensures.unfinished) (rw c.in-Ok-Partial.field-0-is at c.in-Ok-Partial.ensures.partial) }

pub returns-in-TooManyHeaders : goal.returns-in-TooManyHeaders
returns-in-TooManyHeaders c = absurd (room_at c.args.bytes.now _ _ (front_of c.args.bytes.now c.min.result c.min.ensures) c.requires.room (c.in-Err.ensures.too_many (ap Err c.in-TooManyHeaders.is)))

pub returns-then-not-ends_in_target : goal.returns-then-not-ends_in_target
returns-then-not-ends_in_target c =
    let full : length c.args.bytes.now ≡ 0 → ⊥ = eqb-false (length c.args.bytes.now) 0 (sym c.if-is_empty.ensures) in
    record { look = no_head_at c.args.bytes.now _ (front_of c.args.bytes.now c.min.result c.min.ensures) (omega arith) (c.in-Err.ensures.invalid c.in_default.not-TooManyHeaders) (λ x. false≢true (c.if-not-ends_in_target.ensures.value.1 x)) }

pub returns-then-bytes-gt-HEAD_LIMIT-2 : goal.returns-then-bytes-gt-HEAD_LIMIT-2
returns-then-bytes-gt-HEAD_LIMIT-2 c =
    record { look = too_long_at c.args.bytes.now _ (front_of c.args.bytes.now c.min.result c.min.ensures) c.if-bytes-gt-HEAD_LIMIT-2.true (inr (c.if-not-ends_in_target.ensures.value.0 refl)) (never_none _ (c.in-Err.ensures.invalid c.in_default.not-TooManyHeaders)) }

pub returns-else-bytes-gt-HEAD_LIMIT-2 : goal.returns-else-bytes-gt-HEAD_LIMIT-2
returns-else-bytes-gt-HEAD_LIMIT-2 c =
    record { look = short_at c.args.bytes.now _ (front_of c.args.bytes.now c.min.result c.min.ensures) c.if-bytes-gt-HEAD_LIMIT-2.false (inr (c.if-not-ends_in_target.ensures.value.0 refl)) (never_none _ (c.in-Err.ensures.invalid c.in_default.not-TooManyHeaders)) }
