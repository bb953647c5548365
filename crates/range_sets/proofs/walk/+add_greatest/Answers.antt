use Rattle.std.proofs.Common.{◌≡◌, ◌++◌, ◌+◌, ◌-◌, ◌<◌, ◌^◌, List, append-nil, append_assoc, arith, sym, refl, rules}
use Rattle.std.proofs.lemmas.Nat.{pow_pos}
use Rattle.std.proofs.lemmas.Result.{on_ok_weaker}
use Rattle.net_addr.proofs.BlockLemmas.{family_top}
use Rattle.net_addr.specs.Bits.{Block}
use Rattle.range_sets.proofs.WalkLemmas.{has_all-ends, ending_apart, ending_ends, half_aligned, halves, middle_aligned, none_left, none_yet, not_all, not_one, split_apart, whole_inside}
use Rattle.range_sets.proofs.walk.+add_greatest.Goals as goal

pub returns-in_default : goal.returns-in_default
returns-in_default t c = record { value = rw (none_left c.args.v6 c.args.spans.now c.args.bits c.args.base c.in_default.ensures.cases, append-nil) refl }

pub returns-then-last-head : goal.returns-then-last-head
returns-then-last-head t c = record {
  value = rw (none_yet c.args.v6 c.args.spans.now c.in-Some.head.now c.in-Some.field-0-1.now 0 (2 ^ 128 + 1) c.args.bits c.args.base c.in-Some.ensures.cases.0 c.requires.apart (omega arith), append-nil) refl;
}

pub returns-then-has_all : goal.returns-then-has_all
returns-then-has_all t c =
    let ends = has_all-ends c.in-Some.head.now c.args.bits c.args.base (c.args.base + c.ones.result) (omega arith) (sym c.if-has_all.ensures.value) in
    let whole = whole_inside c.args.v6 c.args.spans.now c.in-Some.head.now c.in-Some.field-0-1.now c.args.bits c.args.base c.in-Some.ensures.cases.0 ends.0 ends.1 in
    record { value = rw (whole, ← c.block_at.ensures.value) c.push.ensures.ok }

pub overflow_add-middle : goal.overflow_add-middle
overflow_add-middle t c =
    let pos = not_one c.args.spans.now c.in-Some.head.now c.in-Some.field-0-1.now c.args.bits c.args.base (c.args.base + c.ones.result) c.in-Some.ensures.cases.0 c.requires.ends (omega arith) (omega arith) (sym c.if-has_all.ensures.value) in
    let two = halves c.args.bits pos in
    let top = family_top c.args.v6 in
    let fits : c.args.base + c.ones-2.result < 2 ^ 128 = omega arith in
    search rules

pub overflow_add-middle-2 : goal.overflow_add-middle-2
overflow_add-middle-2 t c =
    let pos = not_one c.args.spans.now c.in-Some.head.now c.in-Some.field-0-1.now c.args.bits c.args.base (c.args.base + c.ones.result) c.in-Some.ensures.cases.0 c.requires.ends (omega arith) (omega arith) (sym c.if-has_all.ensures.value) in
    let two = halves c.args.bits pos in
    let one = pow_pos (c.args.bits - 1) in
    let top = family_top c.args.v6 in
    let fits : c.args.base + c.ones-2.result + 1 < 2 ^ 128 = omega arith in
    search rules

pub add_greatest-requires : goal.add_greatest-requires
add_greatest-requires t c =
    let pos = not_one c.args.spans.now c.in-Some.head.now c.in-Some.field-0-1.now c.args.bits c.args.base (c.args.base + c.ones.result) c.in-Some.ensures.cases.0 c.requires.ends (omega arith) (omega arith) (sym c.if-has_all.ensures.value) in
    let two = halves c.args.bits pos in
    (omega arith, (omega arith, (omega arith, (half_aligned c.args.bits c.args.base pos c.requires.aligned, (c.requires.apart, c.requires.ends)))))

pub add_greatest-requires-2 : goal.add_greatest-requires-2
add_greatest-requires-2 t c =
    let pos = not_one c.args.spans.now c.in-Some.head.now c.in-Some.field-0-1.now c.args.bits c.args.base (c.args.base + c.ones.result) c.in-Some.ensures.cases.0 c.requires.ends (omega arith) (omega arith) (sym c.if-has_all.ensures.value) in
    let two = halves c.args.bits pos in
    let one = pow_pos (c.args.bits - 1) in
    let middle : c.args.base + c.ones-2.result + 1 ≡ c.args.base + 2 ^ (c.args.bits - 1) = omega arith in
    (omega arith, (omega arith, (omega arith, (rw middle (middle_aligned c.args.bits c.args.base pos c.requires.aligned), (rw c.ending_from.ensures.value (ending_apart 0 (2 ^ 128 + 1) _ c.args.spans.now c.requires.apart), rw c.ending_from.ensures.value (ending_ends _ c.args.spans.now))))))

joined : (new mid old left right all : List Block) → new ≡ mid ++ right → mid ≡ old ++ left → all ≡ left ++ right → new ≡ old ++ all
joined new mid old left right all e f g = rw (e, f, g, append_assoc) refl

pub returns : goal.returns
returns t c =
    let pos = not_one c.args.spans.now c.in-Some.head.now c.in-Some.field-0-1.now c.args.bits c.args.base (c.args.base + c.ones.result) c.in-Some.ensures.cases.0 c.requires.ends (omega arith) (omega arith) (sym c.if-has_all.ensures.value) in
    let one = pow_pos (c.args.bits - 1) in
    let split = split_apart c.args.v6 c.args.spans.now c.in-Some.head.now c.in-Some.field-0-1.now 0 (2 ^ 128 + 1) c.args.bits c.args.base (c.args.base + c.ones-2.result + 1) c.in-Some.ensures.cases.0 (omega arith) c.requires.apart c.requires.ends
    (not_all c.in-Some.head.now c.args.bits c.args.base (c.args.base + c.ones.result) (omega arith) (sym c.if-has_all.ensures.value)) pos in
    let second = rw c.ending_from.ensures.value at c.add_greatest-2.ensures.value in
    record { value = on_ok_weaker c.add_greatest-2.result (λ new. joined _ _ _ _ _ _ new c.in_ok-add_greatest.ensures.value split) second }
