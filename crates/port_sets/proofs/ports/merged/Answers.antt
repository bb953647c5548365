use Rattle.std.proofs.Common.{rules, ◌≡◌, ◌<◌, length, arith, sym, ap, ◌∙◌}
use Rattle.std.specs.Prelude.{Ok, Err}
use Rattle.std.specs.List.{position_or_len, before_first, after_first}
use Rattle.std.proofs.lemmas.Bool.Decides.{nat_tests}
use Rattle.std.proofs.lemmas.Grind.{common_steps}
use Rattle.tail_base.specs.declared.failure.Failure.TheVariants.{Fault}
use Rattle.port_sets.specs.PortTexts.{is_comma, piece_of}
use Rattle.port_sets.proofs.PartLemmas.{err_last, err_more, gives_from, ok_last, ok_more, step_full}
use Rattle.port_sets.proofs.RangeLemmas.{apart_inserted, ports_inserted}
use Rattle.port_sets.proofs.ports.merged.Goals as goal

pub returns-in_err-piece-clause-value : goal.returns-in_err-piece-clause-value
returns-in_err-piece-clause-value c =
    let none : position_or_len is_comma c.loop.rest.now ≡ length c.loop.rest.now = sym c.place_of-at.ensures.value ∙ c.if-at-rest.true in
    let there = sym c.loop.invariant.rest ∙ err_last c.loop.counter c.loop.ranges.items c.loop.rest.now _ (omega arith) none c.in_err-piece.ensures.value in
    let same : c.from_residual.result ≡ Err (Fault c.in_err-piece.field-0.0) = search rules in
    gives_from (λ v. v.items) c.from_residual.result _ _ same there

pub returns-then-at-rest-clause-value : goal.returns-then-at-rest-clause-value
returns-then-at-rest-clause-value c =
    let none : position_or_len is_comma c.loop.rest.now ≡ length c.loop.rest.now = sym c.place_of-at.ensures.value ∙ c.if-at-rest.true in
    sym c.loop.invariant.rest ∙ ok_last c.loop.counter c.loop.ranges.items c.loop.rest.now c.in_ok-piece.piece (omega arith) none c.in_ok-piece.ensures.value ∙ ap Ok (sym (rw c.deref.ensures.value at c.in_ok-inserted.ensures.value))

pub returns-then-at-rest-clause-sound : goal.returns-then-at-rest-clause-sound
returns-then-at-rest-clause-sound c =
    rw (c.in_ok-inserted.ensures.value, c.deref.ensures.value) (ports_inserted c.in_ok-piece.piece c.loop.ranges.items c.in_ok-piece.ensures.ordered c.in_ok-piece.ensures.fits c.loop.invariant.apart)

pub returns-in_err-piece-2-clause-value : goal.returns-in_err-piece-2-clause-value
returns-in_err-piece-2-clause-value c =
    let some : position_or_len is_comma c.loop.rest.now < length c.loop.rest.now = grind (arith, common_steps, nat_tests) in
    let read : Err c.in_err-piece-2.field-0.0 ≡ piece_of (before_first is_comma c.loop.rest.now) = search rules in
    let there = sym c.loop.invariant.rest ∙ err_more c.loop.counter c.loop.ranges.items c.loop.rest.now _ (omega arith) some read in
    let same : c.from_residual-in_err-piece-2.result ≡ Err (Fault c.in_err-piece-2.field-0.0) = search rules in
    gives_from (λ v. v.items) c.from_residual-in_err-piece-2.result _ _ same there

pub loop-preserved : goal.loop-preserved
loop-preserved c =
    let some : position_or_len is_comma c.loop.rest.now < length c.loop.rest.now = grind (arith, common_steps, nat_tests) in
    let read : Ok c.in_ok-piece-2.piece ≡ piece_of (before_first is_comma c.loop.rest.now) = search rules in
    let items = rw c.deref-in-loop.ensures.value at c.in_ok-ranges.ensures.value in
    let later : c.after-rest.result.now ≡ after_first is_comma c.loop.rest.now = search rules in
    record {
      rest = rw (items, later) (sym (ok_more c.loop.counter c.loop.ranges.items c.loop.rest.now c.in_ok-piece-2.piece (omega arith) some read) ∙ c.loop.invariant.rest);
      apart = rw items (apart_inserted 0 c.in_ok-piece-2.piece c.loop.ranges.items (omega arith) c.in_ok-piece-2.ensures.ordered c.in_ok-piece-2.ensures.fits c.loop.invariant.apart);
    }

pub returns-clause-value : goal.returns-clause-value
returns-clause-value c = sym c.loop.invariant.rest ∙ step_full c.loop.counter c.loop.ranges.items c.loop.rest.now (omega arith)
