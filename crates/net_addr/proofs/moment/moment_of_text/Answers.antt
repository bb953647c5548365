use Rattle.std.proofs.Common.{◌≡◌, ℕ, List, true, Some, drop, pos, ◌+ℤ◌, ◌-ℤ◌, ◌*ℤ◌, to_z, of_z, w64, sym, ap, ◌∙◌, arith}
use Rattle.std.proofs.lemmas.List.{take_rest}
use Rattle.jiff_core.proofs.SignedLemmas.{signed_arith}
use Rattle.net_addr.specs.MomentReads.{day_of, time_of, fraction_length, offset_of, has_marks, in_years}
use Rattle.net_addr.proofs.DayLemmas.{stamp_is}
use Rattle.net_addr.proofs.moment.moment_of_text.Goals as goal

pub returns : goal.returns
returns c =
    let text : List ℕ = c.args.text.now in
    let rest : c.after-rest.result.now ≡ drop 19 text = c.after-rest.ensures.value in
    let marks : has_marks text ≡ true = sym c.has_marks.ensures.value ∙ c.if-not-has_marks.false in
    let day : day_of text ≡ Some c.in_ok-day.day = sym c.day_of.ensures.value ∙ c.in_ok-day.was in
    let time : time_of text ≡ Some c.in_ok-time.time = sym c.time_of.ensures.value ∙ c.in_ok-time.was in
    let fraction : fraction_length (drop 19 text) ≡ Some c.in_ok-fraction.fraction = ap fraction_length (sym rest) ∙ sym c.fraction_length.ensures.value ∙ c.in_ok-fraction.was in
    let offset : offset_of (drop c.in_ok-fraction.fraction (drop 19 text)) ≡ Some c.in_ok-offset.offset =
    sym (ap offset_of (take_rest c.after-rest.result.now c.in_ok-fraction.fraction ∙ ap (drop c.in_ok-fraction.fraction) rest)) ∙ sym c.offset_of.ensures.value ∙ c.in_ok-offset.was in
    let same : to_z w64 (of_z w64 c.seconds_at.result) ≡ c.in_ok-day.day *ℤ pos 86400 +ℤ pos c.in_ok-time.time -ℤ c.in_ok-offset.offset =
    omega (arith, signed_arith, c.seconds_at.ensures.value, c.in_ok-day.ensures.range, c.in_ok-offset.ensures.range, c.in_ok-time.ensures.small) in
    record { value = c.in_years.ensures.value ∙ ap in_years same ∙ sym (stamp_is text c.in_ok-day.day c.in_ok-time.time c.in_ok-fraction.fraction c.in_ok-offset.offset marks day time fraction offset) }
