use Rattle.std.proofs.Common.{◌≡◌, pos, Some, refl, ap, ◌∙◌, to_z, of_z, w8, w64, arith}
use Rattle.std.specs.Int.{w16}
use Rattle.std.proofs.lemmas.Int.{to_z_pos}
use Rattle.jiff_core.specs.Date.{epoch_day}
use Rattle.jiff_core.proofs.SignedLemmas.{signed_arith}
use Rattle.net_addr.proofs.DayLemmas.{day_is}
use Rattle.net_addr.proofs.stamp.day_number.Goals as goal

pub returns-in-Ok-clause-value : goal.returns-in-Ok-clause-value
returns-in-Ok-clause-value c =
    let y : to_z w16 c.args.year ≡ pos c.args.year = to_z_pos w16 c.args.year (omega (arith, c.requires.year_in)) in
    let m : to_z w8 c.args.month ≡ pos c.args.month = to_z_pos w8 c.args.month (omega (arith, c.requires.month_in)) in
    let d : to_z w8 c.args.day ≡ pos c.args.day = to_z_pos w8 c.args.day (omega (arith, c.requires.day_in)) in
    let number : to_z w64 (of_z w64 c.from.result) ≡ epoch_day c.in-Ok.date = omega (arith, signed_arith, c.from.ensures, c.to_unix_epoch_day.ensures) in
    ap Some number ∙ day_is c.in-Ok.date c.args.year c.args.month c.args.day (rw (y, m, d) at (c.in-Ok.ensures.succeeds.0 refl)) (rw (y, m, d) at c.in-Ok.ensures.value)
