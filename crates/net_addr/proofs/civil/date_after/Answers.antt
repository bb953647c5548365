use Rattle.std.proofs.Common.{◌≡◌, ◌-ℤ◌, pos, arith}
use Rattle.jiff_core.specs.Date.{epoch_day}
use Rattle.jiff_core.proofs.SignedLemmas.{signed_arith}
use Rattle.net_addr.proofs.CivilLemmas.{same_date}
use Rattle.net_addr.proofs.civil.date_after.Goals as goal

number : (c : goal.After-from_days_since_min) → epoch_day c.from_days_since_min.result ≡ pos c.args.days -ℤ pos 719162
number c = omega (arith, signed_arith, c.from_days_since_min.ensures)

pub returns-clause-year : goal.returns-clause-year
returns-clause-year c = (same_date c.from_days_since_min.result c.args.days (number c)).0

pub returns-clause-month : goal.returns-clause-month
returns-clause-month c = (same_date c.from_days_since_min.result c.args.days (number c)).1

pub returns-clause-day : goal.returns-clause-day
returns-clause-day c = (same_date c.from_days_since_min.result c.args.days (number c)).2
