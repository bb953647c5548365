-- Dates by counting days, in the proleptic Gregorian calendar.
use Rattle.std.specs.Prelude.{ℕ, zero, suc, ◌+◌, pos, nat_lt, if◌then◌else◌}
use Rattle.jiff_core.specs.Calendar.{days_in_month}

pub record CivilDate : Type 0 where
  pub year : ℕ
  pub month : ℕ
  pub day : ℕ

-- the day after a date
abbrev pub next_date : CivilDate → CivilDate
next_date d =
    if nat_lt d.day (days_in_month (pos d.year) d.month) then record d { day = d.day + 1 }
    else if nat_lt d.month 12 then record { year = d.year; month = d.month + 1; day = 1 }
    else record { year = d.year + 1; month = 1; day = 1 }

-- the date so many days after 0001-01-01
unfoldable pub date_after : ℕ → CivilDate
date_after zero = record { year = 1; month = 1; day = 1 }
date_after (suc n) = next_date (date_after n)
