-- Moments as texts (RFC 3339 section 5.6): a date, `T`, a time of day, and an offset.
use Rattle.std.specs.Prelude.{ℕ, ℤ, ◌/◌, ◌%◌, ◌-ℤ◌, unsigned_abs, List, ◌++◌, codes}
use Rattle.std.specs.Fmt.{decimal}
use Rattle.net_addr.specs.Moments.{first_moment}
use Rattle.net_addr.specs.Civil.{CivilDate, date_after}

-- a number below 100 as two digits
abbrev pub two : ℕ → List ℕ
two n = decimal (n / 10) ++ decimal (n % 10)

-- a year as four digits, and the month and the day behind hyphens
abbrev pub date_text : CivilDate → List ℕ
date_text d = two (d.year / 100) ++ two (d.year % 100) ++ (codes "-" ++ two d.month) ++ (codes "-" ++ two d.day)

-- hours, minutes and seconds, of a number of seconds since midnight
abbrev pub time_text : ℕ → List ℕ
time_text s = two (s / 3600) ++ (codes ":" ++ two (s / 60 % 60)) ++ (codes ":" ++ two (s % 60))

-- the date and the time of day, of a number of seconds since 0001-01-01T00:00:00Z
abbrev pub instant_text : ℕ → List ℕ
instant_text s = date_text (date_after (s / 86400)) ++ codes "T" ++ time_text (s % 86400) ++ codes "Z"

-- the one text that is written of a moment
abbrev pub moment_text : ℤ → List ℕ
moment_text n = instant_text (unsigned_abs (n -ℤ first_moment))
