-- Which texts spell a moment (RFC 3339 section 5.6), with capital `T` and `Z`.
use Rattle.std.specs.Prelude.{◌≡◌, ◌≤◌, ℕ, ◌+◌, ◌*◌, ◌/◌, ◌%◌, ℤ, pos, neg_ℤ, ◌+ℤ◌, ◌-ℤ◌, ◌*ℤ◌, true, List, [], ◌∷◌, ◌++◌}
use Rattle.std.specs.Char.{is_ascii_digit}
use Rattle.std.specs.List.{list_all}
use Rattle.jiff_core.specs.Calendar.{days_in_month, days_from_civil}
use Rattle.net_addr.specs.Moments.{IsMoment}

-- `Z`, or hours and minutes ahead of it or behind it
pub data Zone : Type 0 where
  utc : Zone
  ahead : ℕ → ℕ → Zone
  behind : ℕ → ℕ → Zone

-- a date, a time of day, the digits of a fraction of a second, maybe none, and an offset
pub record Stamp : Type 0 where
  pub year : ℕ
  pub month : ℕ
  pub day : ℕ
  pub hour : ℕ
  pub minute : ℕ
  pub second : ℕ
  pub fraction : List ℕ
  pub zone : Zone

-- a number below 100 as two digits, before what follows
abbrev pub two_before : ℕ → List ℕ → List ℕ
two_before n rest = (48 + n / 10) ∷ (48 + n % 10) ∷ rest

-- `Z`, `+hh:mm` or `-hh:mm`
abbrev pub print_zone : Zone → List ℕ
print_zone utc = 90 ∷ []
print_zone (ahead hour minute) = 43 ∷ two_before hour (58 ∷ two_before minute [])
print_zone (behind hour minute) = 45 ∷ two_before hour (58 ∷ two_before minute [])

-- a dot and the digits of a fraction, or nothing
abbrev pub print_fraction : List ℕ → List ℕ → List ℕ
print_fraction [] rest = rest
print_fraction (digit ∷ digits) rest = 46 ∷ digit ∷ digits ++ rest

-- `YYYY-MM-DDThh:mm:ss`, the fraction, and the offset
abbrev pub print_stamp : Stamp → List ℕ
print_stamp s =
    two_before (s.year / 100) (two_before (s.year % 100) (45 ∷ two_before s.month (45 ∷ two_before s.day
    (84 ∷ two_before s.hour (58 ∷ two_before s.minute (58 ∷ two_before s.second
    (print_fraction s.fraction (print_zone s.zone))))))))

-- hours to 23 and minutes to 59
abbrev pub IsZone : Zone → Type 0
IsZone utc = Unit {0}
IsZone (ahead hour minute) = (hour ≤ 23) × (minute ≤ 59)
IsZone (behind hour minute) = (hour ≤ 23) × (minute ≤ 59)

-- the calendar has the date, and a clock without leap seconds shows the time
pub record IsStamp (s : Stamp) : Type 0 where
  pub year : s.year ≤ 9999
  pub month : (1 ≤ s.month) × (s.month ≤ 12)
  pub day : (1 ≤ s.day) × (s.day ≤ days_in_month (pos s.year) s.month)
  pub hour : s.hour ≤ 23
  pub minute : s.minute ≤ 59
  pub second : s.second ≤ 59
  pub fraction : list_all is_ascii_digit s.fraction ≡ true
  pub zone : IsZone s.zone

-- the seconds of an offset
abbrev pub zone_seconds : Zone → ℤ
zone_seconds utc = pos 0
zone_seconds (ahead hour minute) = pos (hour * 3600 + minute * 60 + 0)
zone_seconds (behind hour minute) = neg_ℤ (pos (hour * 3600 + minute * 60 + 0))

-- the day number times 86400 and the time of day, less the offset; the fraction is dropped
abbrev pub stamp_seconds : Stamp → ℤ
stamp_seconds s =
    days_from_civil (pos s.year) s.month s.day *ℤ pos 86400 +ℤ pos (s.hour * 3600 + s.minute * 60 + s.second) -ℤ zone_seconds s.zone

-- The text is a stamp of that moment.
pub record SpellsMoment (text : List ℕ) (n : ℤ) : Type 0 where
  pub stamp : Stamp
  pub valid : IsStamp stamp
  pub is : text ≡ print_stamp stamp
  pub number : n ≡ stamp_seconds stamp
  pub moment : IsMoment n
