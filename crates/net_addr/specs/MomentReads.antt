-- Moments of texts (RFC 3339 section 5.6), with capital `T` and `Z` and no leap second:
-- `YYYY-MM-DDThh:mm:ss`, maybe a dot and digits, which are dropped, and `Z`, `+hh:mm` or `-hh:mm`.
use Rattle.std.specs.Prelude.{ℕ, ◌+◌, ◌-◌, ◌*◌, ◌==◌, ◌&&◌, Bool, ℤ, pos, neg_ℤ, ◌+ℤ◌, ◌-ℤ◌, ◌*ℤ◌, int_lt, not, List, [], ◌∷◌, length, drop, slice_index, Option, Some, None, if◌then◌else◌, nat_le}
use Rattle.std.specs.Char.{is_ascii_digit}
use Rattle.std.specs.List.{prefix_len}
use Rattle.tail_base.specs.OptionSteps.{◌>>=◌}
use Rattle.jiff_core.specs.Calendar.{days_in_month, days_from_civil}
use Rattle.net_addr.specs.Moments.{first_moment, last_moment}

-- the digit at a place
abbrev pub digit_at : List ℕ → ℕ → Option ℕ
digit_at text place = if is_ascii_digit (slice_index text place) then Some (slice_index text place - 48) else None

-- the number of the two digits from a place on
abbrev pub two_at : List ℕ → ℕ → Option ℕ
two_at text place = do
  tens ← digit_at text place
  ones ← digit_at text (place + 1)
  Some (tens * 10 + ones)

-- the day number of a date, if the calendar has it
abbrev pub day_number : ℕ → ℕ → ℕ → Option ℤ
day_number year month day =
    if nat_le 1 month && nat_le month 12 && nat_le 1 day && nat_le day (days_in_month (pos year) month)
    then Some (days_from_civil (pos year) month day)
    else None

-- the day number of `YYYY-MM-DD`
abbrev pub day_of : List ℕ → Option ℤ
day_of text = do
  century ← two_at text 0
  years ← two_at text 2
  month ← two_at text 5
  day ← two_at text 8
  day_number (century * 100 + years) month day

-- the seconds of a time of day, with no leap second
abbrev pub seconds_of : ℕ → ℕ → ℕ → Option ℕ
seconds_of hour minute second =
    if nat_le hour 23 && nat_le minute 59 && nat_le second 59 then Some (hour * 3600 + minute * 60 + second) else None

-- the seconds since midnight of `hh:mm:ss`, behind a date and `T`
abbrev pub time_of : List ℕ → Option ℕ
time_of text = do
  hour ← two_at text 11
  minute ← two_at text 14
  second ← two_at text 17
  seconds_of hour minute second

-- the marks between the numbers
abbrev pub has_marks : List ℕ → Bool
has_marks text =
    slice_index text 4 == 45 && slice_index text 7 == 45 && slice_index text 10 == 84 && slice_index text 13 == 58 && slice_index text 16 == 58

-- how many digits stand at the start
abbrev pub digit_count : List ℕ → ℕ
digit_count text = prefix_len is_ascii_digit text

-- how long the fraction is that stands at the start: none, or a dot and digits
abbrev pub fraction_length : List ℕ → Option ℕ
fraction_length [] = Some 0
fraction_length (b ∷ bs) = if b == 46 then (if digit_count bs == 0 then None else Some (digit_count bs + 1)) else Some 0

-- an offset's seconds with its sign
abbrev pub signed : ℕ → ℕ → Option ℤ
signed sign seconds =
    if sign == 43 then Some (pos seconds) else if sign == 45 then Some (neg_ℤ (pos seconds)) else None

-- the seconds of an offset whose colon stands in its place
abbrev pub signed_offset : List ℕ → Option ℤ
signed_offset text = do
  hour ← two_at text 1
  minute ← two_at text 4
  seconds ← seconds_of hour minute 0
  signed (slice_index text 0) seconds

-- the seconds of `+hh:mm` or `-hh:mm`
abbrev pub numeric_offset : List ℕ → Option ℤ
numeric_offset text = if length text == 6 && slice_index text 3 == 58 then signed_offset text else None

-- the seconds of an offset: `Z` is none
abbrev pub offset_of : List ℕ → Option ℤ
offset_of text = if length text == 1 && slice_index text 0 == 90 then Some (pos 0) else numeric_offset text

-- a number of seconds, if it lies in the years 1 to 9999
abbrev pub in_years : ℤ → Option ℤ
in_years n = if not (int_lt n first_moment) && not (int_lt last_moment n) then Some n else None

-- the moment of a text whose marks stand in their places
abbrev pub stamp : List ℕ → Option ℤ
stamp text = do
  day ← day_of text
  time ← time_of text
  fraction ← fraction_length (drop 19 text)
  offset ← offset_of (drop fraction (drop 19 text))
  in_years (day *ℤ pos 86400 +ℤ pos time -ℤ offset)

-- The moment that a text spells.
abbrev pub moment_of_text : List ℕ → Option ℤ
moment_of_text text = if has_marks text then stamp text else None
