-- The texts that are read as a moment spell it.
use Rattle.std.proofs.Common.{◌≡◌, ◌<◌, ◌≤◌, ◌+◌, ◌-◌, ◌*◌, ◌/◌, ◌%◌, ℕ, ℤ, zero, suc, pos, neg_ℤ, ◌+ℤ◌, ◌-ℤ◌, ◌*ℤ◌, int_lt, Bool, true, false, not, ◌&&◌, List, [], ◌∷◌, length, take, drop, get_or, eqb, leb, cond, Option, Some, None, arith, refl, sym, ap, ◌∙◌, inl, inr}
use Rattle.std.specs.Prelude.{◌↔◌}
use Rattle.std.specs.Char.{is_ascii_digit}
use Rattle.std.specs.List.{list_all}
use Rattle.std.specs.Option.{option_and_then}
use Rattle.std.proofs.lemmas.Bool.{and_parts, and_from, cases_Bool, leb-true, eqb-true, ne_eqb, not-true}
use Rattle.std.proofs.lemmas.Bool.Decides.{nat_tests}
use Rattle.std.proofs.lemmas.List.{take-append-drop, drop_all, drop_more}
use Rattle.jiff_core.specs.Calendar.{days_in_month, days_from_civil}
use Rattle.jiff_core.proofs.SignedLemmas.{signed_arith}
use Rattle.net_addr.specs.Moments.{IsMoment, first_moment, last_moment}
use Rattle.net_addr.specs.MomentReads.{day_number, day_of, digit_at, digit_count, fraction_length, has_marks, in_years, moment_of_text, numeric_offset, offset_of, seconds_of, signed, signed_offset, stamp, time_of, two_at}
use Rattle.net_addr.specs.SpellsMoment.{IsZone, SpellsMoment, Stamp, Zone, print_fraction, print_zone, two_before, zone_seconds}
use Rattle.net_addr.specs.SpellsMoment.Zone.{utc, ahead, behind}
use Rattle.net_addr.proofs.StampLemmas.{stamp_read}

-- ---- steps that gave a value

and_then_some : {A B : Type 0} (o : Option A) (f : A → Option B) (r : B) → option_and_then f o ≡ Some r → (x : A) × (o ≡ Some x) × (f x ≡ Some r)
and_then_some (Some x) f r h = (x, refl, h)
and_then_some None f r h = absurd (cc)

pick_some : {A : Type 0} (t : Bool) (x : Option A) (y : A) → cond t x None ≡ Some y → (t ≡ true) × (x ≡ Some y)
pick_some true x y h = (refl, h)
pick_some false x y h = absurd (cc)

some_same : {A : Type 0} (x y : A) → Some x ≡ Some y → x ≡ y
some_same x y h = cc

-- ---- bytes at their places

-- the text goes on with a byte that isn't 0
byte_from : (text : List ℕ) (place b : ℕ) → 0 < b → get_or text place 0 ≡ b → drop place text ≡ b ∷ drop (suc place) text
byte_from [] zero b some h = absurd (omega arith)
byte_from [] (suc place) b some h = absurd (omega arith)
byte_from (x ∷ text) zero b some h = ap (λ y. y ∷ text) h
byte_from (x ∷ text) (suc place) b some h = byte_from text place b some h

digit_shown : (text : List ℕ) (place digit : ℕ) → digit_at text place ≡ Some digit → (digit < 10) × (get_or text place 0 ≡ 48 + digit)
digit_shown text place digit h =
    let found = pick_some (is_ascii_digit (get_or text place 0)) (Some (get_or text place 0 - 48)) digit h in
    let same : get_or text place 0 - 48 ≡ digit = some_same _ _ found.1 in
    let test : is_ascii_digit (get_or text place 0) ≡ true = found.0 in
    (grind (arith, nat_tests), grind (arith, nat_tests))

-- the text goes on with the two digits of a number
pub record ShowsTwo (text : List ℕ) (place n : ℕ) : Type 0 where
  pub small : n < 100
  pub is : drop place text ≡ two_before n (drop (suc (suc place)) text)

two_shown : (text : List ℕ) (place n : ℕ) → two_at text place ≡ Some n → ShowsTwo text place n
two_shown text place n h =
    let tens = and_then_some (digit_at text place) (λ t. option_and_then (λ o. Some (t * 10 + o)) (digit_at text (place + 1))) n h in
    let ones = and_then_some (digit_at text (place + 1)) (λ o. Some (tens.0 * 10 + o)) n tens.2 in
    let whole : tens.0 * 10 + ones.0 ≡ n = some_same _ _ ones.2 in
    let first = digit_shown text place tens.0 tens.1 in
    let second = digit_shown text (place + 1) ones.0 ones.1 in
    let next : place + 1 ≡ suc place = omega arith in
    let high : get_or text place 0 ≡ 48 + n / 10 = omega arith in
    let low : get_or text (suc place) 0 ≡ 48 + n % 10 = ap (λ i. get_or text i 0) (sym next) ∙ omega arith in
    record {
      small = omega arith;
      is = byte_from text place (48 + n / 10) (omega arith) high ∙ ap (λ rest. (48 + n / 10) ∷ rest) (byte_from text (suc place) (48 + n % 10) (omega arith) low);
    }

-- ---- the parts

-- the calendar has the date
pub record IsDay (year month number : ℕ) (day : ℤ) : Type 0 where
  pub month_in : (1 ≤ month) × (month ≤ 12)
  pub number_in : (1 ≤ number) × (number ≤ days_in_month (pos year) month)
  pub is : day ≡ days_from_civil (pos year) month number

day_shown : (year month number : ℕ) (day : ℤ) → day_number year month number ≡ Some day → IsDay year month number day
day_shown year month number day h =
    let last = days_in_month (pos year) month in
    let found = pick_some (leb 1 month && leb month 12 && leb 1 number && leb number last) (Some (days_from_civil (pos year) month number)) day h in
    let day_tests = and_parts (leb 1 month && leb month 12 && leb 1 number) (leb number last) found.0 in
    let month_tests = and_parts (leb 1 month && leb month 12) (leb 1 number) day_tests.0 in
    let tests = and_parts (leb 1 month) (leb month 12) month_tests.0 in
    record {
      month_in = (leb-true 1 month tests.0, leb-true month 12 tests.1);
      number_in = (leb-true 1 number month_tests.1, leb-true number last day_tests.1);
      is = sym (some_same (days_from_civil (pos year) month number) day found.1);
    }

-- the text begins with a date
pub record ShowsDate (text : List ℕ) (day : ℤ) : Type 0 where
  pub year : ℕ
  pub month : ℕ
  pub number : ℕ
  pub year_in : year ≤ 9999
  pub month_in : (1 ≤ month) × (month ≤ 12)
  pub number_in : (1 ≤ number) × (number ≤ days_in_month (pos year) month)
  pub century : drop 0 text ≡ two_before (year / 100) (drop 2 text)
  pub years : drop 2 text ≡ two_before (year % 100) (drop 4 text)
  pub months : drop 5 text ≡ two_before month (drop 7 text)
  pub days : drop 8 text ≡ two_before number (drop 10 text)
  pub is : day ≡ days_from_civil (pos year) month number

date_shown : (text : List ℕ) (day : ℤ) → day_of text ≡ Some day → ShowsDate text day
date_shown text day h =
    let century = and_then_some (two_at text 0) (λ c. option_and_then (λ y. option_and_then (λ m. option_and_then (λ d. day_number (c * 100 + y) m d) (two_at text 8)) (two_at text 5)) (two_at text 2)) day h in
    let years = and_then_some (two_at text 2) (λ y. option_and_then (λ m. option_and_then (λ d. day_number (century.0 * 100 + y) m d) (two_at text 8)) (two_at text 5)) day century.2 in
    let year = century.0 * 100 + years.0 in
    let month = and_then_some (two_at text 5) (λ m. option_and_then (λ d. day_number year m d) (two_at text 8)) day years.2 in
    let number = and_then_some (two_at text 8) (λ d. day_number year month.0 d) day month.2 in
    let c = two_shown text 0 century.0 century.1 in
    let y = two_shown text 2 years.0 years.1 in
    let front : year / 100 ≡ century.0 = omega (arith, c.small, y.small) in
    let back : year % 100 ≡ years.0 = omega (arith, c.small, y.small) in
    let calendar = day_shown year month.0 number.0 day number.2 in
    record {
      year = year;
      month = month.0;
      number = number.0;
      year_in = omega (arith, c.small, y.small);
      month_in = calendar.month_in;
      number_in = calendar.number_in;
      century = c.is ∙ ap (λ n. two_before n (drop 2 text)) (sym front);
      years = y.is ∙ ap (λ n. two_before n (drop 4 text)) (sym back);
      months = (two_shown text 5 month.0 month.1).is;
      days = (two_shown text 8 number.0 number.1).is;
      is = calendar.is;
    }

seconds_shown : (hour minute second seconds : ℕ) → seconds_of hour minute second ≡ Some seconds
    → (hour ≤ 23) × (minute ≤ 59) × (second ≤ 59) × (seconds ≡ hour * 3600 + minute * 60 + second)
seconds_shown hour minute second seconds h =
    let found = pick_some (leb hour 23 && leb minute 59 && leb second 59) (Some (hour * 3600 + minute * 60 + second)) seconds h in
    let late = and_parts (leb hour 23 && leb minute 59) (leb second 59) found.0 in
    let early = and_parts (leb hour 23) (leb minute 59) late.0 in
    (leb-true hour 23 early.0, leb-true minute 59 early.1, leb-true second 59 late.1, sym (some_same (hour * 3600 + minute * 60 + second) seconds found.1))

-- behind the date stands a time of day
pub record ShowsTime (text : List ℕ) (seconds : ℕ) : Type 0 where
  pub hour : ℕ
  pub minute : ℕ
  pub second : ℕ
  pub hour_in : hour ≤ 23
  pub minute_in : minute ≤ 59
  pub second_in : second ≤ 59
  pub hours : drop 11 text ≡ two_before hour (drop 13 text)
  pub minutes : drop 14 text ≡ two_before minute (drop 16 text)
  pub seconds_at : drop 17 text ≡ two_before second (drop 19 text)
  pub is : seconds ≡ hour * 3600 + minute * 60 + second

time_shown : (text : List ℕ) (seconds : ℕ) → time_of text ≡ Some seconds → ShowsTime text seconds
time_shown text seconds h =
    let hour = and_then_some (two_at text 11) (λ a. option_and_then (λ b. option_and_then (seconds_of a b) (two_at text 17)) (two_at text 14)) seconds h in
    let minute = and_then_some (two_at text 14) (λ b. option_and_then (seconds_of hour.0 b) (two_at text 17)) seconds hour.2 in
    let second = and_then_some (two_at text 17) (seconds_of hour.0 minute.0) seconds minute.2 in
    let clock = seconds_shown hour.0 minute.0 second.0 seconds second.2 in
    record {
      hour = hour.0;
      minute = minute.0;
      second = second.0;
      hour_in = clock.0;
      minute_in = clock.1;
      second_in = clock.2;
      hours = (two_shown text 11 hour.0 hour.1).is;
      minutes = (two_shown text 14 minute.0 minute.1).is;
      seconds_at = (two_shown text 17 second.0 second.1).is;
      is = clock.3;
    }

-- the marks stand between the numbers
pub record ShowsMarks (text : List ℕ) : Type 0 where
  pub first_hyphen : drop 4 text ≡ 45 ∷ drop 5 text
  pub second_hyphen : drop 7 text ≡ 45 ∷ drop 8 text
  pub letter : drop 10 text ≡ 84 ∷ drop 11 text
  pub first_colon : drop 13 text ≡ 58 ∷ drop 14 text
  pub second_colon : drop 16 text ≡ 58 ∷ drop 17 text

marks_shown : (text : List ℕ) → has_marks text ≡ true → ShowsMarks text
marks_shown text h =
    let fifth = and_parts (eqb (get_or text 4 0) 45 && eqb (get_or text 7 0) 45 && eqb (get_or text 10 0) 84 && eqb (get_or text 13 0) 58) (eqb (get_or text 16 0) 58) h in
    let fourth = and_parts (eqb (get_or text 4 0) 45 && eqb (get_or text 7 0) 45 && eqb (get_or text 10 0) 84) (eqb (get_or text 13 0) 58) fifth.0 in
    let third = and_parts (eqb (get_or text 4 0) 45 && eqb (get_or text 7 0) 45) (eqb (get_or text 10 0) 84) fourth.0 in
    let second = and_parts (eqb (get_or text 4 0) 45) (eqb (get_or text 7 0) 45) third.0 in
    record {
      first_hyphen = byte_from text 4 45 (omega arith) (eqb-true _ 45 second.0);
      second_hyphen = byte_from text 7 45 (omega arith) (eqb-true _ 45 second.1);
      letter = byte_from text 10 84 (omega arith) (eqb-true _ 84 third.1);
      first_colon = byte_from text 13 58 (omega arith) (eqb-true _ 58 fourth.1);
      second_colon = byte_from text 16 58 (omega arith) (eqb-true _ 58 fifth.1);
    }

-- a fraction's digits stand before the offset
pub record ShowsFraction (text : List ℕ) (long : ℕ) : Type 0 where
  pub digits : List ℕ
  pub all : list_all is_ascii_digit digits ≡ true
  pub is : text ≡ print_fraction digits (drop long text)

digits_counted : (text : List ℕ) → list_all is_ascii_digit (take (digit_count text) text) ≡ true
digits_counted [] = refl
digits_counted (b ∷ bs) = elim (cases_Bool (is_ascii_digit b)) [
  | inl digit ↦
      let more : 1 + digit_count bs ≡ suc (digit_count bs) = omega arith in
      rw (digit, more) (and_from _ _ digit (digits_counted bs))
  | inr other ↦ rw other refl
]

fraction_behind : (text : List ℕ) (long : ℕ) → cond (eqb (digit_count text) 0) None (Some (digit_count text + 1)) ≡ Some long → ShowsFraction (46 ∷ text) long
fraction_behind [] long h = absurd (cc)
fraction_behind (b ∷ bs) long h = elim (cases_Bool (is_ascii_digit b)) [
  | inl digit ↦
      let count : digit_count (b ∷ bs) ≡ suc (digit_count bs) = rw digit (omega arith) in
      let some : eqb (suc (digit_count bs)) 0 ≡ false = ne_eqb _ 0 (λ e. omega arith) in
      let picked : Some (suc (digit_count bs) + 1) ≡ Some long = rw (count, some) at h in
      let same : long ≡ suc (suc (digit_count bs)) = omega (arith, some_same _ _ picked) in
      record {
        digits = b ∷ take (digit_count bs) bs;
        all = and_from _ _ digit (digits_counted bs);
        is = rw same (ap (λ xs. 46 ∷ b ∷ xs) (sym (take-append-drop (digit_count bs) bs)));
      }
  | inr other ↦
      let none : digit_count (b ∷ bs) ≡ 0 = rw other refl in
      absurd (cc (rw none at h))
]

fraction_shown : (text : List ℕ) (long : ℕ) → fraction_length text ≡ Some long → ShowsFraction text long
fraction_shown [] long h =
    let same : long ≡ 0 = sym (some_same _ _ h) in
    record { digits = []; all = refl; is = rw same refl }
fraction_shown (b ∷ bs) long h = elim (cases_Bool (eqb b 46)) [
  | inl dot ↦
      let is : b ≡ 46 = eqb-true b 46 dot in
      rw is (fraction_behind bs long (rw dot at h))
  | inr other ↦
      let none : Some 0 ≡ Some long = rw other at h in
      let same : long ≡ 0 = sym (some_same _ _ none) in
      record { digits = []; all = refl; is = rw same refl }
]

-- ---- the offset

signed_ahead : (seconds : ℕ) (n : ℤ) → signed 43 seconds ≡ Some n → n ≡ pos seconds
signed_ahead seconds n h = sym (some_same _ _ h)

signed_behind : (seconds : ℕ) (n : ℤ) → signed 45 seconds ≡ Some n → n ≡ neg_ℤ (pos seconds)
signed_behind seconds n h = sym (some_same _ _ h)

-- the text is an offset
pub record ShowsZone (text : List ℕ) (n : ℤ) : Type 0 where
  pub zone : Zone
  pub valid : IsZone zone
  pub is : text ≡ print_zone zone
  pub number : n ≡ zone_seconds zone

zone_of_sign : (text : List ℕ) (sign hour minute : ℕ) (n : ℤ) → hour ≤ 23 → minute ≤ 59 → text ≡ sign ∷ two_before hour (58 ∷ two_before minute [])
    → signed sign (hour * 3600 + minute * 60 + 0) ≡ Some n → ShowsZone text n
zone_of_sign text sign hour minute n hour_in minute_in is h = elim (cases_Bool (eqb sign 43)) [
  | inl plus ↦
      let same : sign ≡ 43 = eqb-true sign 43 plus in
      record { zone = ahead hour minute; valid = (hour_in, minute_in); is = rw same at is; number = signed_ahead _ n (rw same at h) }
  | inr other ↦
      elim (cases_Bool (eqb sign 45)) [
        | inl minus ↦
            let same : sign ≡ 45 = eqb-true sign 45 minus in
            record { zone = behind hour minute; valid = (hour_in, minute_in); is = rw same at is; number = signed_behind _ n (rw same at h) }
        | inr neither ↦ absurd (cc (rw (other, neither) at h))
      ]
]

-- a list of six
six : (text : List ℕ) → length text ≡ 6 → drop 6 text ≡ []
six text long = drop_all 6 text (omega arith)

signed_shown : (text : List ℕ) (n : ℤ) → length text ≡ 6 → get_or text 3 0 ≡ 58 → signed_offset text ≡ Some n → ShowsZone text n
signed_shown text n long mark h =
    let hour = and_then_some (two_at text 1) (λ a. option_and_then (λ b. option_and_then (signed (get_or text 0 0)) (seconds_of a b 0)) (two_at text 4)) n h in
    let minute = and_then_some (two_at text 4) (λ b. option_and_then (signed (get_or text 0 0)) (seconds_of hour.0 b 0)) n hour.2 in
    let seconds = and_then_some (seconds_of hour.0 minute.0 0) (signed (get_or text 0 0)) n minute.2 in
    let clock = seconds_shown hour.0 minute.0 0 seconds.0 seconds.1 in
    let sign : text ≡ get_or text 0 0 ∷ drop 1 text = drop_more text 0 0 (omega arith) in
    let hours = (two_shown text 1 hour.0 hour.1).is in
    let colon = byte_from text 3 58 (omega arith) mark in
    let minutes = (two_shown text 4 minute.0 minute.1).is in
    let whole : text ≡ get_or text 0 0 ∷ two_before hour.0 (58 ∷ two_before minute.0 []) =
    sign ∙ ap (λ xs. get_or text 0 0 ∷ xs) (hours ∙ ap (two_before hour.0) (colon ∙ ap (λ xs. 58 ∷ xs) (minutes ∙ ap (two_before minute.0) (six text long)))) in
    zone_of_sign text (get_or text 0 0) hour.0 minute.0 n clock.0 clock.1 whole (ap (signed (get_or text 0 0)) (sym clock.3) ∙ seconds.2)

numeric_shown : (text : List ℕ) (n : ℤ) → numeric_offset text ≡ Some n → ShowsZone text n
numeric_shown text n h =
    let found = pick_some (eqb (length text) 6 && eqb (get_or text 3 0) 58) (signed_offset text) n h in
    let tests = and_parts (eqb (length text) 6) (eqb (get_or text 3 0) 58) found.0 in
    signed_shown text n (eqb-true _ 6 tests.0) (eqb-true _ 58 tests.1) found.1

offset_shown : (text : List ℕ) (n : ℤ) → offset_of text ≡ Some n → ShowsZone text n
offset_shown text n h = elim (cases_Bool (eqb (length text) 1 && eqb (get_or text 0 0) 90)) [
  | inl letter ↦
      let tests = and_parts (eqb (length text) 1) (eqb (get_or text 0 0) 90) letter in
      let long : length text ≡ 1 = eqb-true _ 1 tests.0 in
      let byte = byte_from text 0 90 (omega arith) (eqb-true _ 90 tests.1) in
      let none : Some (pos 0) ≡ Some n = rw letter at h in
      record { zone = utc; valid = tt; is = byte ∙ ap (λ xs. 90 ∷ xs) (drop_all 1 text (omega arith)); number = sym (some_same _ _ none) }
  | inr other ↦ numeric_shown text n (rw other at h)
]

-- ---- the whole

years_shown : (m n : ℤ) → in_years m ≡ Some n → (m ≡ n) × IsMoment n
years_shown m n h =
    let found = pick_some (not (int_lt m first_moment) && not (int_lt last_moment m)) (Some m) n h in
    let tests = and_parts (not (int_lt m first_moment)) (not (int_lt last_moment m)) found.0 in
    let same : m ≡ n = some_same _ _ found.1 in
    let low : int_lt m first_moment ≡ false = not-true _ tests.0 in
    let high : int_lt last_moment m ≡ false = not-true _ tests.1 in
    (same, (omega (arith, signed_arith, low, same), omega (arith, signed_arith, high, same)))

-- the text is a stamp whose parts have these numbers
stamp_shown : (text : List ℕ) (day : ℤ) (time long : ℕ) (offset n : ℤ) → ShowsMarks text → ShowsDate text day → ShowsTime text time
    → ShowsFraction (drop 19 text) long → ShowsZone (drop long (drop 19 text)) offset → day *ℤ pos 86400 +ℤ pos time -ℤ offset ≡ n → IsMoment n → SpellsMoment text n
stamp_shown text day time long offset n marks date clock fraction zone number inside =
    let stamp : Stamp = record {
      year = date.year;
      month = date.month;
      day = date.number;
      hour = clock.hour;
      minute = clock.minute;
      second = clock.second;
      fraction = fraction.digits;
      zone = zone.zone;
    } in
    let ending = fraction.is ∙ ap (print_fraction fraction.digits) zone.is in
    let seconds = clock.seconds_at ∙ ap (two_before clock.second) ending in
    let minutes = clock.minutes ∙ ap (two_before clock.minute) (marks.second_colon ∙ ap (λ xs. 58 ∷ xs) seconds) in
    let hours = clock.hours ∙ ap (two_before clock.hour) (marks.first_colon ∙ ap (λ xs. 58 ∷ xs) minutes) in
    let days = date.days ∙ ap (two_before date.number) (marks.letter ∙ ap (λ xs. 84 ∷ xs) hours) in
    let months = date.months ∙ ap (two_before date.month) (marks.second_hyphen ∙ ap (λ xs. 45 ∷ xs) days) in
    let years = date.years ∙ ap (two_before (date.year % 100)) (marks.first_hyphen ∙ ap (λ xs. 45 ∷ xs) months) in
    record {
      stamp = stamp;
      valid = record {
        year = date.year_in;
        month = date.month_in;
        day = date.number_in;
        hour = clock.hour_in;
        minute = clock.minute_in;
        second = clock.second_in;
        fraction = fraction.all;
        zone = zone.valid;
      };
      is = date.century ∙ ap (two_before (date.year / 100)) years;
      number = sym number ∙ rw (date.is, clock.is, zone.number) refl;
      moment = inside;
    }

pub moment_spelled : (text : List ℕ) (n : ℤ) → moment_of_text text ≡ Some n → SpellsMoment text n
moment_spelled text n h =
    let whole = pick_some (has_marks text) (stamp text) n h in
    let day = and_then_some (day_of text) (λ d. option_and_then (λ t. option_and_then (λ f. option_and_then (λ o. in_years (d *ℤ pos 86400 +ℤ pos t -ℤ o)) (offset_of (drop f (drop 19 text)))) (fraction_length (drop 19 text))) (time_of text)) n whole.1 in
    let time = and_then_some (time_of text) (λ t. option_and_then (λ f. option_and_then (λ o. in_years (day.0 *ℤ pos 86400 +ℤ pos t -ℤ o)) (offset_of (drop f (drop 19 text)))) (fraction_length (drop 19 text))) n day.2 in
    let fraction = and_then_some (fraction_length (drop 19 text)) (λ f. option_and_then (λ o. in_years (day.0 *ℤ pos 86400 +ℤ pos time.0 -ℤ o)) (offset_of (drop f (drop 19 text)))) n time.2 in
    let offset = and_then_some (offset_of (drop fraction.0 (drop 19 text))) (λ o. in_years (day.0 *ℤ pos 86400 +ℤ pos time.0 -ℤ o)) n fraction.2 in
    let inside = years_shown (day.0 *ℤ pos 86400 +ℤ pos time.0 -ℤ offset.0) n offset.2 in
    stamp_shown text day.0 time.0 fraction.0 offset.0 n (marks_shown text whole.0) (date_shown text day.0 day.1) (time_shown text time.0 time.1)
    (fraction_shown (drop 19 text) fraction.0 fraction.1) (offset_shown (drop fraction.0 (drop 19 text)) offset.0 offset.1) inside.0 inside.1

-- the moment that is read is the one that the text spells
pub moment_means : (text : List ℕ) (r : Option ℤ) → r ≡ moment_of_text text → (n : ℤ) → SpellsMoment text n ↔ (r ≡ Some n)
moment_means text r is n = (λ h. is ∙ stamp_read text n h, λ e. moment_spelled text n (sym is ∙ e))
