-- What is written of a moment is read again.
use Rattle.std.proofs.Common.{◌≡◌, ◌<◌, ◌≤◌, ◌+◌, ◌*◌, ◌/◌, ◌%◌, ℕ, ℤ, pos, negsuc, unsigned_abs, ◌-ℤ◌, ◌≤ℤ◌, List, [], ◌∷◌, ◌++◌, Some, arith, rules, refl, sym, ap, ◌∙◌, inl, inr}
use Rattle.std.specs.Prelude.{codes}
use Rattle.std.specs.Fmt.{decimal}
use Rattle.std.proofs.lemmas.Bool.{cases_lt}
use Rattle.std.proofs.lemmas.Fmt.{decimal_digit}
use Rattle.jiff_core.specs.Calendar.{IsCivilDate}
use Rattle.jiff_core.proofs.CalendarLemmas.{days_from_civil-day_count, day_count-lt_year, days_in_month_bounds}
use Rattle.jiff_core.proofs.DateLemmas.{days_from_civil-max}
use Rattle.jiff_core.proofs.SignedLemmas.{signed_arith}
use Rattle.net_addr.specs.Civil.{date_after}
use Rattle.net_addr.specs.Moments.{IsMoment, first_moment}
use Rattle.net_addr.specs.MomentReads.{moment_of_text}
use Rattle.net_addr.specs.MomentTexts.{instant_text, moment_text, two}
use Rattle.net_addr.specs.SpellsMoment.{IsStamp, SpellsMoment, Stamp, print_stamp, stamp_seconds}
use Rattle.net_addr.specs.SpellsMoment.Zone.{utc}
use Rattle.net_addr.proofs.CivilLemmas.{date_after_is}
use Rattle.net_addr.proofs.StampLemmas.{stamp_read}

abbrev pair : ℕ → List ℕ
pair n = (48 + n / 10) ∷ (48 + n % 10) ∷ []

two_is : (n : ℕ) → n < 100 → two n ≡ pair n
two_is n small =
    let tens : decimal (n / 10) ≡ (48 + n / 10) ∷ [] = decimal_digit (n / 10) (omega arith) in
    let ones : decimal (n % 10) ≡ (48 + n % 10) ∷ [] = decimal_digit (n % 10) (omega arith) in
    ap (λ xs. xs ++ decimal (n % 10)) tens ∙ ap (λ xs. (48 + n / 10) ∷ xs) ones

in_years : (n : ℕ) → n ≤ 3652058 → (date_after n).year ≤ 9999
in_years n small =
    let d = date_after n in
    let is = date_after_is n in
    elim (cases_lt 9999 d.year) [
      | inr early ↦ early
      | inl late ↦
          let last : IsCivilDate (pos 9999) 12 31 = search rules in
          let later = day_count-lt_year (pos 9999) 12 31 (pos d.year) d.month d.day last is.day.0 (omega (arith, signed_arith)) in
          absurd (omega (arith, signed_arith, is.number, days_from_civil-max, days_from_civil-day_count (pos 9999) 12 31, days_from_civil-day_count (pos d.year) d.month d.day))
    ]

-- the stamp that is written
abbrev stamp_of : ℕ → Stamp
stamp_of total =
    let d = date_after (total / 86400) in
    let s = total % 86400 in
    record { year = d.year; month = d.month; day = d.day; hour = s / 3600; minute = s / 60 % 60; second = s % 60; fraction = []; zone = utc }

stamp_valid : (total : ℕ) → total ≤ 315537897599 → IsStamp (stamp_of total)
stamp_valid total small =
    let is = date_after_is (total / 86400) in
    record {
      year = in_years (total / 86400) (omega arith);
      month = is.month;
      day = is.day;
      hour = omega arith;
      minute = omega arith;
      second = omega arith;
      fraction = refl;
      zone = tt;
    }

-- the pieces in a row
pieces : List ℕ → List ℕ → List ℕ → List ℕ → List ℕ → List ℕ → List ℕ → List ℕ
pieces a b c d e f g =
    (a ++ b ++ (codes "-" ++ c) ++ (codes "-" ++ d)) ++ codes "T" ++ (e ++ (codes ":" ++ f) ++ (codes ":" ++ g)) ++ codes "Z"

printed : (year month day hour minute second : ℕ) → year ≤ 9999 → month < 100 → day < 100 → hour < 100 → minute < 100 → second < 100
    → pieces (two (year / 100)) (two (year % 100)) (two month) (two day) (two hour) (two minute) (two second)
    ≡ print_stamp (record { year = year; month = month; day = day; hour = hour; minute = minute; second = second; fraction = []; zone = utc })
unfolding pieces
printed year month day hour minute second y m d h n s =
    ap (λ x. pieces x (two (year % 100)) (two month) (two day) (two hour) (two minute) (two second)) (two_is (year / 100) (omega arith))
    ∙ ap (λ x. pieces (pair (year / 100)) x (two month) (two day) (two hour) (two minute) (two second)) (two_is (year % 100) (omega arith))
    ∙ ap (λ x. pieces (pair (year / 100)) (pair (year % 100)) x (two day) (two hour) (two minute) (two second)) (two_is month m)
    ∙ ap (λ x. pieces (pair (year / 100)) (pair (year % 100)) (pair month) x (two hour) (two minute) (two second)) (two_is day d)
    ∙ ap (λ x. pieces (pair (year / 100)) (pair (year % 100)) (pair month) (pair day) x (two minute) (two second)) (two_is hour h)
    ∙ ap (λ x. pieces (pair (year / 100)) (pair (year % 100)) (pair month) (pair day) (pair hour) x (two second)) (two_is minute n)
    ∙ ap (λ x. pieces (pair (year / 100)) (pair (year % 100)) (pair month) (pair day) (pair hour) (pair minute) x) (two_is second s)

text_is : (total : ℕ) → total ≤ 315537897599 → instant_text total ≡ print_stamp (stamp_of total)
unfolding pieces
text_is total small =
    let d = date_after (total / 86400) in
    let is = date_after_is (total / 86400) in
    let year = in_years (total / 86400) (omega arith) in
    let long = days_in_month_bounds (pos d.year) d.month in
    let s = total % 86400 in
    printed d.year d.month d.day (s / 3600) (s / 60 % 60) (s % 60) (omega arith) (omega (arith, is.month)) (omega (arith, is.day, long.0)) (omega arith) (omega arith) (omega arith)

seconds_are : (n : ℤ) (total : ℕ) → n -ℤ first_moment ≡ pos total → n ≡ stamp_seconds (stamp_of total)
seconds_are n total h =
    let is = date_after_is (total / 86400) in
    let time : total % 86400 / 3600 * 3600 + total % 86400 / 60 % 60 * 60 + total % 86400 % 60 ≡ total % 86400 = omega arith in
    let whole : total / 86400 * 86400 + total % 86400 ≡ total = omega arith in
    omega (arith, signed_arith, is.number, h)

own_size : (z : ℤ) → pos 0 ≤ℤ z → z ≡ pos (unsigned_abs z)
own_size (pos k) h = refl
own_size (negsuc k) h = absurd (omega (arith, signed_arith, h))

pub moment_written : (n : ℤ) → IsMoment n → SpellsMoment (moment_text n) n
moment_written n h =
    let total = unsigned_abs (n -ℤ first_moment) in
    let up : n -ℤ first_moment ≡ pos total = own_size (n -ℤ first_moment) (omega (arith, signed_arith, h.0)) in
    let small : total ≤ 315537897599 = omega (arith, signed_arith, h.1, up) in
    record { stamp = stamp_of total; valid = stamp_valid total small; is = text_is total small; number = seconds_are n total up; moment = h }

pub moment_again : (n : ℤ) → IsMoment n → (text : List ℕ) → text ≡ moment_text n → moment_of_text text ≡ Some n
moment_again n h text is = ap moment_of_text is ∙ stamp_read (moment_text n) n (moment_written n h)

some_same : (a b : ℤ) → Some a ≡ Some b → a ≡ b
some_same a b h = cc

-- moments with one text are equal
pub moment_text-injective : (a b : ℤ) → IsMoment a → IsMoment b → moment_text a ≡ moment_text b → a ≡ b
moment_text-injective a b left right same = some_same a b (sym (moment_again a left (moment_text a) refl) ∙ moment_again b right (moment_text a) same)
