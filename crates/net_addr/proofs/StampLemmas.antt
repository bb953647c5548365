-- The texts that spell a moment are read as it.
use Rattle.std.proofs.Common.{◌≡◌, ◌<◌, ◌≤◌, ◌+◌, ◌-◌, ◌*◌, ◌/◌, ◌%◌, ℕ, ℤ, pos, neg_ℤ, int_lt, suc, true, false, not, ◌&&◌, List, [], ◌∷◌, ◌++◌, length, drop, get_or, eqb, leb, Some, None, arith, refl, sym, ap, ◌∙◌}
use Rattle.std.specs.Char.{is_ascii_digit}
use Rattle.std.specs.List.{list_all}
use Rattle.std.specs.Option.{option_and_then}
use Rattle.std.proofs.lemmas.Bool.{and_parts, and_from, cond-true, cond-false, le-leb, ne_eqb, not_from_false, false_from_ne_true}
use Rattle.std.proofs.lemmas.Bool.Decides.{nat_tests}
use Rattle.std.proofs.lemmas.List.{drop_at}
use Rattle.jiff_core.specs.Calendar.{days_in_month, days_from_civil}
use Rattle.jiff_core.proofs.CalendarLemmas.{days_in_month_bounds}
use Rattle.jiff_core.proofs.SignedLemmas.{signed_arith}
use Rattle.net_addr.specs.Moments.{IsMoment, first_moment, last_moment}
use Rattle.net_addr.specs.MomentReads.{day_number, day_of, digit_at, digit_count, fraction_length, in_years, moment_of_text, offset_of, seconds_of, signed, signed_offset, time_of, two_at}
use Rattle.net_addr.specs.SpellsMoment.{IsStamp, IsZone, SpellsMoment, Stamp, Zone, print_fraction, print_stamp, print_zone, stamp_seconds, two_before, zone_seconds}
use Rattle.net_addr.specs.SpellsMoment.Zone.{utc, ahead, behind}
use Rattle.net_addr.proofs.DayLemmas.{stamp_is}

digit_read : (text : List ℕ) (place digit : ℕ) → get_or text place 0 ≡ 48 + digit → digit < 10 → digit_at text place ≡ Some digit
digit_read text place digit is small =
    let test : is_ascii_digit (get_or text place 0) ≡ true = rw is (grind (arith, nat_tests)) in
    let back : get_or text place 0 - 48 ≡ digit = omega arith in
    cond-true (is_ascii_digit (get_or text place 0)) (Some (get_or text place 0 - 48)) None test ∙ ap Some back

two_read : (text : List ℕ) (place n : ℕ) → n < 100 → get_or text place 0 ≡ 48 + n / 10 → get_or text (place + 1) 0 ≡ 48 + n % 10 → two_at text place ≡ Some n
two_read text place n small tens ones =
    let first = digit_read text place (n / 10) tens (omega arith) in
    let second = digit_read text (place + 1) (n % 10) ones (omega arith) in
    let whole : n / 10 * 10 + n % 10 ≡ n = omega arith in
    ap (option_and_then (λ t. option_and_then (λ o. Some (t * 10 + o)) (digit_at text (place + 1)))) first ∙ ap (option_and_then (λ o. Some (n / 10 * 10 + o))) second ∙ ap Some whole

seconds_read : (hour minute second : ℕ) → hour ≤ 23 → minute ≤ 59 → second ≤ 59 → seconds_of hour minute second ≡ Some (hour * 3600 + minute * 60 + second)
seconds_read hour minute second h m s =
    cond-true (leb hour 23 && leb minute 59 && leb second 59) (Some (hour * 3600 + minute * 60 + second)) None
    (and_from _ _ (and_from _ _ (le-leb hour 23 h) (le-leb minute 59 m)) (le-leb second 59 s))

day_read : (s : Stamp) → IsStamp s → day_of (print_stamp s) ≡ Some (days_from_civil (pos s.year) s.month s.day)
day_read s h =
    let text = print_stamp s in
    let month_small : s.month < 100 = omega (arith, h.month) in
    let y = two_read text 0 (s.year / 100) (omega (arith, h.year)) refl refl in
    let z = two_read text 2 (s.year % 100) (omega arith) refl refl in
    let m = two_read text 5 s.month month_small refl refl in
    let long = days_in_month_bounds (pos s.year) s.month in
    let d = two_read text 8 s.day (omega (arith, h.day.1, long.0)) refl refl in
    let whole : s.year / 100 * 100 + s.year % 100 ≡ s.year = omega arith in
    ap (option_and_then (λ century. option_and_then (λ years. option_and_then (λ month. option_and_then (λ day. day_number (century * 100 + years) month day) (two_at text 8)) (two_at text 5)) (two_at text 2))) y
    ∙ ap (option_and_then (λ years. option_and_then (λ month. option_and_then (λ day. day_number (s.year / 100 * 100 + years) month day) (two_at text 8)) (two_at text 5))) z
    ∙ ap (option_and_then (λ month. option_and_then (λ day. day_number (s.year / 100 * 100 + s.year % 100) month day) (two_at text 8))) m
    ∙ ap (option_and_then (λ day. day_number (s.year / 100 * 100 + s.year % 100) s.month day)) d
    ∙ ap (λ year. day_number year s.month s.day) whole
    ∙ cond-true (leb 1 s.month && leb s.month 12 && leb 1 s.day && leb s.day (days_in_month (pos s.year) s.month)) (Some (days_from_civil (pos s.year) s.month s.day)) None
    (and_from _ _ (and_from _ _ (and_from _ _ (le-leb 1 s.month h.month.0) (le-leb s.month 12 h.month.1)) (le-leb 1 s.day h.day.0)) (le-leb s.day (days_in_month (pos s.year) s.month) h.day.1))

time_read : (s : Stamp) → IsStamp s → time_of (print_stamp s) ≡ Some (s.hour * 3600 + s.minute * 60 + s.second)
time_read s h =
    let text = print_stamp s in
    let a = two_read text 11 s.hour (omega (arith, h.hour)) refl refl in
    let b = two_read text 14 s.minute (omega (arith, h.minute)) refl refl in
    let c = two_read text 17 s.second (omega (arith, h.second)) refl refl in
    ap (option_and_then (λ hour. option_and_then (λ minute. option_and_then (seconds_of hour minute) (two_at text 17)) (two_at text 14))) a
    ∙ ap (option_and_then (λ minute. option_and_then (seconds_of s.hour minute) (two_at text 17))) b
    ∙ ap (option_and_then (seconds_of s.hour s.minute)) c
    ∙ seconds_read s.hour s.minute s.second h.hour h.minute h.second

signed_read : (sign hour minute : ℕ) (n : ℤ) → hour ≤ 23 → minute ≤ 59 → signed sign (hour * 3600 + minute * 60 + 0) ≡ Some n
    → signed_offset (sign ∷ two_before hour (58 ∷ two_before minute [])) ≡ Some n
signed_read sign hour minute n h m is =
    let text = sign ∷ two_before hour (58 ∷ two_before minute []) in
    let a = two_read text 1 hour (omega arith) refl refl in
    let b = two_read text 4 minute (omega arith) refl refl in
    ap (option_and_then (λ x. option_and_then (λ y. option_and_then (signed sign) (seconds_of x y 0)) (two_at text 4))) a
    ∙ ap (option_and_then (λ y. option_and_then (signed sign) (seconds_of hour y 0))) b
    ∙ ap (option_and_then (signed sign)) (seconds_read hour minute 0 h m (omega arith))
    ∙ is

offset_read : (zone : Zone) → IsZone zone → offset_of (print_zone zone) ≡ Some (zone_seconds zone)
offset_read utc h = refl
offset_read (ahead hour minute) h = signed_read 43 hour minute (pos (hour * 3600 + minute * 60 + 0)) h.0 h.1 refl
offset_read (behind hour minute) h = signed_read 45 hour minute (neg_ℤ (pos (hour * 3600 + minute * 60 + 0))) h.0 h.1 refl

count_read : (digits : List ℕ) (b : ℕ) (rest : List ℕ) → list_all is_ascii_digit digits ≡ true → is_ascii_digit b ≡ false → digit_count (digits ++ b ∷ rest) ≡ length digits
count_read [] b rest h other = cond-false (is_ascii_digit b) _ 0 other
count_read (d ∷ digits) b rest h other =
    let parts = and_parts (is_ascii_digit d) (list_all is_ascii_digit digits) h in
    let more = count_read digits b rest parts.1 other in
    let next : 1 + digit_count (digits ++ b ∷ rest) ≡ suc (length digits) = omega arith in
    cond-true (is_ascii_digit d) (1 + digit_count (digits ++ b ∷ rest)) 0 parts.0 ∙ next

in_years_read : (n : ℤ) → IsMoment n → in_years n ≡ Some n
in_years_read n h =
    let low : int_lt n first_moment ≡ false = false_from_ne_true (int_lt n first_moment) (λ before. omega (arith, signed_arith, before, h.0)) in
    let high : int_lt last_moment n ≡ false = false_from_ne_true (int_lt last_moment n) (λ after. omega (arith, signed_arith, after, h.1)) in
    cond-true (not (int_lt n first_moment) && not (int_lt last_moment n)) (Some n) None (and_from _ _ (not_from_false _ low) (not_from_false _ high))

-- the fraction ends where the offset begins
pub record EndsFraction (text zone : List ℕ) : Type 0 where
  pub long : ℕ
  pub counted : fraction_length text ≡ Some long
  pub rest : drop long text ≡ zone

fraction_before : (digit : ℕ) (digits : List ℕ) (b : ℕ) (zone : List ℕ) → list_all is_ascii_digit (digit ∷ digits) ≡ true → is_ascii_digit b ≡ false
    → EndsFraction (46 ∷ digit ∷ digits ++ b ∷ zone) (b ∷ zone)
fraction_before digit digits b zone all other =
    let count = count_read (digit ∷ digits) b zone all other in
    let some : eqb (digit_count (digit ∷ digits ++ b ∷ zone)) 0 ≡ false = ne_eqb _ 0 (λ e. omega arith) in
    let n = suc (length digits) + 1 in
    let same : digit_count (digit ∷ digits ++ b ∷ zone) + 1 ≡ n = omega arith in
    let long : length (46 ∷ digit ∷ digits) ≡ n = omega arith in
    record {
      long = n;
      counted = cond-false (eqb (digit_count (digit ∷ digits ++ b ∷ zone)) 0) None (Some (digit_count (digit ∷ digits ++ b ∷ zone) + 1)) some ∙ ap Some same;
      rest = drop_at (46 ∷ digit ∷ digits) (b ∷ zone) n long;
    }

fraction_read : (digits : List ℕ) (zone : Zone) → list_all is_ascii_digit digits ≡ true → EndsFraction (print_fraction digits (print_zone zone)) (print_zone zone)
fraction_read [] utc all = record { long = 0; counted = refl; rest = refl }
fraction_read [] (ahead hour minute) all = record { long = 0; counted = refl; rest = refl }
fraction_read [] (behind hour minute) all = record { long = 0; counted = refl; rest = refl }
fraction_read (digit ∷ digits) utc all = fraction_before digit digits 90 [] all refl
fraction_read (digit ∷ digits) (ahead hour minute) all = fraction_before digit digits 43 (two_before hour (58 ∷ two_before minute [])) all refl
fraction_read (digit ∷ digits) (behind hour minute) all = fraction_before digit digits 45 (two_before hour (58 ∷ two_before minute [])) all refl

pub print_read : (s : Stamp) → IsStamp s → moment_of_text (print_stamp s) ≡ in_years (stamp_seconds s)
print_read s h =
    let ends = fraction_read s.fraction s.zone h.fraction in
    stamp_is (print_stamp s) (days_from_civil (pos s.year) s.month s.day) (s.hour * 3600 + s.minute * 60 + s.second) ends.long (zone_seconds s.zone)
    refl (day_read s h) (time_read s h) ends.counted (ap offset_of ends.rest ∙ offset_read s.zone h.zone)

pub stamp_read : (text : List ℕ) (n : ℤ) → SpellsMoment text n → moment_of_text text ≡ Some n
stamp_read text n h =
    ap moment_of_text h.is ∙ print_read h.stamp h.valid ∙ ap in_years (sym h.number) ∙ in_years_read n h.moment
