-- Dates by counting days have the calendar's day numbers.
use Rattle.std.proofs.Common.{◌≡◌, ◌≤◌, ◌+◌, ℕ, pos, ◌-ℤ◌, zero, suc, ltb, subst, if◌then◌else◌, nat_lt, arith, refl, sym, ap, ◌∙◌, inl, inr}
use Rattle.std.proofs.lemmas.Bool.{cases_lt, lt-ltb, le-ltb, cond-true, cond-false}
use Rattle.jiff_core.specs.declared.civil.date.Date.{Date}
use Rattle.jiff_core.specs.Calendar.{days_in_month, days_from_civil, day_count}
use Rattle.jiff_core.specs.Date.{epoch_day}
use Rattle.jiff_core.proofs.SignedLemmas.{signed_arith}
use Rattle.jiff_core.proofs.CalendarLemmas.{days_from_civil-day_count, day_count-lt_year, days_in_month_bounds}
use Rattle.jiff_core.proofs.MarchLemmas.{day_count-early}
use Rattle.jiff_core.proofs.DateLemmas.{epoch_day_injective, civil, days_from_civil-day, days_from_civil-next_month, days_from_civil-next_year}
use Rattle.net_addr.specs.Civil.{CivilDate, next_date, date_after}

-- the calendar has the date, from the year 1 on, and it is that many days after 0001-01-01
pub record IsAfter (d : CivilDate) (n : ℕ) : Type 0 where
  pub year : 1 ≤ d.year
  pub month : (1 ≤ d.month) × (d.month ≤ 12)
  pub day : (1 ≤ d.day) × (d.day ≤ days_in_month (pos d.year) d.month)
  pub number : days_from_civil (pos d.year) d.month d.day ≡ pos n -ℤ pos 719162

first_day : days_from_civil (pos 1) 1 1 ≡ pos 0 -ℤ pos 719162
first_day =
    let count : day_count (pos 1) 1 1 ≡ 3652791 = day_count-early (pos 1) 10000 1 1 refl (omega arith) (omega arith) (omega arith) in
    omega (arith, signed_arith, days_from_civil-day_count (pos 1) 1 1)

-- the first of the next month follows the last of a month
month_is : (d : CivilDate) (n : ℕ) → IsAfter d n → d.day ≡ days_in_month (pos d.year) d.month
    → IsAfter (if nat_lt d.month 12 then record { year = d.year; month = d.month + 1; day = 1 } else record { year = d.year + 1; month = 1; day = 1 }) (suc n)
month_is d n h end =
    let y = d.year in
    let m = d.month in
    let next_month : CivilDate = record { year = y; month = m + 1; day = 1 } in
    let next_year : CivilDate = record { year = y + 1; month = 1; day = 1 } in
    elim (cases_lt m 12) [
      | inl below ↦
          let is : (if nat_lt m 12 then next_month else next_year) ≡ next_month = cond-true (ltb m 12) next_month next_year (lt-ltb _ _ below) in
          let long = days_in_month_bounds (pos y) (m + 1) in
          subst (λ (x : CivilDate). IsAfter x (suc n)) (sym is) (record {
            year = h.year;
            month = (omega arith, omega arith);
            day = (omega arith, omega (arith, long.1));
            number = omega (arith, signed_arith, days_from_civil-next_month (pos y) m d.day h.month.0 end, h.number);
          })
      | inr past ↦
          let is : (if nat_lt m 12 then next_month else next_year) ≡ next_year = cond-false (ltb m 12) next_month next_year (le-ltb _ _ past) in
          let december : m ≡ 12 = omega (arith, h.month) in
          let sylvester : d.day ≡ 31 = end ∙ ap (days_in_month (pos y)) december in
          let number : days_from_civil (pos y) 12 31 ≡ pos n -ℤ pos 719162 = rw (december, sylvester) at h.number in
          subst (λ (x : CivilDate). IsAfter x (suc n)) (sym is) (record {
            year = omega arith;
            month = (omega arith, omega arith);
            day = (omega arith, omega arith);
            number = omega (arith, signed_arith, days_from_civil-next_year (pos y) (pos (y + 1)) (omega (arith, signed_arith)) (omega (arith, signed_arith)), number);
          })
    ]

next_is : (d : CivilDate) (n : ℕ) → IsAfter d n → IsAfter (next_date d) (suc n)
next_is d n h =
    let y = d.year in
    let m = d.month in
    let last = days_in_month (pos y) m in
    let long = days_in_month_bounds (pos y) m in
    let later : CivilDate = if nat_lt m 12 then record { year = y; month = m + 1; day = 1 } else record { year = y + 1; month = 1; day = 1 } in
    let one_more : CivilDate = record { year = y; month = m; day = d.day + 1 } in
    elim (cases_lt d.day last) [
      | inl below ↦
          let is : next_date d ≡ one_more = cond-true (ltb d.day last) one_more later (lt-ltb _ _ below) in
          subst (λ (x : CivilDate). IsAfter x (suc n)) (sym is) (record {
            year = h.year;
            month = h.month;
            day = (omega arith, omega arith);
            number = omega (arith, signed_arith, days_from_civil-day (pos y) m d.day (d.day + 1) h.day.0 (omega arith), h.number);
          })
      | inr past ↦
          let end : d.day ≡ last = omega (arith, h.day.1) in
          let over : next_date d ≡ later = cond-false (ltb d.day last) one_more later (le-ltb _ _ past) in
          subst (λ (x : CivilDate). IsAfter x (suc n)) (sym over) (month_is d n h end)
    ]

pub date_after_is : (n : ℕ) → IsAfter (date_after n) n
unfolding date_after
date_after_is zero = record { year = omega arith; month = (omega arith, omega arith); day = (omega arith, omega arith); number = first_day }
date_after_is (suc n) = next_is (date_after n) n (date_after_is n)

-- a date with the same day number is the same date
pub same_date : (d : Date) (n : ℕ) → epoch_day d ≡ pos n -ℤ pos 719162
    → (d.year ≡ pos (date_after n).year) × (d.month ≡ (date_after n).month) × (d.day ≡ (date_after n).day)
same_date d n h =
    let e = date_after n in
    let is = date_after_is n in
    let y = e.year in
    let counted = days_from_civil-day_count d.year d.month d.day in
    let counting = days_from_civil-day_count (pos y) e.month e.day in
    let in_year : y ≤ 9999 = elim (cases_lt 9999 y) [
      | inl late ↦ absurd (omega (arith, signed_arith, h, is.number, day_count-lt_year d.year d.month d.day (pos y) e.month e.day (civil d) is.day.0 (omega (arith, signed_arith, d.year_in))))
      | inr early ↦ early
    ] in
    let other : Date = record { year = pos y; month = e.month; day = e.day; year_in = omega (arith, signed_arith); month_in = is.month; day_in = is.day } in
    epoch_day_injective d other (h ∙ sym is.number)
