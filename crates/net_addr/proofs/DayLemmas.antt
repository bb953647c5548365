-- What the parts of a moment's text lead to.
use Rattle.std.proofs.Common.{◌≡◌, ℕ, ℤ, pos, ◌+ℤ◌, ◌-ℤ◌, ◌*ℤ◌, true, ◌&&◌, leb, List, drop, Some, None, Option, arith, refl, sym, ap, ◌∙◌}
use Rattle.std.specs.Option.{option_and_then}
use Rattle.std.proofs.lemmas.Bool.{and_from, le-leb, cond-true}
use Rattle.jiff_core.specs.declared.civil.date.Date.{Date}
use Rattle.jiff_core.specs.Calendar.{IsDate, days_in_month, days_from_civil}
use Rattle.jiff_core.specs.Date.{IsYmd, epoch_day}
use Rattle.jiff_core.proofs.SignedLemmas.{signed_arith}
use Rattle.net_addr.specs.MomentReads.{day_number, day_of, time_of, fraction_length, offset_of, has_marks, in_years, moment_of_text, stamp}

-- the day number of a date that the calendar has
pub day_is : (date : Date) (y m d : ℕ) → IsDate (pos y) (pos m) (pos d) → IsYmd (pos y) (pos m) (pos d) date → Some (epoch_day date) ≡ day_number y m d
day_is date y m d in_calendar parts =
    let month : date.month ≡ m = omega (arith, signed_arith, parts.1) in
    let day : date.day ≡ d = omega (arith, signed_arith, parts.2) in
    let last = days_in_month (pos y) m in
    let test : (leb 1 m && leb m 12 && leb 1 d && leb d last) ≡ true =
    and_from _ _ (and_from _ _ (and_from _ _
    (le-leb 1 m (omega (arith, signed_arith, in_calendar.1)))
    (le-leb m 12 (omega (arith, signed_arith, in_calendar.1))))
    (le-leb 1 d (omega (arith, signed_arith, in_calendar.2))))
    (le-leb d last (omega (arith, signed_arith, in_calendar.2))) in
    let same : epoch_day date ≡ days_from_civil (pos y) m d = rw (parts.0, month, day) refl in
    ap Some same ∙ sym (cond-true _ (Some (days_from_civil (pos y) m d)) None test)

-- the value of a text whose parts are read
pub stamp_is : (text : List ℕ) (day : ℤ) (time fraction : ℕ) (offset : ℤ) → has_marks text ≡ true → day_of text ≡ Some day → time_of text ≡ Some time
    → fraction_length (drop 19 text) ≡ Some fraction → offset_of (drop fraction (drop 19 text)) ≡ Some offset
    → moment_of_text text ≡ in_years (day *ℤ pos 86400 +ℤ pos time -ℤ offset)
stamp_is text day time fraction offset marks day_read time_read fraction_read offset_read =
    let last : (f : ℤ → Option ℤ) → option_and_then f (offset_of (drop fraction (drop 19 text))) ≡ f offset = λ f. ap (option_and_then f) offset_read in
    let third : (f : ℕ → Option ℤ) → option_and_then f (fraction_length (drop 19 text)) ≡ f fraction = λ f. ap (option_and_then f) fraction_read in
    let second : (f : ℕ → Option ℤ) → option_and_then f (time_of text) ≡ f time = λ f. ap (option_and_then f) time_read in
    let first : (f : ℤ → Option ℤ) → option_and_then f (day_of text) ≡ f day = λ f. ap (option_and_then f) day_read in
    cond-true (has_marks text) (stamp text) None marks ∙ first _ ∙ second _ ∙ third _ ∙ last _
