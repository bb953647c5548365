-- Moments as numbers of seconds since 1970-01-01T00:00:00Z (RFC 3339's years 1 to 9999).
use Rattle.std.specs.Prelude.{ℤ, ◌≤ℤ◌, int_lt, if◌then◌else◌}
use Rattle.net_addr.specs.declared.moment.TheConstants.{FIRST_SECOND, LAST_SECOND}

-- 0001-01-01T00:00:00Z
abbrev pub first_moment : ℤ
first_moment = FIRST_SECOND

-- 9999-12-31T23:59:59Z
abbrev pub last_moment : ℤ
last_moment = LAST_SECOND

-- it lies in the years 1 to 9999
abbrev pub IsMoment : ℤ → Type 0
IsMoment n = (first_moment ≤ℤ n) × (n ≤ℤ last_moment)

-- the number, or the nearer end of the moments
abbrev pub clamped : ℤ → ℤ
clamped n = if int_lt n first_moment then first_moment else (if int_lt last_moment n then last_moment else n)

abbrev pub later_of : ℤ → ℤ → ℤ
later_of a b = if int_lt a b then b else a
