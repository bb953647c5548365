-- Whether bytes end inside a request target, byte after byte.
use Rattle.std.specs.Prelude.{ℕ, List, [], ◌∷◌, Bool, true, false, if◌then◌else◌, ◌==◌}
use Rattle.httparse.specs.Grammar.{is_token_byte, is_uri_byte}
use Rattle.http_front.specs.declared.target.Place.{Place}
use Rattle.http_front.specs.declared.target.Place.TheVariants as place

-- where the next byte leads
abbrev pub after : Place → ℕ → Place
after place.LineStart b = if b == 10 then place.LineStart else (if b == 13 then place.LineBreak else (if is_token_byte b then place.Method else place.Elsewhere))
after place.LineBreak b = if b == 10 then place.LineStart else place.Elsewhere
after place.Method b = if b == 32 then place.Target else (if is_token_byte b then place.Method else place.Elsewhere)
after place.Target b = if is_uri_byte b then place.Target else place.Elsewhere
after place.Elsewhere b = place.Elsewhere

-- whether the place is inside a target
abbrev pub is_target : Place → Bool
is_target place.LineStart = false
is_target place.LineBreak = false
is_target place.Method = false
is_target place.Target = true
is_target place.Elsewhere = false

-- whether the bytes lead from the place into a target
abbrev pub ends_in_target : Place → List ℕ → Bool
ends_in_target p [] = is_target p
ends_in_target p (b ∷ bs) = ends_in_target (after p b) bs
