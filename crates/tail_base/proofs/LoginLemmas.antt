-- Which texts are read as logins. A login is split at its first `@`.
use Rattle.std.proofs.Common.{◌≡◌, ◌<◌, ◌+◌, ℕ, suc, Bool, true, false, not, ◌&&◌, List, [], ◌∷◌, ◌++◌, length, take, drop, map, get_or, arith, ltb, leb, eqb, cond, Option, Some, None, inl, inr, refl, sym, ap, ◌∙◌}
use Rattle.std.specs.Prelude.{◌↔◌}
use Rattle.std.specs.Char.{to_ascii_lowercase}
use Rattle.std.specs.List.{list_any, list_all, position, position_or_len, before_first, after_first}
use Rattle.std.specs.Str.{IsAscii}
use Rattle.std.proofs.lemmas.Bool.{and_parts, and_from, cases_Bool, cond-true, lt-ltb, ltb-true, eqb-true, not_from_false}
use Rattle.std.proofs.lemmas.Bool.Decides.{nat_tests}
use Rattle.std.proofs.Math.Seq.{drop-append-add}
use Rattle.std.proofs.lemmas.List.{length-append, take_at}
use Rattle.std.proofs.lemmas.List.Sums.{split_at_first, passes_at_first}
use Rattle.tail_base.specs.Logins.{is_login, is_user, is_user_byte, is_login_domain, is_domain_byte, login_of}
use Rattle.tail_base.specs.SpellsLogin.{LoginParts, IsLoginParts, SpellsLogin, print_login}
use Rattle.tail_base.proofs.AllBytes.{all_weaker, all_append, all_ascii}

any_first : (p : ℕ → Bool) (bs : List ℕ) → list_any p bs ≡ ltb (position_or_len p bs) (length bs)
any_first p [] = refl
any_first p (b ∷ bs) =
    let more = any_first p bs in
    elim (cases_Bool (p b)) [
      | inl hit ↦ rw hit (grind (arith, nat_tests))
      | inr miss ↦ rw miss (grind (arith, nat_tests, more))
    ]

pick_some : (t : Bool) (n i : ℕ) → cond t (Some n) None ≡ Some i → (t ≡ true) × (n ≡ i)
pick_some true n i h = (refl, cc)
pick_some false n i h = absurd (cc)

pick_none : (t : Bool) (n : ℕ) → cond t (Some n) None ≡ None → t ≡ false
pick_none true n h = absurd (cc)
pick_none false n h = refl

abbrev at : ℕ → Bool
at b = eqb b 64

login_at : (bs : List ℕ) (i : ℕ) → position at bs ≡ Some i → is_login bs ≡ (is_user (take i bs) && is_login_domain (drop (i + 1) bs))
login_at bs i h =
    let found = pick_some _ _ i h in
    rw (any_first at bs) (rw (found.0, found.1) refl)

-- a text with an `@` after a user's name is a login where a domain comes behind it
pub login_of_user : (bs : List ℕ) (i : ℕ) → position at bs ≡ Some i → is_user (take i bs) ≡ true → is_login bs ≡ is_login_domain (drop (i + 1) bs)
login_of_user bs i h user = login_at bs i h ∙ ap (λ t. t && is_login_domain (drop (i + 1) bs)) user

pub login_of_no_user : (bs : List ℕ) (i : ℕ) → position at bs ≡ Some i → is_user (take i bs) ≡ false → is_login bs ≡ false
login_of_no_user bs i h other = login_at bs i h ∙ ap (λ t. t && is_login_domain (drop (i + 1) bs)) other

-- a text with no `@` is no login
pub login_none : (bs : List ℕ) → position at bs ≡ None → is_login bs ≡ false
login_none bs h = rw (any_first at bs) (rw (pick_none _ _ h) refl)

-- ---- the parts

user_byte_other : (b : ℕ) → is_user_byte b ≡ true → at b ≡ false
user_byte_other b h = grind (arith, nat_tests)

user_ends : (user domain : List ℕ) → list_all is_user_byte user ≡ true → position_or_len at (user ++ 64 ∷ domain) ≡ length user
user_ends [] domain h = refl
user_ends (b ∷ bs) domain h =
    let parts = and_parts (is_user_byte b) (list_all is_user_byte bs) h in
    let rest = user_ends bs domain parts.1 in
    let more : 1 + position_or_len at (bs ++ 64 ∷ domain) ≡ suc (length bs) = omega arith in
    cond-true (not (at b)) (1 + position_or_len at (bs ++ 64 ∷ domain)) 0 (not_from_false (at b) (user_byte_other b parts.0)) ∙ more

user_bytes : (user : List ℕ) → is_user user ≡ true → list_all is_user_byte user ≡ true
user_bytes user h = (and_parts (leb 1 (length user) && leb (length user) 63) (list_all is_user_byte user) h).1

domain_bytes : (domain : List ℕ) → is_login_domain domain ≡ true → list_all is_domain_byte domain ≡ true
domain_bytes domain h = (and_parts (leb (length domain) 63) (list_all is_domain_byte domain) h).1

login_printed : (p : LoginParts) → IsLoginParts p → is_login (print_login p) ≡ true
login_printed p h =
    let whole = p.user ++ 64 ∷ p.domain in
    let place = user_ends p.user p.domain (user_bytes p.user h.user) in
    let inside : ltb (position_or_len at whole) (length whole) ≡ true = lt-ltb _ _ (omega (arith, length-append p.user (64 ∷ p.domain))) in
    let at_sign : position at whole ≡ Some (length p.user) = cond-true (ltb (position_or_len at whole) (length whole)) (Some (position_or_len at whole)) None inside ∙ ap Some place in
    let front : take (length p.user) whole ≡ p.user = take_at p.user (64 ∷ p.domain) (length p.user) refl in
    let back : drop (length p.user + 1) whole ≡ p.domain = drop-append-add p.user (64 ∷ p.domain) 1 in
    login_at whole (length p.user) at_sign ∙ and_from (is_user (take (length p.user) whole)) (is_login_domain (drop (length p.user + 1) whole)) (ap is_user front ∙ h.user) (ap is_login_domain back ∙ h.domain)

-- a login in its parts
pub record ShowsLogin (bs : List ℕ) : Type 0 where
  pub parts : LoginParts
  pub valid : IsLoginParts parts
  pub is : bs ≡ print_login parts

login_shown : (bs : List ℕ) → is_login bs ≡ true → ShowsLogin bs
login_shown bs h =
    let tests = and_parts (list_any at bs && is_user (before_first at bs)) (is_login_domain (after_first at bs)) h in
    let front = and_parts (list_any at bs) (is_user (before_first at bs)) tests.0 in
    let inside : position_or_len at bs < length bs = ltb-true _ _ (sym (any_first at bs) ∙ front.0) in
    let sign : get_or bs (position_or_len at bs) 0 ≡ 64 = eqb-true _ 64 (passes_at_first at bs 0 inside) in
    record {
      parts = record { user = before_first at bs; domain = after_first at bs };
      valid = record { user = front.1; domain = tests.1 };
      is = split_at_first at bs 0 inside ∙ ap (λ b. before_first at bs ++ (b ∷ after_first at bs)) sign;
    }

-- what holds of the bytes of the parts and of `@` holds of all bytes of a login
login_all : (p : ℕ → Bool) → ((b : ℕ) → is_user_byte b ≡ true → p b ≡ true) → ((b : ℕ) → is_domain_byte b ≡ true → p b ≡ true) → p 64 ≡ true
    → (bs : List ℕ) → is_login bs ≡ true → list_all p bs ≡ true
login_all p of_user of_domain of_sign bs h =
    let shown = login_shown bs h in
    let user = all_weaker is_user_byte p of_user shown.parts.user (user_bytes shown.parts.user shown.valid.user) in
    let domain = all_weaker is_domain_byte p of_domain shown.parts.domain (domain_bytes shown.parts.domain shown.valid.domain) in
    ap (list_all p) shown.is ∙ all_append p shown.parts.user (64 ∷ shown.parts.domain) user (and_from _ _ of_sign domain)

abbrev is_small : ℕ → Bool
is_small b = ltb b 128

user_small : (b : ℕ) → is_user_byte b ≡ true → is_small b ≡ true
user_small b h = grind (arith, nat_tests)

domain_small : (b : ℕ) → is_domain_byte b ≡ true → is_small b ≡ true
domain_small b h = grind (arith, nat_tests)

small_below : (b : ℕ) → is_small b ≡ true → b < 128
small_below b h = ltb-true b 128 h

pub login_ascii : (bs : List ℕ) → is_login bs ≡ true → IsAscii bs
login_ascii bs h = all_ascii is_small small_below bs (login_all is_small user_small domain_small refl bs h)

-- ---- in lower case

abbrev is_lower : ℕ → Bool
is_lower b = eqb (to_ascii_lowercase b) b

user_lower : (b : ℕ) → is_user_byte b ≡ true → is_lower b ≡ true
user_lower b h = grind (arith, nat_tests)

domain_lower : (b : ℕ) → is_domain_byte b ≡ true → is_lower b ≡ true
domain_lower b h = grind (arith, nat_tests)

all_lower : (bs : List ℕ) → list_all is_lower bs ≡ true → map to_ascii_lowercase bs ≡ bs
all_lower [] h = refl
all_lower (b ∷ bs) h =
    let parts = and_parts (is_lower b) (list_all is_lower bs) h in
    let here : to_ascii_lowercase b ≡ b = eqb-true _ b parts.0 in
    ap (λ x. x ∷ map to_ascii_lowercase bs) here ∙ ap (λ xs. b ∷ xs) (all_lower bs parts.1)

-- a login is read again
pub login_again : (bs : List ℕ) → is_login bs ≡ true → login_of bs ≡ Some bs
login_again bs h =
    let small = all_lower bs (login_all is_lower user_lower domain_lower refl bs h) in
    ap (λ xs. cond (is_login xs) (Some xs) None) small ∙ cond-true (is_login bs) (Some bs) None h

-- ---- the login that is read is the one that the text spells

login_read : (text login : List ℕ) → SpellsLogin text login → login_of text ≡ Some login
login_read text login h =
    let small = map to_ascii_lowercase text in
    let valid : is_login small ≡ true = ap is_login h.lowered ∙ login_printed h.parts h.valid in
    cond-true (is_login small) (Some small) None valid ∙ ap Some (h.lowered ∙ sym h.is)

pick : (t : Bool) (bs login : List ℕ) → cond t (Some bs) None ≡ Some login → (t ≡ true) × (bs ≡ login)
pick true bs login h = (refl, cc (h))
pick false bs login h = absurd (cc (h))

login_spelled : (text login : List ℕ) → login_of text ≡ Some login → SpellsLogin text login
login_spelled text login h =
    let small = map to_ascii_lowercase text in
    let found = pick (is_login small) small login h in
    let shown = login_shown small found.0 in
    record { parts = shown.parts; valid = shown.valid; lowered = shown.is; is = sym found.1 ∙ shown.is }

pub login_means : (text : List ℕ) (r : Option (List ℕ)) → r ≡ login_of text → (login : List ℕ) → SpellsLogin text login ↔ (r ≡ Some login)
login_means text r is login = (λ h. is ∙ login_read text login h, λ e. login_spelled text login (sym is ∙ e))
