-- Facts of tests that std doesn't have.
use Rattle.std.proofs.Common.{◌≡◌, ℕ, Bool, true, false, ◌&&◌, ◌||◌, List, refl, sym}
use Rattle.std.specs.Prelude.{Option, Some, None}
use Rattle.std.specs.Bool.{beq}
use Rattle.std.specs.Option.{option_or}
use Rattle.std.specs.Str.{bytes_eq}
use Rattle.std.proofs.lemmas.Bool.{and_parts}
use Rattle.std.proofs.lemmas.Slice.Eq.{bytes_eq-Decides}

-- tests that pass together are one
pub same_tests : (a b : Bool) → (a ≡ true → b ≡ true) → (b ≡ true → a ≡ true) → a ≡ b
same_tests true b f g = sym (f refl)
same_tests false true f g = g refl
same_tests false false f g = refl

pub or_swap : (a b c : Bool) → (a || (b || c)) ≡ (b || (a || c))
or_swap true true c = refl
or_swap true false c = refl
or_swap false true c = refl
or_swap false false c = refl

pub beq-true : (a b : Bool) → beq a b ≡ true → a ≡ b
beq-true true true h = refl
beq-true true false h = absurd (cc)
beq-true false true h = absurd (cc)
beq-true false false h = refl

pub beq-from : (a b : Bool) → a ≡ b → beq a b ≡ true
beq-from true true h = refl
beq-from true false h = absurd (cc)
beq-from false true h = absurd (cc)
beq-from false false h = refl

pub bytes_eq-true : (xs ys : List ℕ) → bytes_eq xs ys ≡ true → xs ≡ ys
bytes_eq-true xs ys h = (bytes_eq-Decides xs ys).0 h

pub bytes_eq-from : (xs ys : List ℕ) → xs ≡ ys → bytes_eq xs ys ≡ true
bytes_eq-from xs ys h = (bytes_eq-Decides xs ys).1 h

-- of two options neither is there
pub option_or-none : {T : Type 0} (a b : Option T) → option_or a b ≡ None → (a ≡ None) × (b ≡ None)
option_or-none None b h = (refl, h)
option_or-none (Some x) b h = absurd (cc)

pub option_or-from : {T : Type 0} (a b : Option T) → a ≡ None → b ≡ None → option_or a b ≡ None
option_or-from a b p q = rw (p, q) refl

-- the sides of longer conjunctions
pub all3 : (a b c : Bool) → (a && b && c) ≡ true → (a ≡ true) × (b ≡ true) × (c ≡ true)
all3 a b c h = let h1 = and_parts (a && b) c h in let h2 = and_parts a b h1.0 in (h2.0, h2.1, h1.1)

pub all4 : (a b c d : Bool) → (a && b && c && d) ≡ true → (a ≡ true) × (b ≡ true) × (c ≡ true) × (d ≡ true)
all4 a b c d h = let h1 = and_parts (a && b && c) d h in let h2 = all3 a b c h1.0 in (h2.0, h2.1, h2.2, h1.1)

pub all5 : (a b c d e : Bool) → (a && b && c && d && e) ≡ true → (a ≡ true) × (b ≡ true) × (c ≡ true) × (d ≡ true) × (e ≡ true)
all5 a b c d e h = let h1 = and_parts (a && b && c && d) e h in let h2 = all4 a b c d h1.0 in (h2.0, h2.1, h2.2, h2.3, h1.1)

pub all6 : (a b c d e f : Bool) → (a && b && c && d && e && f) ≡ true → (a ≡ true) × (b ≡ true) × (c ≡ true) × (d ≡ true) × (e ≡ true) × (f ≡ true)
all6 a b c d e f h = let h1 = and_parts (a && b && c && d && e) f h in let h2 = all5 a b c d e h1.0 in (h2.0, h2.1, h2.2, h2.3, h2.4, h1.1)

pub and3 : (a b c : Bool) → a ≡ true → b ≡ true → c ≡ true → (a && b && c) ≡ true
and3 a b c p q r = rw (p, q, r) refl

pub and4 : (a b c d : Bool) → a ≡ true → b ≡ true → c ≡ true → d ≡ true → (a && b && c && d) ≡ true
and4 a b c d p q r s = rw (p, q, r, s) refl

pub and5 : (a b c d e : Bool) → a ≡ true → b ≡ true → c ≡ true → d ≡ true → e ≡ true → (a && b && c && d && e) ≡ true
and5 a b c d e p q r s t = rw (p, q, r, s, t) refl

pub and6 : (a b c d e f : Bool) → a ≡ true → b ≡ true → c ≡ true → d ≡ true → e ≡ true → f ≡ true → (a && b && c && d && e && f) ≡ true
and6 a b c d e f p q r s t u = rw (p, q, r, s, t, u) refl
