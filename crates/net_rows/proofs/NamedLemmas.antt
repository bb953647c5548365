-- Texts that begin with a head and decimal digits.
use Rattle.std.proofs.Common.{◌≡◌, ◌≢◌, ◌<◌, ◌≤◌, ◌+◌, ◌/◌, ◌%◌, ◌^◌, ℕ, true, false, List, [], ◌∷◌, ◌++◌, length, drop, nat_eq, arith, sym, ◌∙◌, ap, refl, append_assoc, codes, Bor, Option, Some, None, IfSome, IfNone}
use Rattle.std.specs.List.{starts_with}
use Rattle.std.specs.Fmt.{decimal}
use Rattle.std.proofs.lemmas.Fmt.{decimal_step, decimal_digit}
use Rattle.std.proofs.lemmas.Slice.Eq.{starts_is}
use Rattle.std.proofs.lemmas.Bool.Decides.{Decides-eqb}
use Rattle.std.proofs.Math.Seq.{drop-append_seam}
use Rattle.net_rows.specs.Damage.{names_id}
use Rattle.std.proofs.lemmas.Bool.{false_from_ne_true}

pub digit_found : (n : ℕ) (text rest : List ℕ) → n < 10 → text ≡ (48 + n) ∷ rest → text ≡ decimal n ++ rest
digit_found n text rest small e = rw (decimal_digit n small) e

pub digit_none : (n : ℕ) (text : List ℕ) → n < 10 → ((rest : List ℕ) → text ≢ (48 + n) ∷ rest) → (rest : List ℕ) → text ≢ decimal n ++ rest
digit_none n text small never rest e = never rest (rw (decimal_digit n small) at e)

-- the digits of a number are those of its tenth, and the last
step_is : (n : ℕ) (rest : List ℕ) → 10 ≤ n → n < 2 ^ 64 → decimal n ++ rest ≡ decimal (n / 10) ++ ((48 + n % 10) ∷ rest)
step_is n rest big small = rw (decimal_step n big small) (append_assoc (decimal (n / 10)) ((48 + n % 10) ∷ []) rest)

pub step_found : (n : ℕ) (text front rest : List ℕ) → 10 ≤ n → n < 2 ^ 64 → text ≡ decimal (n / 10) ++ front → front ≡ (48 + n % 10) ∷ rest → text ≡ decimal n ++ rest
step_found n text front rest big small e f = e ∙ ap (λ end. decimal (n / 10) ++ end) f ∙ sym (step_is n rest big small)

pub step_none : (n : ℕ) (text front : List ℕ) → 10 ≤ n → n < 2 ^ 64 → text ≡ decimal (n / 10) ++ front → ((rest : List ℕ) → front ≢ (48 + n % 10) ∷ rest)
    → (rest : List ℕ) → text ≢ decimal n ++ rest
step_none n text front big small e never rest is =
    let both : decimal (n / 10) ++ front ≡ decimal (n / 10) ++ ((48 + n % 10) ∷ rest) = sym e ∙ is ∙ step_is n rest big small in
    never rest (sym (drop-append_seam (decimal (n / 10)) front) ∙ ap (drop (length (decimal (n / 10)))) both
    ∙ drop-append_seam (decimal (n / 10)) ((48 + n % 10) ∷ rest))

pub front_none : (n : ℕ) (text : List ℕ) → 10 ≤ n → n < 2 ^ 64 → ((rest : List ℕ) → text ≢ decimal (n / 10) ++ rest)
    → (rest : List ℕ) → text ≢ decimal n ++ rest
front_none n text big small never rest is = never ((48 + n % 10) ∷ rest) (is ∙ step_is n rest big small)

same_byte : (x : ℕ) → nat_eq x x ≡ true
same_byte x = grind arith

-- a common head doesn't matter
pub starts_after : (head text needle : List ℕ) → starts_with nat_eq (head ++ text) (head ++ needle) ≡ starts_with nat_eq text needle
starts_after [] text needle = refl
starts_after (x ∷ xs) text needle = rw (same_byte x) (starts_after xs text needle)

pub starts_never : (text needle : List ℕ) → ((rest : List ℕ) → text ≢ needle ++ rest) → starts_with nat_eq text needle ≡ false
starts_never text needle never =
    false_from_ne_true (starts_with nat_eq text needle)
    (λ h. never (drop (length needle) text) ((starts_is Decides-eqb text needle (starts_with nat_eq text needle) refl).0 h))

regroup : (head digits tail rest : List ℕ) → head ++ digits ++ tail ++ rest ≡ head ++ (digits ++ (tail ++ rest))
regroup head digits tail rest = append_assoc (head ++ digits) tail rest ∙ append_assoc head digits (tail ++ rest)

starts_end : (head digits end tail : List ℕ) → starts_with nat_eq (head ++ (digits ++ end)) (head ++ digits ++ tail) ≡ starts_with nat_eq end tail
starts_end head digits end tail =
    ap (λ needle. starts_with nat_eq (head ++ (digits ++ end)) needle) (append_assoc head digits tail)
    ∙ starts_after head (digits ++ end) (digits ++ tail) ∙ starts_after digits end tail

-- after head and digits, the hyphen decides
pub named_end : (head text rest end : List ℕ) (id : ℕ) → text ≡ head ++ rest → rest ≡ decimal id ++ end → starts_with nat_eq end (codes "-") ≡ names_id head id text
named_end head text rest end id e f =
    let is : text ≡ head ++ (decimal id ++ end) = e ∙ ap (λ x. head ++ x) f in
    sym (ap (λ x. names_id head id x) is ∙ starts_end head (decimal id) end (codes "-"))

-- without the digits, or without the head, there is no match
pub named_digits_none : (head text rest : List ℕ) (id : ℕ) → text ≡ head ++ rest → ((end : List ℕ) → rest ≢ decimal id ++ end) → false ≡ names_id head id text
named_digits_none head text rest id e never =
    sym (starts_never text (head ++ decimal id ++ codes "-") (λ r is.
    let both : head ++ rest ≡ head ++ (decimal id ++ (codes "-" ++ r)) = sym e ∙ is ∙ regroup head (decimal id) (codes "-") r in
    never (codes "-" ++ r) (sym (drop-append_seam head rest) ∙ ap (drop (length head)) both ∙ drop-append_seam head (decimal id ++ (codes "-" ++ r)))))

pub named_head_none : (head text : List ℕ) (id : ℕ) → ((rest : List ℕ) → text ≢ head ++ rest) → false ≡ names_id head id text
named_head_none head text id never =
    sym (starts_never text (head ++ decimal id ++ codes "-") (λ rest is. never (decimal id ++ (codes "-" ++ rest)) (is ∙ regroup head (decimal id) (codes "-") rest)))

-- the same for what a search answers
pub digit_if_found : (n : ℕ) (text : List ℕ) (r : Option (Bor (List ℕ))) → n < 10 → IfSome r (λ rest. text ≡ (48 + n) ∷ rest.now) → IfSome r (λ rest. text ≡ decimal n ++ rest.now)
digit_if_found n text None small h = tt
digit_if_found n text (Some rest) small h = digit_found n text rest.now small h

pub digit_if_none : (n : ℕ) (text : List ℕ) (r : Option (Bor (List ℕ))) → n < 10 → IfNone r ((rest : List ℕ) → text ≢ (48 + n) ∷ rest) → IfNone r ((rest : List ℕ) → text ≢ decimal n ++ rest)
digit_if_none n text None small h = digit_none n text small h
digit_if_none n text (Some rest) small h = tt

pub step_if_found : (n : ℕ) (text front : List ℕ) (r : Option (Bor (List ℕ))) → 10 ≤ n → n < 2 ^ 64 → text ≡ decimal (n / 10) ++ front
    → IfSome r (λ rest. front ≡ (48 + n % 10) ∷ rest.now) → IfSome r (λ rest. text ≡ decimal n ++ rest.now)
step_if_found n text front None big small e h = tt
step_if_found n text front (Some rest) big small e h = step_found n text front rest.now big small e h

pub step_if_none : (n : ℕ) (text front : List ℕ) (r : Option (Bor (List ℕ))) → 10 ≤ n → n < 2 ^ 64 → text ≡ decimal (n / 10) ++ front
    → IfNone r ((rest : List ℕ) → front ≢ (48 + n % 10) ∷ rest) → IfNone r ((rest : List ℕ) → text ≢ decimal n ++ rest)
step_if_none n text front None big small e h = step_none n text front big small e h
step_if_none n text front (Some rest) big small e h = tt

pub if_none : {T : Type 0} (r : Option T) (P : Type 0) → P → IfNone r P
if_none None P p = p
if_none (Some x) P p = tt
