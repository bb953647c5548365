-- What the marks of a text result in is what its tokens result in.
use Rattle.std.proofs.Common.{◌≡◌, ℕ, ◌+◌, ◌≤◌, ◌==◌, ◌&&◌, Bool, true, false, cond, List, [], ◌∷◌, ◌++◌, length, map, Option, Some, None, arith, refl, ap, sym, ◌∙◌}
use Rattle.std.proofs.lemmas.Bool.Decides.{nat_tests}
use Rattle.std.specs.Prelude.{nat_lt, option_to_list}
use Rattle.std.specs.Option.{option_or}
use Rattle.hujson_read.specs.declared.fault.HujsonFault.{HujsonFault}
use Rattle.hujson_read.specs.declared.fault.HujsonFault.TheVariants as fault
use Rattle.hujson_read.specs.declared.mode.Mode.TheVariants as mode
use Rattle.hujson_read.specs.declared.mark.Mark.TheVariants as mark
use Rattle.hujson_read.specs.Tokens.{Token, Other, Quoted, LineComment, BlockComment, OpenString, OpenComment, quote, pieces_bytes, token_bytes, text_of, AreTokens, tokens}
use Rattle.hujson_read.specs.Standard.{space, comma, is_before_closer, is_stray, blanked, significant, next_of, standard, token_fault, faults, offset_of, lesser, least, standard_of, fault_of}
use Rattle.hujson_read.proofs.Marks.{Marked, Ends, marked, next_byte, standard_marks, marks_fault}
use Rattle.hujson_read.proofs.TokenMarks.{each, token_marks, marked-text_of}
use Rattle.hujson_read.proofs.Reading.{tokens_stand, text_of-tokens}

-- tokens that spell nothing are none
no_tokens : (ts : List Token) → text_of ts ≡ [] → ts ≡ []
no_tokens [] e = refl
no_tokens (Other b ∷ ts) e = absurd (cc e)
no_tokens (Quoted ps ∷ ts) e = absurd (cc e)
no_tokens (LineComment body ∷ ts) e = absurd (cc e)
no_tokens (BlockComment body ∷ ts) e = absurd (cc e)
no_tokens (OpenString ps cut ∷ ts) e = absurd (cc e)
no_tokens (OpenComment body ∷ ts) e = absurd (cc e)

next_byte-comment : (bs : List ℕ) (ms : Marked) → next_byte (each mark.Comment bs ms) ≡ next_byte ms
next_byte-comment [] ms = refl
next_byte-comment (b ∷ bs) ms = next_byte-comment bs ms

next_byte-tokens : (at : ℕ) (ts : List Token) → AreTokens ts → next_byte (token_marks at ts) ≡ next_of ts
next_byte-tokens at [] h = refl
next_byte-tokens at (Other b ∷ ts) h = ap (option_or (significant (Other b))) (next_byte-tokens (at + 1) ts h.1)
next_byte-tokens at (Quoted ps ∷ ts) h = refl
next_byte-tokens at (LineComment body ∷ ts) h = next_byte-comment body _ ∙ next_byte-tokens _ ts h.1
next_byte-tokens at (BlockComment body ∷ ts) h = next_byte-comment (token_bytes (BlockComment body)) _ ∙ next_byte-tokens _ ts h.1
next_byte-tokens at (OpenString ps cut ∷ ts) h = refl
next_byte-tokens at (OpenComment body ∷ ts) h = next_byte-comment body _ ∙ sym (ap next_of (no_tokens ts h.0.1))

standard_marks-quoted : (bs : List ℕ) (ms : Marked) → standard_marks (each mark.Quoted bs ms) ≡ bs ++ standard_marks ms
standard_marks-quoted [] ms = refl
standard_marks-quoted (b ∷ bs) ms = ap (λ x. b ∷ x) (standard_marks-quoted bs ms)

standard_marks-comment : (bs : List ℕ) (ms : Marked) → standard_marks (each mark.Comment bs ms) ≡ map blanked bs ++ standard_marks ms
standard_marks-comment [] ms = refl
standard_marks-comment (b ∷ bs) ms = ap (λ x. blanked b ∷ x) (standard_marks-comment bs ms)

standard_marks-tokens : (at : ℕ) (ts : List Token) → AreTokens ts → standard_marks (token_marks at ts) ≡ standard ts
standard_marks-tokens at [] h = refl
standard_marks-tokens at (Other b ∷ ts) h =
    rw (next_byte-tokens (at + 1) ts h.1) (ap (λ x. cond (b == comma && is_before_closer (next_of ts)) space b ∷ x) (standard_marks-tokens (at + 1) ts h.1))
standard_marks-tokens at (Quoted ps ∷ ts) h =
    standard_marks-quoted (token_bytes (Quoted ps)) _ ∙ ap (λ x. token_bytes (Quoted ps) ++ x) (standard_marks-tokens _ ts h.1)
standard_marks-tokens at (LineComment body ∷ ts) h =
    standard_marks-comment (token_bytes (LineComment body)) _ ∙ ap (λ x. map blanked (token_bytes (LineComment body)) ++ x) (standard_marks-tokens _ ts h.1)
standard_marks-tokens at (BlockComment body ∷ ts) h =
    standard_marks-comment (token_bytes (BlockComment body)) _ ∙ ap (λ x. map blanked (token_bytes (BlockComment body)) ++ x) (standard_marks-tokens _ ts h.1)
standard_marks-tokens at (OpenString ps cut ∷ ts) h =
    standard_marks-quoted (token_bytes (OpenString ps cut)) _ ∙ sym (ap (λ xs. token_bytes (OpenString ps cut) ++ standard xs) (no_tokens ts h.0.1))
standard_marks-tokens at (OpenComment body ∷ ts) h =
    standard_marks-comment (token_bytes (OpenComment body)) _ ∙ sym (ap (λ xs. map blanked (token_bytes (OpenComment body)) ++ standard xs) (no_tokens ts h.0.1))

-- the fault, if there is one, doesn't stand before that offset
abbrev IsFrom : ℕ → Option HujsonFault → Type 0
IsFrom at None = Unit {0}
IsFrom at (Some f) = at ≤ offset_of f

from_lesser : (n : ℕ) (f : HujsonFault) (o : Option HujsonFault) → n ≤ offset_of f → IsFrom n o → n ≤ offset_of (lesser f o)
from_lesser n f None h k = h
from_lesser n f (Some g) h k = elim (nat_lt (offset_of g) (offset_of f)) as (λ t. n ≤ offset_of (cond t g f)) [ true ↦ k | false ↦ h ]

from_later : (n m : ℕ) (o : Option HujsonFault) → n ≤ m → IsFrom m o → IsFrom n o
from_later n m None h k = tt
from_later n m (Some g) h k = omega arith

token_fault_at : (at : ℕ) (previous : Option ℕ) (t : Token) → IsFrom at (token_fault at previous t)
token_fault_at at previous (Other b) = elim (b == comma && is_stray previous) as (λ k. IsFrom at (cond k (Some (fault.StrayComma at)) None)) [ true ↦ omega arith | false ↦ tt ]
token_fault_at at previous (Quoted ps) = tt
token_fault_at at previous (LineComment body) = tt
token_fault_at at previous (BlockComment body) = tt
token_fault_at at previous (OpenString ps cut) = omega arith
token_fault_at at previous (OpenComment body) = omega arith

from_either : (n : ℕ) (o : Option HujsonFault) (fs : List HujsonFault) → IsFrom n o → IsFrom n (least fs) → IsFrom n (least (option_to_list o ++ fs))
from_either n None fs h k = k
from_either n (Some f) fs h k = from_lesser n f (least fs) h k

-- the faults of tokens don't stand before them
faults_from : (at : ℕ) (previous : Option ℕ) (ts : List Token) → IsFrom at (least (faults at previous ts))
faults_from at previous [] = tt
faults_from at previous (t ∷ ts) =
    from_either at (token_fault at previous t) _ (token_fault_at at previous t)
    (from_later at (at + length (token_bytes t)) _ (omega arith) (faults_from (at + length (token_bytes t)) _ ts))

-- a fault is the least before those that stand later
lesser-later : (f : HujsonFault) (n : ℕ) (o : Option HujsonFault) → offset_of f ≤ n → IsFrom n o → lesser f o ≡ f
lesser-later f n None h k = refl
lesser-later f n (Some g) h k =
    let e : nat_lt (offset_of g) (offset_of f) ≡ false = grind (arith, nat_tests) in
    rw e refl

marks_fault-comment : (at n : ℕ) (previous : Option ℕ) (bs : List ℕ) (ms : Marked) → at + length bs ≡ n →
    marks_fault at previous (each mark.Comment bs ms) ≡ marks_fault n previous ms
marks_fault-comment at n previous [] ms e = let same : at ≡ n = omega arith in ap (λ k. marks_fault k previous ms) same
marks_fault-comment at n previous (b ∷ bs) ms e = marks_fault-comment (at + 1) n previous bs ms (omega arith)

marks_fault-quoted : (at n : ℕ) (previous : Option ℕ) (bs : List ℕ) (b : ℕ) (ms : Marked) → at + length (bs ++ b ∷ []) ≡ n →
    marks_fault at previous (each mark.Quoted (bs ++ b ∷ []) ms) ≡ marks_fault n (Some b) ms
marks_fault-quoted at n previous [] b ms e = let same : at + 1 ≡ n = omega arith in ap (λ k. marks_fault k (Some b) ms) same
marks_fault-quoted at n previous (c ∷ bs) b ms e = marks_fault-quoted (at + 1) n (Some c) bs b ms (omega arith)

marks_fault-open_string : (at : ℕ) (previous : Option ℕ) (bs : List ℕ) (f : Option HujsonFault) → marks_fault at previous (each mark.Quoted bs (Ends f)) ≡ f
marks_fault-open_string at previous [] f = refl
marks_fault-open_string at previous (b ∷ bs) f = marks_fault-open_string (at + 1) (Some b) bs f

comma_fault : (k : Bool) (at : ℕ) (o : Option HujsonFault) (fs : List HujsonFault) → o ≡ least fs → IsFrom (at + 1) (least fs) →
    cond k (Some (fault.StrayComma at)) o ≡ least (option_to_list (cond k (Some (fault.StrayComma at)) None) ++ fs)
comma_fault true at o fs e h = sym (ap (λ f. Some f) (lesser-later (fault.StrayComma at) (at + 1) (least fs) (omega arith) h))
comma_fault false at o fs e h = e

marks_fault-tokens : (at : ℕ) (previous : Option ℕ) (ts : List Token) → AreTokens ts → marks_fault at previous (token_marks at ts) ≡ least (faults at previous ts)
marks_fault-tokens at previous [] h = refl
marks_fault-tokens at previous (Other b ∷ ts) h =
    comma_fault (b == comma && is_stray previous) at _ (faults (at + 1) (option_or (significant (Other b)) previous) ts)
    (marks_fault-tokens (at + 1) (option_or (significant (Other b)) previous) ts h.1)
    (faults_from (at + 1) (option_or (significant (Other b)) previous) ts)
marks_fault-tokens at previous (Quoted ps ∷ ts) h =
    marks_fault-quoted at (at + length (token_bytes (Quoted ps))) previous (quote ∷ pieces_bytes ps) quote _ refl
    ∙ marks_fault-tokens (at + length (token_bytes (Quoted ps))) (Some quote) ts h.1
marks_fault-tokens at previous (LineComment body ∷ ts) h =
    marks_fault-comment at _ previous (token_bytes (LineComment body)) _ refl ∙ marks_fault-tokens _ previous ts h.1
marks_fault-tokens at previous (BlockComment body ∷ ts) h =
    marks_fault-comment at _ previous (token_bytes (BlockComment body)) _ refl ∙ marks_fault-tokens _ previous ts h.1
marks_fault-tokens at previous (OpenString ps cut ∷ ts) h =
    marks_fault-open_string at previous (token_bytes (OpenString ps cut)) _
    ∙ sym (ap (λ xs. least (faults at previous (OpenString ps cut ∷ xs))) (no_tokens ts h.0.1))
marks_fault-tokens at previous (OpenComment body ∷ ts) h =
    marks_fault-comment at _ previous (token_bytes (OpenComment body)) _ refl
    ∙ sym (ap (λ xs. least (faults at previous (OpenComment body ∷ xs))) (no_tokens ts h.0.1))

-- the marks of a text are those of its tokens
marked_tokens : (text : List ℕ) → marked 0 mode.Outside text ≡ token_marks 0 (tokens text)
marked_tokens text = sym (ap (marked 0 mode.Outside) (text_of-tokens text)) ∙ marked-text_of 0 (tokens text) (tokens_stand text)

-- the standard text is that of the marks
pub standard_of_marks : (text : List ℕ) → standard_marks (marked 0 mode.Outside text) ≡ standard_of text
unfolding standard_of
standard_of_marks text = ap standard_marks (marked_tokens text) ∙ standard_marks-tokens 0 (tokens text) (tokens_stand text)

-- the first fault is that of the marks
pub fault_of_marks : (text : List ℕ) → marks_fault 0 None (marked 0 mode.Outside text) ≡ fault_of text
unfolding fault_of
fault_of_marks text = ap (marks_fault 0 None) (marked_tokens text) ∙ marks_fault-tokens 0 None (tokens text) (tokens_stand text)
