-- One byte more, at a comma that waits.
use Rattle.std.proofs.Common.{◌≡◌, ℕ, ◌+◌, ◌<◌, Bool, true, false, cond, ◌&&◌, List, [], ◌∷◌, ◌++◌, length, set, get_or, drop, Option, Some, None, arith, refl, ap, sym, ◌∙◌, subst, append_assoc, add-zero}
use Rattle.std.proofs.lemmas.List.{set_at, set-append_left, length-set, drop_more, get_or-drop}
use Rattle.std.proofs.lemmas.Bool.Decides.{nat_tests}
use Rattle.std.specs.Option.{option_or}
use Rattle.hujson_read.specs.declared.mode.Mode.{Mode}
use Rattle.hujson_read.specs.declared.mark.Mark.{Mark}
use Rattle.hujson_read.specs.declared.mark.Mark.TheVariants as mark
use Rattle.hujson_read.specs.Standard.{is_before_closer, is_stray, space}
use Rattle.hujson_read.specs.Scan.{mode_after, mark_of, marked_byte, mark_written, is_comma, settled, waiting, unless, IsWithin}
use Rattle.hujson_read.proofs.Marks.{Marked, Next, marked, next_byte, standard_marks, marks_fault}

plain_put : (out ms : List ℕ) (w : ℕ) → out ++ (w ∷ ms) ≡ (out ++ w ∷ []) ++ ms
plain_put out ms w = sym (append_assoc out (w ∷ []) ms)

comma_put : (out ms : List ℕ) (k : Bool) (w n : ℕ) → length out ≡ n → out ++ (cond k space w ∷ ms) ≡ cond k (set (out ++ w ∷ []) n space) (out ++ w ∷ []) ++ ms
comma_put out ms true w n e = rw (set_at out w [] space n e) (plain_put out ms space)
comma_put out ms false w n e = plain_put out ms w

kept_put : (out ms : List ℕ) (k : Bool) (w at : ℕ) → at < length out → cond k (set out at space) out ++ (w ∷ ms) ≡ cond k (set (out ++ w ∷ []) at space) (out ++ w ∷ []) ++ ms
kept_put out ms true w at h = rw (set-append_left out (w ∷ []) at space h) (plain_put (set out at space) ms w)
kept_put out ms false w at h = plain_put out ms w

-- a comma that is blanked leaves the length as it was
pub length-settled : (waits s : Option ℕ) (out : List ℕ) → length (settled waits s out) ≡ length out
length-settled None s out = refl
length-settled (Some at) s out = elim (is_before_closer s) as (λ k. length (cond k (set out at space) out) ≡ length out) [ true ↦ length-set out at space | false ↦ refl ]

step : (waits : Option ℕ) (c : Bool) (s : Option ℕ) (w : ℕ) (n : Option ℕ) (out ms : List ℕ) → IsWithin waits out → (c ≡ true → s ≡ None → ⊥) →
    settled waits (option_or s n) out ++ (cond (c && is_before_closer n) space w ∷ ms) ≡ settled (cond c (Some (length out)) (unless s waits)) n (settled waits s out ++ w ∷ []) ++ ms
step None true s w n out ms h e = comma_put out ms (is_before_closer n) w _ refl
step None false None w n out ms h e = plain_put out ms w
step None false (Some b) w n out ms h e = plain_put out ms w
step (Some at) true None w n out ms h e = absurd (e refl refl)
step (Some at) true (Some b) w n out ms h e = comma_put _ ms (is_before_closer n) w _ (length-settled (Some at) (Some b) out)
step (Some at) false None w n out ms h e = kept_put out ms (is_before_closer n) w at h
step (Some at) false (Some b) w n out ms h e = plain_put _ ms w

comma_is_significant : (m : Mark) → is_comma m ≡ true → marked_byte m ≡ None → ⊥
comma_is_significant (mark.Other b) e f = grind (arith, nat_tests)
comma_is_significant (mark.Quoted b) e f = cc
comma_is_significant (mark.Comment b) e f = cc

told_here : (waits : Option ℕ) (m : Mark) (ms : Marked) (out : List ℕ) → IsWithin waits out →
    settled waits (next_byte (Next m ms)) out ++ standard_marks (Next m ms) ≡ settled (waiting waits m (length out)) (next_byte ms) (settled waits (marked_byte m) out ++ mark_written m ∷ []) ++ standard_marks ms
told_here waits m ms out h = step waits (is_comma m) (marked_byte m) (mark_written m) (next_byte ms) out (standard_marks ms) h (comma_is_significant m)

within : (waits : Option ℕ) (c : Bool) (s : Option ℕ) (out new : List ℕ) → IsWithin waits out → length new ≡ length out + 1 → IsWithin (cond c (Some (length out)) (unless s waits)) new
within waits true s out new h e = omega arith
within waits false (Some b) out new h e = tt
within None false None out new h e = tt
within (Some at) false None out new h e = omega arith

within_here : (waits : Option ℕ) (m : Mark) (out new : List ℕ) → IsWithin waits out → length new ≡ length out + 1 → IsWithin (waiting waits m (length out)) new
within_here waits m out new h e = within waits (is_comma m) (marked_byte m) out new h e

-- the comma that waits after a byte is in the output with that byte
pub within_more : (waits : Option ℕ) (m : Mark) (out new : List ℕ) (at : ℕ) → IsWithin waits out → length out ≡ at → length new ≡ at + 1 → IsWithin (waiting waits m at) new
within_more waits m out new at h e l =
    let P : ℕ → Type 0 = λ k. IsWithin (waiting waits m k) new in
    subst P e (within_here waits m out new h (l ∙ ap (λ k. k + 1) (sym e)))

-- what the output becomes with the rest written, before a byte and after it
told_more : (waits : Option ℕ) (m : Mark) (ms : Marked) (out : List ℕ) (at : ℕ) → IsWithin waits out → length out ≡ at →
    settled waits (next_byte (Next m ms)) out ++ standard_marks (Next m ms) ≡ settled (waiting waits m at) (next_byte ms) (settled waits (marked_byte m) out ++ mark_written m ∷ []) ++ standard_marks ms
told_more waits m ms out at h e =
    let P : ℕ → Type 0 = λ k. settled waits (next_byte (Next m ms)) out ++ standard_marks (Next m ms) ≡ settled (waiting waits m k) (next_byte ms) (settled waits (marked_byte m) out ++ mark_written m ∷ []) ++ standard_marks ms in
    subst P e (told_here waits m ms out h)

next_at : (text : List ℕ) (at : ℕ) → get_or (drop (at + 1) text) 0 0 ≡ get_or text (at + 1) 0
next_at text at = get_or-drop (at + 1) text 0 0 ∙ rw (add-zero (at + 1)) refl

marked_more : (text : List ℕ) (at : ℕ) (m : Mode) → at < length text →
    marked at m (drop at text) ≡ Next (mark_of m (get_or text at 0) (get_or text (at + 1) 0)) (marked (at + 1) (mode_after m at (get_or text at 0) (get_or text (at + 1) 0)) (drop (at + 1) text))
marked_more text at m h =
    ap (marked at m) (drop_more text at 0 h)
    ∙ ap (λ n. Next (mark_of m (get_or text at 0) n) (marked (at + 1) (mode_after m at (get_or text at 0) n) (drop (at + 1) text))) (next_at text at)

-- a turn of the scan leaves what the output becomes
pub told_step : (text : List ℕ) (at : ℕ) (mode mode' : Mode) (waits waits' : Option ℕ) (m : Mark) (out mid new : List ℕ) → at < length text →
    IsWithin waits out → length out ≡ at →
    m ≡ mark_of mode (get_or text at 0) (get_or text (at + 1) 0) →
    mode' ≡ mode_after mode at (get_or text at 0) (get_or text (at + 1) 0) →
    waits' ≡ waiting waits m at → mid ≡ settled waits (marked_byte m) out → new ≡ mid ++ mark_written m ∷ [] →
    settled waits' (next_byte (marked (at + 1) mode' (drop (at + 1) text))) new ++ standard_marks (marked (at + 1) mode' (drop (at + 1) text))
    ≡ settled waits (next_byte (marked at mode (drop at text))) out ++ standard_marks (marked at mode (drop at text))
told_step text at mode mode' waits waits' m out mid new h inside len em emode ewaits emid enew =
    let F : Marked → List ℕ = λ ms. settled waits (next_byte ms) out ++ standard_marks ms in
    rw (emode, ewaits, enew, emid, em) (sym (ap F (marked_more text at mode h) ∙ told_more waits (mark_of mode (get_or text at 0) (get_or text (at + 1) 0)) (marked (at + 1) (mode_after mode at (get_or text at 0) (get_or text (at + 1) 0)) (drop (at + 1) text)) out at inside len))

-- a turn of the scan that meets no stray comma leaves the first fault
pub fault_step : (text : List ℕ) (at : ℕ) (mode mode' : Mode) (previous previous' : Option ℕ) (m : Mark) → at < length text →
    m ≡ mark_of mode (get_or text at 0) (get_or text (at + 1) 0) →
    mode' ≡ mode_after mode at (get_or text at 0) (get_or text (at + 1) 0) →
    previous' ≡ option_or (marked_byte m) previous → (is_comma m && is_stray previous) ≡ false →
    marks_fault (at + 1) previous' (marked (at + 1) mode' (drop (at + 1) text))
    ≡ marks_fault at previous (marked at mode (drop at text))
fault_step text at mode mode' previous previous' m h em emode eprevious sound =
    rw (emode, marked_more text at mode h, ← em, sound, eprevious) refl
