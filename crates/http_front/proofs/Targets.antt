-- The scan says exactly whether bytes end inside a request target.
use Rattle.std.proofs.Common.{◌≡◌, ℕ, ◌<◌, List, [], ◌∷◌, ◌++◌, length, Bool, true, false, cond, refl, sym, ap, ◌∙◌, subst, arith, inl, inr, eqb, append_assoc}
use Rattle.std.specs.Prelude.{IsTrue}
use Rattle.std.specs.List.{AllByRecursion}
use Rattle.std.proofs.lemmas.Bool.{false≢true, eqb-true, ne_eqb, cases_Bool}
use Rattle.std.proofs.lemmas.List.Elements.{All-from_recursion, recursion_from_All}
use Rattle.httparse.specs.Grammar.{is_token_byte, is_uri_byte, LineEnd, crlf, lf, print_blank, print_end, EndsInTarget}
use Rattle.httparse.proofs.PieceLemmas.{space_ends_token}
use Rattle.http_front.specs.declared.target.Place.TheVariants.{LineStart, LineBreak, Method, Target, Elsewhere}
use Rattle.http_front.specs.Target.{after, is_target, ends_in_target}

-- ---- what ends inside a target scans so

through_blank : (ends : List LineEnd) (rest : List ℕ) → ends_in_target LineStart (print_blank ends ++ rest) ≡ ends_in_target LineStart rest
through_blank [] rest = refl
through_blank (crlf ∷ ends) rest = through_blank ends rest
through_blank (lf ∷ ends) rest = through_blank ends rest

token_not : (b n : ℕ) → is_token_byte n ≡ false → is_token_byte b ≡ true → eqb b n ≡ false
token_not b n none good = ne_eqb b n (λ e. false≢true (sym none ∙ ap is_token_byte (sym e) ∙ good))

no_lf : is_token_byte 10 ≡ false
unfolding is_token_byte
no_lf = refl

no_cr : is_token_byte 13 ≡ false
unfolding is_token_byte
no_cr = refl

in_method : (b : ℕ) → is_token_byte b ≡ true → after Method b ≡ Method
in_method b good = ap (λ v. cond v Target (cond (is_token_byte b) Method Elsewhere)) (token_not b 32 space_ends_token good) ∙ ap (λ v. cond v Method Elsewhere) good

to_method : (b : ℕ) → is_token_byte b ≡ true → after LineStart b ≡ Method
to_method b good =
    ap (λ v. cond v LineStart (cond (eqb b 13) LineBreak (cond (is_token_byte b) Method Elsewhere))) (token_not b 10 no_lf good)
    ∙ ap (λ v. cond v LineBreak (cond (is_token_byte b) Method Elsewhere)) (token_not b 13 no_cr good) ∙ ap (λ v. cond v Method Elsewhere) good

through_method : (m rest : List ℕ) → AllByRecursion (λ b. IsTrue (is_token_byte b)) m → ends_in_target Method (m ++ 32 ∷ rest) ≡ ends_in_target Target rest
through_method [] rest each = refl
through_method (b ∷ m) rest each = ap (λ p. ends_in_target p (m ++ 32 ∷ rest)) (in_method b each.0) ∙ through_method m rest each.1

through_target : (t : List ℕ) → AllByRecursion (λ b. IsTrue (is_uri_byte b)) t → ends_in_target Target t ≡ true
through_target [] each = refl
through_target (b ∷ t) each = ap (λ p. ends_in_target p t) (ap (λ v. cond v Target Elsewhere) each.0) ∙ through_target t each.1

start : (m t : List ℕ) → 0 < length m → AllByRecursion (λ b. IsTrue (is_token_byte b)) m → AllByRecursion (λ b. IsTrue (is_uri_byte b)) t → ends_in_target LineStart (m ++ 32 ∷ t) ≡ true
start [] t some each all = absurd (omega arith)
start (b ∷ m) t some each all = ap (λ p. ends_in_target p (m ++ 32 ∷ t)) (to_method b each.0) ∙ through_method m t each.1 ∙ through_target t all

pub scan_from_ends : (bytes : List ℕ) → EndsInTarget bytes → ends_in_target LineStart bytes ≡ true
scan_from_ends bytes x =
    ap (ends_in_target LineStart) (x.5 ∙ append_assoc (print_blank x.0) x.1 (32 ∷ x.2)) ∙ through_blank x.0 (x.1 ++ 32 ∷ x.2)
    ∙ start x.1 x.2 x.3.0 (recursion_from_All (λ b. IsTrue (is_token_byte b)) x.1 x.3.1) (recursion_from_All (λ b. IsTrue (is_uri_byte b)) x.2 x.4)

-- ---- what scans so ends inside a target

by_test : {P : Type 0} (b : Bool) → (b ≡ true → P) → (b ≡ false → P) → P
by_test b good none = elim (cases_Bool b) [ inl e ↦ good e | inr e ↦ none e ]

elsewhere : (bytes : List ℕ) → ends_in_target Elsewhere bytes ≡ false
elsewhere [] = refl
elsewhere (b ∷ bytes) = elsewhere bytes

target_scans : (t : List ℕ) → ends_in_target Target t ≡ true → AllByRecursion (λ b. IsTrue (is_uri_byte b)) t
target_scans [] h = tt
target_scans (b ∷ t) h = by_test (is_uri_byte b)
    (λ e. (e, target_scans t (subst (λ v. ends_in_target (cond v Target Elsewhere) t ≡ true) e h)))
    (λ e. absurd (false≢true (sym (elsewhere t) ∙ subst (λ v. ends_in_target (cond v Target Elsewhere) t ≡ true) e h)))

-- token bytes, a space, and target bytes
abbrev pub IsLine : List ℕ → Type 0
IsLine bytes = (m : List ℕ) × (t : List ℕ) × AllByRecursion (λ b. IsTrue (is_token_byte b)) m × AllByRecursion (λ b. IsTrue (is_uri_byte b)) t × (bytes ≡ m ++ 32 ∷ t)

method_scans : (bytes : List ℕ) → ends_in_target Method bytes ≡ true → IsLine bytes
method_scans [] h = absurd (false≢true h)
method_scans (b ∷ bytes) h = by_test (eqb b 32)
    (λ e. ([], bytes, tt, target_scans bytes (subst (λ v. ends_in_target (cond v Target (cond (is_token_byte b) Method Elsewhere)) bytes ≡ true) e h), ap (λ b. b ∷ bytes) (eqb-true b 32 e)))
    (λ n.
    let h' = subst (λ v. ends_in_target (cond v Target (cond (is_token_byte b) Method Elsewhere)) bytes ≡ true) n h in
    by_test (is_token_byte b)
    (λ e. let r = method_scans bytes (subst (λ v. ends_in_target (cond v Method Elsewhere) bytes ≡ true) e h') in (b ∷ r.0, r.1, (e, r.2), r.3, ap (λ x. b ∷ x) r.4))
    (λ e. absurd (false≢true (sym (elsewhere bytes) ∙ subst (λ v. ends_in_target (cond v Method Elsewhere) bytes ≡ true) e h'))))

-- one empty line more
blank_before : (end : LineEnd) (bytes : List ℕ) → EndsInTarget bytes → EndsInTarget (print_end end ++ bytes)
blank_before end bytes x = (end ∷ x.0, x.1, x.2, x.3, x.4, ap (λ y. print_end end ++ y) x.5 ∙ regroup (print_end end) (print_blank x.0) x.1 (32 ∷ x.2))
  where
    regroup : (a b c d : List ℕ) → a ++ ((b ++ c) ++ d) ≡ ((a ++ b) ++ c) ++ d
    regroup a b c d = simp append_assoc refl

line_ends : (b : ℕ) (bytes : List ℕ) → is_token_byte b ≡ true → IsLine bytes → EndsInTarget (b ∷ bytes)
line_ends b bytes token x =
    let some : 0 < length (b ∷ x.0) = omega arith in
    ([], b ∷ x.0, x.1, (some, All-from_recursion (λ b. IsTrue (is_token_byte b)) (b ∷ x.0) (token, x.2)), All-from_recursion (λ b. IsTrue (is_uri_byte b)) x.1 x.3, ap (λ y. b ∷ y) x.4)

one_byte : (b : ℕ) → is_target (after LineStart b) ≡ true → ⊥
one_byte b h = by_test (eqb b 10)
    (λ e. false≢true (subst (λ v. is_target (cond v LineStart (cond (eqb b 13) LineBreak (cond (is_token_byte b) Method Elsewhere))) ≡ true) e h))
    (λ n. let h' = subst (λ v. is_target (cond v LineStart (cond (eqb b 13) LineBreak (cond (is_token_byte b) Method Elsewhere))) ≡ true) n h in
    by_test (eqb b 13) (λ e. false≢true (subst (λ v. is_target (cond v LineBreak (cond (is_token_byte b) Method Elsewhere)) ≡ true) e h'))
    (λ n. let h'' = subst (λ v. is_target (cond v LineBreak (cond (is_token_byte b) Method Elsewhere)) ≡ true) n h' in
    by_test (is_token_byte b) (λ e. false≢true (subst (λ v. is_target (cond v Method Elsewhere) ≡ true) e h'')) (λ e. false≢true (subst (λ v. is_target (cond v Method Elsewhere) ≡ true) e h''))))

pub ends_from_scan : (bytes : List ℕ) → ends_in_target LineStart bytes ≡ true → EndsInTarget bytes
ends_from_scan [] h = absurd (false≢true h)
ends_from_scan (b ∷ []) h = absurd (one_byte b h)
ends_from_scan (b ∷ c ∷ bytes) h = by_test (eqb b 10)
    (λ e. subst EndsInTarget (ap (λ x. x ∷ c ∷ bytes) (sym (eqb-true b 10 e)))
    (blank_before lf (c ∷ bytes) (ends_from_scan (c ∷ bytes) (subst (λ v. ends_in_target (cond v LineStart (cond (eqb b 13) LineBreak (cond (is_token_byte b) Method Elsewhere))) (c ∷ bytes) ≡ true) e h))))
    (λ n. let h' = subst (λ v. ends_in_target (cond v LineStart (cond (eqb b 13) LineBreak (cond (is_token_byte b) Method Elsewhere))) (c ∷ bytes) ≡ true) n h in
    by_test (eqb b 13)
    (λ e. let h'' = subst (λ v. ends_in_target (cond v LineBreak (cond (is_token_byte b) Method Elsewhere)) (c ∷ bytes) ≡ true) e h' in
    by_test (eqb c 10)
    (λ f. subst EndsInTarget (ap (λ x. x ∷ c ∷ bytes) (sym (eqb-true b 13 e)) ∙ ap (λ x. b ∷ x ∷ bytes) refl) (subst (λ y. EndsInTarget (13 ∷ y ∷ bytes)) (sym (eqb-true c 10 f))
    (blank_before crlf bytes (ends_from_scan bytes (subst (λ v. ends_in_target (cond v LineStart Elsewhere) bytes ≡ true) f h'')))))
    (λ f. absurd (false≢true (sym (elsewhere bytes) ∙ subst (λ v. ends_in_target (cond v LineStart Elsewhere) bytes ≡ true) f h''))))
    (λ n. let h'' = subst (λ v. ends_in_target (cond v LineBreak (cond (is_token_byte b) Method Elsewhere)) (c ∷ bytes) ≡ true) n h' in
    by_test (is_token_byte b)
    (λ e. line_ends b (c ∷ bytes) e (method_scans (c ∷ bytes) (subst (λ v. ends_in_target (cond v Method Elsewhere) (c ∷ bytes) ≡ true) e h'')))
    (λ e. absurd (false≢true (sym (elsewhere (c ∷ bytes)) ∙ subst (λ v. ends_in_target (cond v Method Elsewhere) (c ∷ bytes) ≡ true) e h'')))))
