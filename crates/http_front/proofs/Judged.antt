-- Any bytes begin a request head, can become one, or never will, and which of these they do is told piece by piece.
use Rattle.std.proofs.Common.{◌≡◌, ◌≢◌, ◌⊎◌, ℕ, zero, suc, ◌+◌, ◌<◌, ◌≤◌, Bool, true, false, List, [], ◌∷◌, ◌++◌, length, get_or, drop, slice_range, refl, sym, ap, ◌∙◌, subst, arith, append_assoc, append-nil, length-append, inl, inr, codes, IsUtf8, nat_eq, ltb, ◌==◌}
use Rattle.std.specs.Prelude.{⊤}
use Rattle.std.specs.Str.{is_utf8}
use Rattle.std.proofs.lemmas.Bool.{both_ways, cases_Bool, cases_lt, eqb-false, eqb-true, false≢true, lt-ltb, ltb-true}
use Rattle.std.proofs.lemmas.Bool.Decides.{nat_tests}
use Rattle.std.proofs.lemmas.List.{append_cancel_left, drop_more}
use Rattle.std.proofs.lemmas.List.Elements.{All-nil}
use Rattle.std.proofs.lemmas.Str.{IsUtf8-from_is_utf8, is_utf8-from_IsUtf8}
use Rattle.httparse.specs.Grammar.{AllPass, Field, HasNoRequest, LineEnd, MayBecomeRequest, NeverHasRequest, ReadsRequest, RequestHead, crlf, is_token_byte, is_uri_byte, is_value_byte, lf, print_blank, print_end, print_field, print_version}
use Rattle.httparse.specs.Pieces.{Begins, BeginsLine, Blank, BlankLines, Bytes, Completes, FieldLine, FieldLines, IsRunAt, MayBecomeRequestStart, Method, Never, Newline, NotYet, Piece, Refutes, RequestStart, Section, Target, Text, Then, Version, Word, is_newline}
use Rattle.httparse.proofs.GrammarLemmas.{request_from_pieces, request_head}
use Rattle.httparse.proofs.HeadLemmas.{request_never, request_not_yet}
use Rattle.httparse.proofs.LineLemmas.{request_blank, request_method, request_target}
use Rattle.httparse.proofs.OpenLemmas.{BlankLines_after, Completes_first, Completes_next, FieldLine_of_row, IsRunAt_all, Newline_after_cr, Section_after_lines, Section_of_line, Text_after_run, Version_after_bytes, Version_before_digit, Word_cut, ends_in_target, letter_is_token, line_blank, line_method, line_version, request_may, request_may_from_line, some_bytes, some_newline, some_section, some_text}
use Rattle.httparse.proofs.PieceLemmas.{Blank_deterministic, IsDeterministic, Method_deterministic, Name_deterministic, Never_intro, NotYet_elim, NotYet_intro, Refutes_by, Refutes_first, Refutes_next, RequestStart_deterministic, Target_deterministic, Version_deterministic, colon_ends_token, print_field-append, space_ends_token, FieldLines_push}
use Rattle.httparse.proofs.ReadLemmas.{BeginsLine_either, BeginsLine_open, Blank_after, Blank_newline, Blank_open, FieldLine_at_newline, FieldLine_done, FieldLine_row, Newline_at_other, Section_after, Section_done, Target_word, Text_done, Text_open, Text_wrong, Version_bytes, Word_is_run, Word_open, Word_wrong, blank_more}
use Rattle.httparse.proofs.RunLemmas.{IsRunAt_pass, drop_split}
use Rattle.http_front.proofs.Heads.{end_some}

-- the text begins with the piece, can become it, or never begins with it
abbrev pub Judged : {A : Type 0} → Piece A → List ℕ → Type 0
Judged G s = Begins G s ⊎ ((NotYet (Begins G) s × Completes G s) ⊎ Never (Begins G) s)

pub by_test : {P : Type 0} (b : Bool) → (b ≡ true → P) → (b ≡ false → P) → P
by_test b good bad = elim (cases_Bool b) [ inl e ↦ good e | inr e ↦ bad e ]

next_judged : {A B : Type 0} {G : Piece A} {H : Piece B} (s t : List ℕ) (a : A) → IsDeterministic G → G a s t → Judged H t → Judged (Then G H) s
next_judged {G = G} {H = H} s t a det read here = elim here [
  | inl b ↦ inl ((a, b.0), b.1, (t, read, b.2))
  | inr none ↦ elim none [
    | inl cut ↦ inr (inl (Refutes_next H det {a = a} read cut.0, Completes_next det {a = a} read cut.1))
    | inr never ↦ inr (inr (Refutes_next H det {a = a} read never))
  ]
]

-- one piece, and then another
then_judged : {A B : Type 0} {G : Piece A} {H : Piece B} (s : List ℕ) → IsDeterministic G → Completes H [] → Judged G s
    → ((t : List ℕ) → Judged H t) → Judged (Then G H) s
then_judged {G = G} {H = H} s det some here next = elim here [
  | inl b ↦ next_judged s b.1 b.0 det b.2 (next b.1)
  | inr none ↦ elim none [
    | inl cut ↦ inr (inl (Refutes_first G H cut.0, Completes_first cut.1 some))
    | inr never ↦ inr (inr (Refutes_first G H never))
  ]
]

-- ---- line ends

no_line_end : (e : LineEnd) (rest : List ℕ) → Newline e [] rest → ⊥
no_line_end crlf rest h = absurd (cc)
no_line_end lf rest h = absurd (cc)

open_break : (b : ℕ) → b ≡ 13 → (e : LineEnd) (rest : List ℕ) → Newline e (b ∷ []) rest → ⊥
open_break b is crlf rest h = absurd (cc)
open_break b is lf rest h =
    let same : b ≡ 10 = cc in
    absurd (omega arith)

broken : (b c : ℕ) (s more : List ℕ) → b ≡ 13 → (c ≡ 10 → ⊥) → (e : LineEnd) (rest : List ℕ) → Newline e ((b ∷ c ∷ s) ++ more) rest → ⊥
broken b c s more is other crlf rest h = other (cc)
broken b c s more is other lf rest h =
    let same : b ≡ 10 = cc in
    absurd (omega arith)

break_judged : (b : ℕ) (s : List ℕ) → b ≡ 13 → Judged Newline (b ∷ s)
break_judged b [] is =
    inr (inl (NotYet_intro (λ h. open_break b is h.0 h.1 h.2), Newline_after_cr (ap (λ x. x ∷ []) is)))
break_judged b (c ∷ s) is = by_test (c == 10)
    (λ ends. inl (crlf, s, (let two = eqb-true c 10 ends in cc)))
    (λ other. inr (inr (Never_intro (λ more h. broken b c s more is (eqb-false c 10 other) h.0 h.1 h.2))))

newline_of : (b : ℕ) → is_newline b ≡ true → (b ≡ 13) ⊎ (b ≡ 10)
newline_of b h = by_test (b == 13)
    (λ e. inl (eqb-true b 13 e))
    (λ n. inr (grind (arith, nat_tests)))

newline_judged : (s : List ℕ) → Judged Newline s
newline_judged [] = inr (inl (NotYet_intro (λ h. no_line_end h.0 h.1 h.2), some_newline))
newline_judged (b ∷ s) = by_test (is_newline b)
    (λ ends. elim (newline_of b ends) [
      | inl is ↦ break_judged b s is
      | inr is ↦ inl (lf, s, ap (λ x. x ∷ s) is)
    ])
    (λ other. inr (inr (Newline_at_other (λ more. ⊤) (b ∷ s) 0 (omega arith) other)))

-- ---- runs and words

-- how far the bytes at the front pass the test
run_of : (test : ℕ → Bool) (s : List ℕ) → (end : ℕ) × IsRunAt test s 0 end
run_of test [] = (
  0,
  record {
    ordered = omega arith;
    in_range = omega arith;
    pass = λ k low high. absurd (omega (arith, high));
    stops = λ inside. absurd (omega (arith, inside));
  },
)
run_of test (b ∷ s) = by_test (test b) (λ h. further h (run_of test s)) (λ h. (
  0,
  record {
    ordered = omega arith;
    in_range = omega arith;
    pass = λ k low high. absurd (omega (arith, high));
    stops = λ inside. h;
  },
))
  where
    pass_more : (end : ℕ) → test b ≡ true → IsRunAt test s 0 end → (k : ℕ) → 0 ≤ k → k < suc end → test (get_or (b ∷ s) k 0) ≡ true
    pass_more end h run zero low high = h
    pass_more end h run (suc k) low high = run.pass k (omega arith) (omega (arith, high))

    further : test b ≡ true → (end : ℕ) × IsRunAt test s 0 end → (end : ℕ) × IsRunAt test (b ∷ s) 0 end
    further h run = (
      suc run.0,
      record {
        ordered = omega arith;
        in_range = omega (arith, run.1.in_range);
        pass = λ k low high. pass_more run.0 h run.1 k low high;
        stops = λ inside. run.1.stops (omega (arith, inside));
      },
    )

-- the run, the byte behind it and the rest
split_run : (test : ℕ → Bool) (s : List ℕ) (end stop : ℕ) → IsRunAt test s 0 end → end < length s → get_or s end 0 ≡ stop
    → s ≡ slice_range s 0 end ++ stop ∷ drop (end + 1) s
split_run test s end stop run inside is =
    drop_split s 0 end run.ordered ∙ ap (λ t. slice_range s 0 end ++ t) (drop_more s end 0 inside ∙ ap (λ b. b ∷ drop (end + 1) s) is)

-- a word, or a run that is followed by another byte or is empty
word_inside : (test : ℕ → Bool) (stop : ℕ) (s : List ℕ) (end : ℕ) → test stop ≡ false → IsRunAt test s 0 end → end < length s
    → Begins (Word test stop) s ⊎ Never (Begins (Word test stop)) s
word_inside test stop s end fails run inside = by_test (get_or s end 0 == stop)
    (λ is. by_test (ltb 0 (length (slice_range s 0 end)))
    (λ some. inl (
      slice_range s 0 end,
      drop (end + 1) s,
      (ltb-true 0 (length (slice_range s 0 end)) some, IsRunAt_pass run, split_run test s end stop run inside (eqb-true (get_or s end 0) stop is)),
    ))
    (λ none. inr (Word_wrong stop fails run inside (λ same some. false≢true (sym none ∙ lt-ltb 0 (length (slice_range s 0 end)) some)))))
    (λ other. inr (Word_wrong stop fails run inside (λ same some. eqb-false (get_or s end 0) stop other same)))

word_judged : (test : ℕ → Bool) (stop b : ℕ) → test stop ≡ false → test b ≡ true → (s : List ℕ) → Judged (Word test stop) s
word_judged test stop b fails passes s =
    let run = run_of test s in
    elim (cases_lt run.0 (length s)) [
      | inl inside ↦ elim (word_inside test stop s run.0 fails run.1 inside) [ inl begins ↦ inl begins | inr never ↦ inr (inr never) ]
      | inr past ↦ inr (inl (Word_open stop fails run.1 past, Word_cut test stop b passes (IsRunAt_all run.1 past)))
    ]

method_judged : (s : List ℕ) → Judged Method s
method_judged s = word_judged is_token_byte 32 65 space_ends_token letter_is_token s

-- a target that ends is judged; one that is cut short is taken as it is
abbrev JudgedTarget : List ℕ → Type 0
JudgedTarget s = Begins Target s ⊎ ((NotYet (Begins Target) s × AllPass is_uri_byte s) ⊎ Never (Begins Target) s)

target_text : (s w r : List ℕ) (end : ℕ) → IsRunAt is_uri_byte s 0 end → end < length s → slice_range s 0 end ≡ w → Word is_uri_byte 32 w s r → JudgedTarget s
target_text s w r end run inside is word = by_test (is_utf8 w)
    (λ text. inl (w, r, (word, IsUtf8-from_is_utf8 w text)))
    (λ none. inr (inr (Never_intro (λ more h.
    let same = Word_is_run 32 refl run inside more h.0 h.1 h.2.0 in
    false≢true (sym none ∙ is_utf8-from_IsUtf8 w (subst IsUtf8 (sym same.0 ∙ is) h.2.1))))))

target_word : (s : List ℕ) (end : ℕ) → IsRunAt is_uri_byte s 0 end → end < length s → Begins (Word is_uri_byte 32) s → JudgedTarget s
target_word s end run inside b =
    let whole = Word_is_run 32 refl run inside [] b.0 (b.1 ++ []) (b.2.0, b.2.1, ap (λ t. t ++ []) b.2.2 ∙ append_assoc b.0 (32 ∷ b.1) []) in
    target_text s b.0 b.1 end run inside whole.0 b.2

target_judged : (s : List ℕ) → JudgedTarget s
target_judged s =
    let run = run_of is_uri_byte s in
    elim (cases_lt run.0 (length s)) [
      | inl inside ↦ elim (word_inside is_uri_byte 32 s run.0 refl run.1 inside) [
        | inl begins ↦ target_word s run.0 run.1 inside begins
        | inr never ↦ inr (inr (Target_word never))
      ]
      | inr past ↦ inr (inl (Target_word (Word_open 32 refl run.1 past), IsRunAt_all run.1 past))
    ]

-- ---- the version

more_bytes : (x b : ℕ) (bytes s : List ℕ) → b ≡ x → Judged (Bytes bytes) s → Judged (Bytes (x ∷ bytes)) (b ∷ s)
more_bytes x b bytes s same here = elim here [
  | inl begins ↦ inl (tt, begins.1, (let e = begins.2 in cc))
  | inr none ↦ elim none [
    | inl cut ↦ inr (inl (
      Refutes_by (λ more h. (tt, h.1, (let e = h.2 in cc))) cut.0,
      record {
        more = cut.1.more;
        tree = tt;
        reads = λ rest. (let e = cut.1.reads rest in cc);
      },
    ))
    | inr never ↦ inr (inr (Refutes_by (λ more h. (tt, h.1, (let e = h.2 in cc))) never))
  ]
]

bytes_judged : (bytes s : List ℕ) → Judged (Bytes bytes) s
bytes_judged [] s = inl (tt, s, refl)
bytes_judged (x ∷ bytes) [] = inr (inl (NotYet_intro (λ h. absurd (let e = h.2 in cc)), some_bytes (x ∷ bytes)))
bytes_judged (x ∷ bytes) (b ∷ s) = by_test (b == x)
    (λ same. more_bytes x b bytes s (eqb-true b x same) (bytes_judged bytes s))
    (λ other. inr (inr (Never_intro (λ more h. eqb-false b x other (let e = h.2 in cc)))))

version_digit : (minor d : ℕ) (s t more rest : List ℕ) → s ≡ codes "HTTP/1." ++ d ∷ t → Version minor (s ++ more) rest → d ≡ 48 + minor
version_digit minor d s t more rest is h =
    let same : codes "HTTP/1." ++ d ∷ (t ++ more) ≡ codes "HTTP/1." ++ (48 + minor) ∷ rest = sym (ap (λ x. x ++ more) is) ∙ h.1 in
    let cut : d ∷ (t ++ more) ≡ (48 + minor) ∷ rest = append_cancel_left (codes "HTTP/1.") _ _ same in
    cc

no_digit : (minor : ℕ) (s rest : List ℕ) → s ≡ codes "HTTP/1." ++ [] → Version minor s rest → ⊥
no_digit minor s rest is h =
    let same : codes "HTTP/1." ++ [] ≡ codes "HTTP/1." ++ (48 + minor) ∷ rest = sym is ∙ h.1 in
    let cut : [] ≡ (48 + minor) ∷ rest = append_cancel_left (codes "HTTP/1.") _ _ same in
    absurd (cc)

version_by_digit : (s t : List ℕ) → s ≡ codes "HTTP/1." ++ t → Judged Version s
version_by_digit s [] is = inr (inl (NotYet_intro (λ h. no_digit h.0 s h.1 is h.2), Version_before_digit is refl))
version_by_digit s (d ∷ t) is = by_test (d == 48)
    (λ zero_is. inl (0, t, (omega arith, is ∙ ap (λ x. codes "HTTP/1." ++ x ∷ t) (eqb-true d 48 zero_is))))
    (λ n. by_test (d == 49)
    (λ one_is. inl (1, t, (omega arith, is ∙ ap (λ x. codes "HTTP/1." ++ x ∷ t) (eqb-true d 49 one_is))))
    (λ m. inr (inr (Never_intro (λ more h.
    let digit = version_digit h.0 d s t more h.1 is h.2 in
    let small = h.2.0 in
    let not_zero = eqb-false d 48 n in
    let not_one = eqb-false d 49 m in
    elim (cases_lt h.0 1) [ inl low ↦ not_zero (omega arith) | inr high ↦ not_one (omega arith) ])))))

version_judged : (s : List ℕ) → Judged Version s
version_judged s = elim (bytes_judged (codes "HTTP/1.") s) [
  | inl begins ↦ version_by_digit s begins.1 begins.2
  | inr none ↦ elim none [
    | inl cut ↦ inr (inl (Version_bytes cut.0, Version_after_bytes cut.1))
    | inr never ↦ inr (inr (Version_bytes never))
  ]
]

-- ---- the request line, behind empty lines

abbrev JudgedStart : List ℕ → Type 0
JudgedStart s = Begins RequestStart s ⊎ ((NotYet (Begins RequestStart) s × MayBecomeRequestStart s) ⊎ Never (Begins RequestStart) s)

version_line : (s : List ℕ) → Judged (Then Version Newline) s
version_line s = then_judged s Version_deterministic some_newline (version_judged s) newline_judged

after_target : (es : List LineEnd) (m p s t u v : List ℕ) → Blank es s t → Method m t u → Target p u v → JudgedStart s
after_target es m p s t u v blank method target = elim (version_line v) [
  | inl begins ↦ inl ((es, (m, (p, begins.0))), begins.1, (t, blank, (u, method, (v, target, begins.2))))
  | inr none ↦ elim none [
    | inl cut ↦ inr (inl (refuted cut.0, inl (line_version es m p blank method target cut.1)))
    | inr never ↦ inr (inr (refuted never))
  ]
]
  where
    refuted : {M : List ℕ → Type 0} → Refutes M (Begins (Then Version Newline)) v → Refutes M (Begins RequestStart) s
    refuted none =
        Refutes_next (Then Method (Then Target (Then Version Newline))) Blank_deterministic {a = es} blank
        (Refutes_next (Then Target (Then Version Newline)) Method_deterministic {a = m} method
        (Refutes_next (Then Version Newline) Target_deterministic {a = p} target none))

after_method : (es : List LineEnd) (m s t u : List ℕ) → Blank es s t → Method m t u → JudgedStart s
after_method es m s t u blank method = elim (target_judged u) [
  | inl begins ↦ after_target es m begins.0 s t u begins.1 blank method begins.2
  | inr none ↦ elim none [
    | inl cut ↦ inr (inl (request_target es m blank method cut.0, inr (ends_in_target es m u blank method cut.1)))
    | inr never ↦ inr (inr (request_target es m blank method never))
  ]
]

after_blank : (es : List LineEnd) (s t : List ℕ) → Blank es s t → JudgedStart s
after_blank es s t blank = elim (method_judged t) [
  | inl begins ↦ after_method es begins.0 s t begins.1 blank begins.2
  | inr none ↦ elim none [
    | inl cut ↦ inr (inl (request_method es blank cut.0, inl (line_method es blank cut.1)))
    | inr never ↦ inr (inr (request_method es blank never))
  ]
]

-- a line end takes a byte
behind_end : (e : LineEnd) (s r : List ℕ) (n : ℕ) → Newline e s r → length s < suc n → length r < n
behind_end e s r n h low =
    let some = end_some e in
    omega (arith, ap length h, length-append (print_end e) r)

blank_at : (n : ℕ) (es : List LineEnd) (s t : List ℕ) → length t < n → BlankLines es s t → JudgedStart s
blank_at zero es s t low h = absurd (omega (arith, low))
blank_at (suc n) es s [] low h =
    inr (inl (request_blank (Blank_after es h (Blank_open [] 0 (omega arith))), inl (line_blank (BlankLines_after es h some_newline))))
blank_at (suc n) es s (b ∷ t) low h = by_test (is_newline b)
    (λ ends. elim (newline_judged (b ∷ t)) [
      | inl begins ↦ blank_at n (es ++ begins.0 ∷ []) s begins.1 (behind_end begins.0 (b ∷ t) begins.1 n begins.2 low) (blank_more es begins.0 s (b ∷ t) begins.1 h begins.2)
      | inr none ↦ elim none [
        | inl cut ↦ inr (inl (
          request_blank (Blank_after es h (Blank_newline (b ∷ t) 0 (omega arith) ends cut.0)),
          inl (line_blank (BlankLines_after es h cut.1)),
        ))
        | inr never ↦ inr (inr (request_blank (Blank_after es h (Blank_newline (b ∷ t) 0 (omega arith) ends never))))
      ]
    ])
    (λ other. after_blank es s (b ∷ t) (h, other))

start_judged : (s : List ℕ) → JudgedStart s
start_judged s = blank_at (suc (length s)) [] s s (omega arith) refl

-- ---- field lines

text_judged : (s : List ℕ) → Judged Text s
text_judged s =
    let run = run_of is_value_byte s in
    elim (newline_judged (drop run.0 s)) [
      | inl begins ↦ inl ((slice_range s 0 run.0, begins.0), begins.1, Text_done run.1 begins.0 begins.1 begins.2)
      | inr none ↦ elim none [
        | inl cut ↦ inr (inl (Text_open run.1 cut.0, Text_after_run run.1 cut.1))
        | inr never ↦ inr (inr (Text_wrong run.1 never))
      ]
    ]

row_judged : (s : List ℕ) → Judged (Then (Word is_token_byte 58) Text) s
row_judged s = then_judged s Name_deterministic some_text (word_judged is_token_byte 58 65 colon_ends_token letter_is_token s) text_judged

field_judged : (s : List ℕ) → Judged FieldLine s
field_judged s = elim (row_judged s) [
  | inl begins ↦ inl (
    record { name = begins.0.0; raw = begins.0.1.0; end = begins.0.1.1 },
    begins.1,
    FieldLine_done begins.0.0 begins.0.1.0 begins.0.1.1 s begins.2.0 begins.1 begins.2.1 begins.2.2,
  )
  | inr none ↦ elim none [
    | inl cut ↦ inr (inl (FieldLine_row cut.0, FieldLine_of_row cut.1))
    | inr never ↦ inr (inr (FieldLine_row never))
  ]
]

behind_field : (f : Field) (s r : List ℕ) (n : ℕ) → FieldLine f s r → length s < suc n → length r < n
behind_field f s r n h low =
    let some = h.0.name.0 in
    let size = ap length (h.1 ∙ print_field-append f r) in
    let long = simp length-append at size in
    omega arith

lines_at : (n : ℕ) (fs : List Field) (s t : List ℕ) → length t < n → FieldLines fs s t → Judged Section s
lines_at zero fs s t low lines = absurd (omega (arith, low))
lines_at (suc n) fs s [] low lines =
    inr (inl (Section_after fs lines (BeginsLine_open [] 0 (omega arith)), Section_after_lines fs lines (Section_of_line (inl some_newline))))
lines_at (suc n) fs s (b ∷ t) low lines = by_test (is_newline b)
    (λ ends. elim (newline_judged (b ∷ t)) [
      | inl begins ↦ inl ((fs, begins.0), begins.1, Section_done fs begins.0 s (b ∷ t) begins.1 lines begins.2)
      | inr none ↦ elim none [
        | inl cut ↦ inr (inl (
          Section_after fs lines (BeginsLine_either cut.0 (FieldLine_at_newline (λ more. more ≡ []) (b ∷ t) 0 (omega arith) ends)),
          Section_after_lines fs lines (Section_of_line (inl cut.1)),
        ))
        | inr never ↦ inr (inr (Section_after fs lines (BeginsLine_either never (FieldLine_at_newline (λ more. ⊤) (b ∷ t) 0 (omega arith) ends))))
      ]
    ])
    (λ other. elim (field_judged (b ∷ t)) [
      | inl begins ↦ lines_at n (fs ++ begins.0 ∷ []) s begins.1 (behind_field begins.0 (b ∷ t) begins.1 n begins.2 low) (FieldLines_push fs begins.0 s (b ∷ t) begins.1 lines begins.2)
      | inr none ↦ elim none [
        | inl cut ↦ inr (inl (
          Section_after fs lines (BeginsLine_either (Newline_at_other (λ more. more ≡ []) (b ∷ t) 0 (omega arith) other) cut.0),
          Section_after_lines fs lines (Section_of_line (inr cut.1)),
        ))
        | inr never ↦ inr (inr (Section_after fs lines (BeginsLine_either (Newline_at_other (λ more. ⊤) (b ∷ t) 0 (omega arith) other) never)))
      ]
    ])

section_judged : (s : List ℕ) → Judged Section s
section_judged s = lines_at (suc (length s)) [] s s (omega arith) (All-nil _, refl)

-- ---- the head

-- a head, bytes that hold none and can become one, or bytes that never become one
abbrev pub JudgedHead : List ℕ → Type 0
JudgedHead s =
    ((h : RequestHead) × (rest : List ℕ) × ReadsRequest s h rest) ⊎ ((HasNoRequest s × MayBecomeRequest s) ⊎ NeverHasRequest s)

after_start : (tree : List LineEnd × (List ℕ × (List ℕ × (ℕ × LineEnd)))) (s t : List ℕ) → RequestStart tree s t → JudgedHead s
after_start tree s t line = elim (section_judged t) [
  | inl begins ↦ inl (request_head (tree, begins.0), begins.1, request_from_pieces s (tree, begins.0) begins.1 (t, line, begins.2))
  | inr none ↦ elim none [
    | inl cut ↦ inr (inl (
      request_not_yet (Refutes_next Section RequestStart_deterministic {a = tree} line cut.0),
      request_may (Completes_next RequestStart_deterministic {a = tree} line cut.1),
    ))
    | inr never ↦ inr (inr (request_never (Refutes_next Section RequestStart_deterministic {a = tree} line never)))
  ]
]

pub head_judged : (s : List ℕ) → JudgedHead s
head_judged s = elim (start_judged s) [
  | inl begins ↦ after_start begins.0 s begins.1 begins.2
  | inr none ↦ elim none [
    | inl cut ↦ inr (inl (request_not_yet (Refutes_first RequestStart Section cut.0), request_may_from_line cut.1))
    | inr never ↦ inr (inr (request_never (Refutes_first RequestStart Section never)))
  ]
]
