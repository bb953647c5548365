-- How a path goes through the rows of a router: bytes first, and then a segment in a parameter's place.
use Rattle.std.proofs.Common.{◌≡◌, ◌<◌, ◌-◌, ℕ, zero, suc, List, [], ◌∷◌, ◌++◌, length, Option, Some, None, Bool, true, false, ◌&&◌, cond, ltb, leb, ◌==◌, nat_eq, arith, append-nil, refl, ap, ◌∙◌}
use Rattle.std.proofs.Math.Seq.{drop-append_seam}
use Rattle.std.proofs.lemmas.Bool.{and_from, and_parts, leb-true}
use Rattle.std.proofs.lemmas.Bool.Decides.{nat_tests}
use Rattle.std.specs.List.{ends_with}
use Rattle.tail_base.proofs.Bools.{all3, all5}
use Rattle.matchit.specs.Rows.{RowsOf, catch_all_token, param_token}
use Rattle.matchit.specs.Seek.{better, cuts, has_slash, longest_from, or_else, own, param_step, seek, segment, step, with_suffix}
use Rattle.path_routes.specs.Segments.{before_slash}
use Rattle.path_routes.proofs.TableLemmas.{Kept}

pub or_else_none : (a : Option Kept) → or_else a None ≡ a
or_else_none None = refl
or_else_none (Some k) = refl

param_of_nothing : (path : List ℕ) → (param_step {K = Kept} [] path).1 ≡ []
unfolding param_step
param_of_nothing path =
    elim (has_slash path) as (λ v. (cond {A = ℕ × RowsOf Kept} v (0, []) (length path, [])).1 ≡ []) [
      | true ↦ refl
      | false ↦ refl
    ]

seek_nothing : (skip : ℕ) (path : List ℕ) → seek {K = Kept} skip [] path ≡ None
unfolding seek
seek_nothing skip [] = refl
seek_nothing (suc skip) (b ∷ path) = seek_nothing skip path
seek_nothing zero (b ∷ path) = simp (seek_nothing 0 path, param_of_nothing (b ∷ path), seek_nothing (((param_step {K = Kept} [] (b ∷ path)).0) - 1) path)

abbrev pub is_empty : RowsOf Kept → Bool
is_empty [] = true
is_empty (row ∷ rows) = false

empty_is : (rows : RowsOf Kept) → is_empty rows ≡ true → rows ≡ []
empty_is [] h = refl
empty_is (row ∷ rows) h = absurd (cc)

-- the rows behind these bytes
abbrev pub rows_behind : List ℕ → RowsOf Kept → RowsOf Kept
rows_behind [] rows = rows
rows_behind (b ∷ bs) rows = rows_behind bs (step b rows)

-- no row has a parameter among these bytes
abbrev pub is_plain : List ℕ → RowsOf Kept → Bool
is_plain [] rows = true
is_plain (b ∷ bs) rows = is_empty (step param_token rows) && is_empty (step catch_all_token rows) && is_plain bs (step b rows)

pub seek_plain : (front path : List ℕ) (rows : RowsOf Kept) → is_plain front rows ≡ true → seek 0 rows (front ++ path) ≡ seek 0 (rows_behind front rows) path
unfolding seek
seek_plain [] path rows h = refl
seek_plain (b ∷ front) path rows h =
    let parts = all3 (is_empty (step param_token rows)) (is_empty (step catch_all_token rows)) (is_plain front (step b rows)) h in
    rw (
      empty_is (step param_token rows) parts.0,
      empty_is (step catch_all_token rows) parts.1,
      param_of_nothing (b ∷ (front ++ path)),
      seek_nothing ((param_step {K = Kept} [] (b ∷ (front ++ path))).0 - 1) (front ++ path),
      or_else_none (seek 0 (step b rows) (front ++ path)),
    ) (seek_plain front path (step b rows) parts.2)

-- all rows begin with a parameter or end
abbrev pub all_wild : RowsOf Kept → Bool
all_wild [] = true
all_wild (([], key) ∷ rows) = all_wild rows
all_wild ((x ∷ t, key) ∷ rows) = leb param_token x && all_wild rows

step_wild : (b : ℕ) (rows : RowsOf Kept) → b < 256 → all_wild rows ≡ true → step b rows ≡ []
step_wild b [] small h = refl
step_wild b (([], key) ∷ rows) small h = step_wild b rows small h
step_wild b ((x ∷ t, key) ∷ rows) small h =
    let parts = and_parts (leb param_token x) (all_wild rows) h in
    let high = leb-true param_token x parts.0 in
    let other : (x == b) ≡ false = grind (arith, nat_tests) in
    rw other (step_wild b rows small parts.1)

-- each row ends, or goes on with a slash
abbrev pub goes_on : RowsOf Kept → Bool
goes_on [] = true
goes_on (([], key) ∷ rows) = goes_on rows
goes_on ((x ∷ t, key) ∷ rows) = (x == 47) && goes_on rows

-- some row doesn't end
abbrev pub some_goes_on : RowsOf Kept → Bool
some_goes_on [] = false
some_goes_on (([], key) ∷ rows) = some_goes_on rows
some_goes_on ((x ∷ t, key) ∷ rows) = true

pub same_nat : (m n : ℕ) → (m == n) ≡ true → m ≡ n
same_nat m n h = grind (arith, nat_tests)

not_slash : (t r : Bool) → cond t true r ≡ false → (t ≡ false) × (r ≡ false)
not_slash true r h = absurd (cc)
not_slash false r h = (refl, h)

-- no suffix of the rows ends the segment
better_none : (seg t : List ℕ) (x : ℕ) → x ≡ 47 → cuts seg (47 ∷ []) ≡ false → better seg [] (segment (x ∷ t)) ≡ []
better_none seg t x is out = rw (is, out) refl

longest_none : (seg : List ℕ) (rows : RowsOf Kept) → cuts seg (47 ∷ []) ≡ false → goes_on rows ≡ true → longest_from seg [] rows ≡ []
longest_none seg [] out h = refl
longest_none seg (([], key) ∷ rows) out h = longest_none seg rows out h
longest_none seg ((x ∷ t, key) ∷ rows) out h =
    let parts = and_parts (x == 47) (goes_on rows) h in
    ap (λ best. longest_from seg best rows) (better_none seg t x (same_nat x 47 parts.0) out) ∙ longest_none seg rows out parts.1

-- the slash is the suffix that ends the segment
better_stays : (seg t : List ℕ) (x : ℕ) → x ≡ 47 → better seg (47 ∷ []) (segment (x ∷ t)) ≡ 47 ∷ []
better_stays seg t x slash = rw slash refl

longest_stays : (seg : List ℕ) (rows : RowsOf Kept) → goes_on rows ≡ true → longest_from seg (47 ∷ []) rows ≡ 47 ∷ []
longest_stays seg [] h = refl
longest_stays seg (([], key) ∷ rows) h = longest_stays seg rows h
longest_stays seg ((x ∷ t, key) ∷ rows) h =
    let parts = and_parts (x == 47) (goes_on rows) h in
    ap (λ best. longest_from seg best rows) (better_stays seg t x (same_nat x 47 parts.0)) ∙ longest_stays seg rows parts.1

better_slash : (seg t : List ℕ) (x : ℕ) → x ≡ 47 → cuts seg (47 ∷ []) ≡ true → better seg [] (segment (x ∷ t)) ≡ 47 ∷ []
better_slash seg t x is ends = rw (is, ends) refl

longest_slash : (seg : List ℕ) (rows : RowsOf Kept) → cuts seg (47 ∷ []) ≡ true → goes_on rows ≡ true → some_goes_on rows ≡ true → longest_from seg [] rows ≡ 47 ∷ []
longest_slash seg [] ends h some = absurd (cc)
longest_slash seg (([], key) ∷ rows) ends h some = longest_slash seg rows ends h some
longest_slash seg ((x ∷ t, key) ∷ rows) ends h some =
    let parts = and_parts (x == 47) (goes_on rows) h in
    ap (λ best. longest_from seg best rows) (better_slash seg t x (same_nat x 47 parts.0) ends) ∙ longest_stays seg rows parts.1

-- segments
segment_free : (seg : List ℕ) → has_slash seg ≡ false → segment seg ≡ seg
segment_free [] free = refl
segment_free (b ∷ seg) free =
    let parts = not_slash (b == 47) (has_slash seg) free in
    rw parts.0 (ap (λ t. b ∷ t) (segment_free seg parts.1))

segment_before : (seg tail : List ℕ) → has_slash seg ≡ false → segment (seg ++ 47 ∷ tail) ≡ seg ++ 47 ∷ []
segment_before [] tail free = refl
segment_before (b ∷ seg) tail free =
    let parts = not_slash (b == 47) (has_slash seg) free in
    rw parts.0 (ap (λ t. b ∷ t) (segment_before seg tail parts.1))

more : (seg : List ℕ) → length (seg ++ 47 ∷ []) ≡ suc (length seg)
more [] = refl
more (b ∷ seg) = ap suc (more seg)

pub one_less : (n : ℕ) → suc n - 1 ≡ n
one_less n = omega arith

ends_slash : (seg : List ℕ) → ends_with nat_eq (seg ++ 47 ∷ []) (47 ∷ []) ≡ true
ends_slash seg = rw (more seg, one_less (length seg), drop-append_seam seg (47 ∷ [])) refl

ends_free : (seg : List ℕ) → has_slash seg ≡ false → ends_with nat_eq seg (47 ∷ []) ≡ false
ends_free [] free = refl
ends_free (b ∷ []) free =
    let parts = not_slash (b == 47) false free in
    let other : nat_eq 47 b ≡ false = grind (arith, nat_tests) in
    rw other refl
ends_free (b ∷ c ∷ seg) free =
    let parts = not_slash (b == 47) (has_slash (c ∷ seg)) free in
    let count : suc (suc (length seg)) - 1 ≡ suc (suc (length seg) - 1) = omega arith in
    rw count (ends_free (c ∷ seg) parts.1)

cuts_slash : (b : ℕ) (seg : List ℕ) → cuts ((b ∷ seg) ++ 47 ∷ []) (47 ∷ []) ≡ true
cuts_slash b seg =
    let long : ltb 1 (length ((b ∷ seg) ++ 47 ∷ [])) ≡ true = rw (more (b ∷ seg)) (grind (arith, nat_tests)) in
    and_from _ _ long (ends_slash (b ∷ seg))

no_and : (a b : Bool) → b ≡ false → (a && b) ≡ false
no_and true b h = h
no_and false b h = refl

cuts_free : (seg : List ℕ) → has_slash seg ≡ false → cuts seg (47 ∷ []) ≡ false
cuts_free seg free = no_and (ltb 1 (length seg)) (ends_with nat_eq seg (47 ∷ [])) (ends_free seg free)

seek_over : (seg path : List ℕ) (rows : RowsOf Kept) → seek (length seg) rows (seg ++ path) ≡ seek 0 rows path
unfolding seek
seek_over [] path rows = refl
seek_over (b ∷ seg) path rows = seek_over seg path rows

seek_all : (seg : List ℕ) (rows : RowsOf Kept) → seek (length seg) rows seg ≡ own rows
unfolding seek
seek_all [] rows = refl
seek_all (b ∷ seg) rows = seek_all seg rows

-- what a parameter takes
param_end : (path : List ℕ) (rows : RowsOf Kept) → has_slash path ≡ false → goes_on rows ≡ true → param_step rows path ≡ (length path, rows)
unfolding param_step
param_end path rows free h = rw (segment_free path free, longest_none path rows (cuts_free path free) h, free) refl

param_slash : (b : ℕ) (seg tail : List ℕ) (rows : RowsOf Kept) → has_slash (b ∷ seg) ≡ false → goes_on rows ≡ true → some_goes_on rows ≡ true
    → param_step rows ((b ∷ seg) ++ 47 ∷ tail) ≡ (suc (length seg), with_suffix (47 ∷ []) rows)
unfolding param_step
param_slash b seg tail rows free h some =
    rw (
      segment_before (b ∷ seg) tail free,
      longest_slash ((b ∷ seg) ++ 47 ∷ []) rows (cuts_slash b seg) h some,
      more seg,
      one_less (suc (length seg)),
    ) refl

seek_end : (b : ℕ) (seg : List ℕ) (rows : RowsOf Kept) → b < 256 → has_slash (b ∷ seg) ≡ false → all_wild rows ≡ true
    → is_empty (step catch_all_token rows) ≡ true → goes_on (step param_token rows) ≡ true → seek 0 rows (b ∷ seg) ≡ own (step param_token rows)
unfolding seek
seek_end b seg rows small free wild none on =
    rw (
      step_wild b rows small wild,
      seek_nothing 0 seg,
      param_end (b ∷ seg) (step param_token rows) free on,
      empty_is (step catch_all_token rows) none,
      one_less (length seg),
      seek_all seg (step param_token rows),
    ) (or_else_none (own (step param_token rows)))

seek_slash : (b : ℕ) (seg tail : List ℕ) (rows : RowsOf Kept) → b < 256 → has_slash (b ∷ seg) ≡ false → all_wild rows ≡ true
    → is_empty (step catch_all_token rows) ≡ true → goes_on (step param_token rows) ≡ true → some_goes_on (step param_token rows) ≡ true
    → seek 0 rows ((b ∷ seg) ++ 47 ∷ tail) ≡ seek 0 (with_suffix (47 ∷ []) (step param_token rows)) (47 ∷ tail)
unfolding seek
seek_slash b seg tail rows small free wild none on some =
    rw (
      step_wild b rows small wild,
      seek_nothing 0 (seg ++ 47 ∷ tail),
      param_slash b seg tail (step param_token rows) free on some,
      empty_is (step catch_all_token rows) none,
      one_less (length seg),
      seek_over seg (47 ∷ tail) (with_suffix (47 ∷ []) (step param_token rows)),
    ) (or_else_none (seek 0 (with_suffix (47 ∷ []) (step param_token rows)) (47 ∷ tail)))

-- the rows take a segment, and then what stands behind the braces
abbrev pub is_ready : List ℕ → RowsOf Kept → Bool
is_ready [] rows = all_wild rows && is_empty (step catch_all_token rows) && goes_on (step param_token rows)
is_ready (b ∷ bs) rows =
    all_wild rows && is_empty (step catch_all_token rows) && goes_on (step param_token rows) && some_goes_on (step param_token rows) && b == 47

-- where that leads
abbrev pub lands : List ℕ → RowsOf Kept → Option Kept
lands [] rows = own (step param_token rows)
lands (b ∷ bs) rows = seek 0 (with_suffix (47 ∷ []) (step param_token rows)) (b ∷ bs)

pub seek_segment : (b : ℕ) (seg back : List ℕ) (rows : RowsOf Kept) → b < 256 → has_slash (b ∷ seg) ≡ false → is_ready back rows ≡ true
    → seek 0 rows ((b ∷ seg) ++ back) ≡ lands back rows
seek_segment b seg [] rows small free h =
    let parts = all3 (all_wild rows) (is_empty (step catch_all_token rows)) (goes_on (step param_token rows)) h in
    ap (seek 0 rows) (append-nil (b ∷ seg)) ∙ seek_end b seg rows small free parts.0 parts.1 parts.2
seek_segment b seg (c ∷ back) rows small free h =
    let parts = all5 (all_wild rows) (is_empty (step catch_all_token rows)) (goes_on (step param_token rows)) (some_goes_on (step param_token rows)) (c == 47) h in
    let slash = same_nat c 47 parts.4 in
    rw slash (seek_slash b seg back rows small free parts.0 parts.1 parts.2 parts.3)

-- the segment is found again
pub segment_again : (seg back : List ℕ) (rows : RowsOf Kept) → has_slash seg ≡ false → is_ready back rows ≡ true → before_slash (seg ++ back) ≡ seg
segment_again [] [] rows free h = refl
segment_again [] (c ∷ back) rows free h =
    let parts = all5 (all_wild rows) (is_empty (step catch_all_token rows)) (goes_on (step param_token rows)) (some_goes_on (step param_token rows)) (c == 47) h in
    rw parts.4 refl
segment_again (b ∷ seg) back rows free h =
    let parts = not_slash (b == 47) (has_slash seg) free in
    rw parts.0 (ap (λ t. b ∷ t) (segment_again seg back rows parts.1 h))
