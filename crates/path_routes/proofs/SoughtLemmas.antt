-- What a path is made of that a router finds a row for.
use Rattle.std.proofs.Common.{◌≡◌, ◌<◌, ◌≤◌, ◌-◌, ◌⊎◌, ℕ, zero, suc, List, [], ◌∷◌, length, drop, take, Option, Some, None, Bool, true, false, ◌&&◌, cond, ltb, ◌==◌, Result, Ok, Err, Any, arith, refl, sym, ap, subst, ◌∙◌, inl, inr}
use Rattle.std.proofs.lemmas.Bool.{and_parts, lt-ltb, ltb-true}
use Rattle.std.proofs.lemmas.Bool.Decides.{nat_tests}
use Rattle.std.specs.List.{AllByRecursion}
use Rattle.matchit.proofs.CountLemmas.{length-segment}
use Rattle.matchit.specs.Order.{placed}
use Rattle.matchit.specs.Route.{Scan, parse_route}
use Rattle.matchit.specs.Router.{route_from}
use Rattle.matchit.specs.Rows.{RowsOf, catch_all_token, comes_before, param_token}
use Rattle.matchit.specs.Seek.{better, cuts, has_slash, longest_from, or_else, own, param_step, same_text, seek, segment, step, with_suffix}
use Rattle.matchit.specs.declared.error.InsertError.{InsertError}
use Rattle.path_routes.specs.Table.{entered, entry_of, with_path, with_paths}
use Rattle.path_routes.specs.declared.route.Route.{Route}
use Rattle.path_routes.proofs.SeekLemmas.{one_less, same_nat}
use Rattle.path_routes.proofs.TableLemmas.{Kept}

-- a row of this pattern, with this key
abbrev pub Has : RowsOf Kept → List ℕ → Kept → Type 0
Has [] t k = ⊥
Has (row ∷ rows) t k = ((row.0 ≡ t) × (row.1 ≡ k)) ⊎ Has rows t k

-- the path is made as the pattern says: byte after byte, with a text in a parameter's place
abbrev pub Takes : List ℕ → List ℕ → Type 0
Takes [] path = path ≡ []
Takes (t ∷ ts) path =
    ((t < 256) × (rest : List ℕ) × (path ≡ t ∷ rest) × Takes ts rest)
    ⊎ (((t ≡ 256) × (n : ℕ) × (0 < n) × (n ≤ length path) × (has_slash (take n path) ≡ false) × Takes ts (drop n path)) ⊎ (t ≡ 257))

-- bytes
abbrev pub AreBytes : List ℕ → Type 0
AreBytes [] = Unit {0}
AreBytes (b ∷ bs) = (b < 256) × AreBytes bs

own_has : (rows : RowsOf Kept) (k : Kept) → own rows ≡ Some k → Has rows [] k
own_has [] k h = absurd (cc)
own_has (([], key) ∷ rows) k h = inl (refl, cc)
own_has ((x ∷ t, key) ∷ rows) k h = inr (own_has rows k h)

step_row : (b x : ℕ) (u : List ℕ) (key : Kept) (rows : RowsOf Kept) (t : List ℕ) (k : Kept) → (Has (step b rows) t k → Has rows (b ∷ t) k)
    → (v : Bool) → (x == b) ≡ v → Has (cond v ((u, key) ∷ step b rows) (step b rows)) t k → Has ((x ∷ u, key) ∷ rows) (b ∷ t) k
step_row b x u key rows t k more true same h =
    elim h [
      | inl here ↦ inl (let token = same_nat x b same in let tail : u ≡ t = here.0 in cc, here.1)
      | inr behind ↦ inr (more behind)
    ]
step_row b x u key rows t k more false other h = inr (more h)

step_has : (b : ℕ) (rows : RowsOf Kept) (t : List ℕ) (k : Kept) → Has (step b rows) t k → Has rows (b ∷ t) k
step_has b [] t k h = absurd h
step_has b (([], key) ∷ rows) t k h = inr (step_has b rows t k h)
step_has b ((x ∷ u, key) ∷ rows) t k h = step_row b x u key rows t k (λ behind. step_has b rows t k behind) (x == b) refl h

suffix_row : (u : List ℕ) (key : Kept) (rest rows : RowsOf Kept) (t : List ℕ) (k : Kept) → (Has rest t k → Has rows t k)
    → (v : Bool) → Has (cond v ((u, key) ∷ rest) rest) t k → Has ((u, key) ∷ rows) t k
suffix_row u key rest rows t k more true h = elim h [ inl here ↦ inl here | inr behind ↦ inr (more behind) ]
suffix_row u key rest rows t k more false h = inr (more h)

suffix_has : (suffix : List ℕ) (rows : RowsOf Kept) (t : List ℕ) (k : Kept) → Has (with_suffix suffix rows) t k → Has rows t k
suffix_has suffix [] t k h = absurd h
suffix_has suffix ((u, key) ∷ rows) t k h =
    suffix_row u key (with_suffix suffix rows) rows t k (λ behind. suffix_has suffix rows t k behind) (same_text (segment u) suffix) h

-- ---- what a parameter takes

better_at : (seg best suffix : List ℕ) (v : Bool) → (ltb (length best) (length suffix) && cuts seg suffix) ≡ v → (0 < length best → cuts seg best ≡ true)
    → 0 < length (cond v suffix best) → cuts seg (cond v suffix best) ≡ true
better_at seg best suffix true e h some = (and_parts (ltb (length best) (length suffix)) (cuts seg suffix) e).1
better_at seg best suffix false e h some = h some

longest_cuts : (seg best : List ℕ) (rows : RowsOf Kept) → (0 < length best → cuts seg best ≡ true)
    → 0 < length (longest_from seg best rows) → cuts seg (longest_from seg best rows) ≡ true
longest_cuts seg best [] h some = h some
longest_cuts seg best ((t, key) ∷ rows) h some =
    longest_cuts seg (better seg best (segment t)) rows
    (better_at seg best (segment t) (ltb (length best) (length (segment t)) && cuts seg (segment t)) refl h) some

front_byte : (b n : ℕ) (path : List ℕ) → (suc n < length (segment path) → has_slash (take (suc n) path) ≡ false)
    → (v : Bool) → (b == 47) ≡ v → suc (suc n) < length (cond v (b ∷ []) (b ∷ segment path)) → cond v true (has_slash (take (suc n) path)) ≡ false
front_byte b n path more true same h = absurd (omega (arith, h))
front_byte b n path more false other h = more (omega (arith, h))

first_byte : (b : ℕ) (path : List ℕ) → (v : Bool) → (b == 47) ≡ v → 1 < length (cond v (b ∷ []) (b ∷ segment path)) → cond v true false ≡ false
first_byte b path true same h = absurd (omega (arith, h))
first_byte b path false other h = refl

-- less than the bytes up to a slash has none
front_free : (n : ℕ) (path : List ℕ) → n < length (segment path) → has_slash (take n path) ≡ false
front_free zero path h = refl
front_free (suc n) [] h = absurd (omega (arith, h))
front_free (suc zero) (b ∷ path) h = first_byte b path (b == 47) refl h
front_free (suc (suc n)) (b ∷ path) h = front_byte b n path (λ e. front_free (suc n) path e) (b == 47) refl h

take_whole : (path : List ℕ) → take (length path) path ≡ path
take_whole [] = refl
take_whole (b ∷ path) = ap (λ t. b ∷ t) (take_whole path)

-- a parameter's text isn't empty, and has no slash
record IsTaken (n : ℕ) (path : List ℕ) (rows : RowsOf Kept) (t : List ℕ) (k : Kept) : Type 0 where
  has : Has rows t k
  some : 0 < n
  within : n ≤ length path
  free : has_slash (take n path) ≡ false

param_at : (path suffix : List ℕ) (rows : RowsOf Kept) (t : List ℕ) (k : Kept) → 0 < length path
    → (0 < length suffix → cuts (segment path) suffix ≡ true) → (x y : Bool) → ltb 0 (length suffix) ≡ x → has_slash path ≡ y
    → Has (cond {A = ℕ × RowsOf Kept} x (length (segment path) - length suffix, with_suffix suffix rows) (cond {A = ℕ × RowsOf Kept} y (0, []) (length path, rows))).1 t k
    → IsTaken (cond {A = ℕ × RowsOf Kept} x (length (segment path) - length suffix, with_suffix suffix rows) (cond {A = ℕ × RowsOf Kept} y (0, []) (length path, rows))).0 path rows t k
param_at path suffix rows t k some ends true y long slash h =
    let fits = ltb-true 0 (length suffix) long in
    let short = ltb-true (length suffix) (length (segment path)) (and_parts _ _ (ends fits)).0 in
    record {
      has = suffix_has suffix rows t k h;
      some = omega arith;
      within = omega (arith, length-segment path);
      free = front_free (length (segment path) - length suffix) path (omega arith);
    }
param_at path suffix rows t k some ends false true long slash h = absurd h
param_at path suffix rows t k some ends false false long slash h = record {
  has = h;
  some = some;
  within = omega arith;
  free = ap has_slash (take_whole path) ∙ slash;
}

param_has : (path : List ℕ) (rows : RowsOf Kept) (t : List ℕ) (k : Kept) → 0 < length path → Has (param_step rows path).1 t k → IsTaken (param_step rows path).0 path rows t k
unfolding param_step
param_has path rows t k some h =
    param_at path (longest_from (segment path) [] rows) rows t k some
    (longest_cuts (segment path) [] rows (λ none. absurd (omega (arith, none))))
    (ltb 0 (length (longest_from (segment path) [] rows))) (has_slash path) refl refl h

-- ---- what is sought

-- a row is found, and the path is made as its pattern says
abbrev pub IsFound : RowsOf Kept → List ℕ → Kept → Type 0
IsFound rows path k = (t : List ℕ) × Has rows t k × Takes t path

one_of : (a other : Option Kept) (k : Kept) → or_else a other ≡ Some k → (a ≡ Some k) ⊎ (other ≡ Some k)
one_of None other k h = inr h
one_of (Some x) other k h = inl h

drop_less : (n b : ℕ) (path : List ℕ) → 0 < n → drop (n - 1) path ≡ drop n (b ∷ path)
drop_less zero b path h = absurd (omega (arith, h))
drop_less (suc n) b path h = ap (λ m. drop m path) (one_less n)

by_byte : (b : ℕ) (path : List ℕ) (rows : RowsOf Kept) (k : Kept) → b < 256 → IsFound (step b rows) path k → IsFound rows (b ∷ path) k
by_byte b path rows k small f = (b ∷ f.0, step_has b rows f.0 k f.1, inl (small, path, refl, f.2))

by_param : (b : ℕ) (path : List ℕ) (rows : RowsOf Kept) (k : Kept)
    → IsFound (param_step (step param_token rows) (b ∷ path)).1 (drop ((param_step (step param_token rows) (b ∷ path)).0 - 1) path) k → IsFound rows (b ∷ path) k
by_param b path rows k f =
    let is = param_has (b ∷ path) (step param_token rows) f.0 k (omega arith) f.1 in
    let n = (param_step (step param_token rows) (b ∷ path)).0 in (
      param_token ∷ f.0,
      step_has param_token rows f.0 k is.has,
      inr (inl (refl, n, is.some, is.within, is.free, subst (Takes f.0) (drop_less n b path is.some) f.2)),
    )

by_rest : (b : ℕ) (path : List ℕ) (rows : RowsOf Kept) (k : Kept) → own (step catch_all_token rows) ≡ Some k → IsFound rows (b ∷ path) k
by_rest b path rows k h = (catch_all_token ∷ [], step_has catch_all_token rows [] k (own_has (step catch_all_token rows) k h), inr (inr refl))

pub sought : (skip : ℕ) (path : List ℕ) (rows : RowsOf Kept) (k : Kept) → AreBytes path → seek skip rows path ≡ Some k → IsFound rows (drop skip path) k
unfolding seek
sought zero [] rows k small h = ([], own_has rows k h, refl)
sought (suc skip) [] rows k small h = ([], own_has rows k h, refl)
sought (suc skip) (b ∷ path) rows k small h = sought skip path rows k small.1 h
sought zero (b ∷ path) rows k small h =
    let taken = param_step (step param_token rows) (b ∷ path) in
    elim (one_of (seek 0 (step b rows) path) (or_else (seek (taken.0 - 1) taken.1 path) (own (step catch_all_token rows))) k h) [
      | inl byte ↦ by_byte b path rows k small.0 (sought 0 path (step b rows) k small.1 byte)
      | inr other ↦ elim (one_of (seek (taken.0 - 1) taken.1 path) (own (step catch_all_token rows)) k other) [
        | inl param ↦ by_param b path rows k (sought (taken.0 - 1) path taken.1 k small.1 param)
        | inr rest ↦ by_rest b path rows k rest
      ]
    ]

-- ---- the rows of a list of paths

-- the row of a path, as the router keeps it
abbrev pub IsRow : List ℕ × Route → List ℕ → Kept → Type 0
IsRow path t k = (scan : Scan) × (parse_route path.0 ≡ Ok scan) × (scan.pattern ≡ t) × (k.value ≡ entry_of path.0 path.1)

placed_row : (t u : List ℕ) (k key : Kept) (p : List ℕ) (x : Kept) (rows : RowsOf Kept) → (Has (placed (t, k) rows) p x → ((t ≡ p) × (k ≡ x)) ⊎ Has rows p x)
    → (v : Bool) → Has (cond v ((t, k) ∷ (u, key) ∷ rows) ((u, key) ∷ placed (t, k) rows)) p x → ((t ≡ p) × (k ≡ x)) ⊎ Has ((u, key) ∷ rows) p x
placed_row t u k key p x rows more true h = h
placed_row t u k key p x rows more false h =
    elim h [
      | inl here ↦ inr (inl here)
      | inr behind ↦ elim (more behind) [ inl new ↦ inl new | inr old ↦ inr (inr old) ]
    ]

placed_has : (t : List ℕ) (k : Kept) (rows : RowsOf Kept) (p : List ℕ) (x : Kept) → Has (placed (t, k) rows) p x → ((t ≡ p) × (k ≡ x)) ⊎ Has rows p x
placed_has t k [] p x h = h
placed_has t k ((u, key) ∷ rows) p x h = placed_row t u k key p x rows (λ behind. placed_has t k rows p x behind) (comes_before t u) h

entered_has : (path : List ℕ × Route) (rows : RowsOf Kept) (p : List ℕ) (x : Kept) (s : Result Scan InsertError) → parse_route path.0 ≡ s
    → Has (entered rows s (entry_of path.0 path.1)) p x → IsRow path p x ⊎ Has rows p x
entered_has path rows p x (Ok scan) is h =
    elim (placed_has scan.pattern (route_from scan (entry_of path.0 path.1)) rows p x h) [
      | inl here ↦ inl (scan, is, here.0, sym (ap (λ (k : Kept). k.value) here.1))
      | inr old ↦ inr old
    ]
entered_has path rows p x (Err e) is h = inr h

any_more : {X : Type 0} (P : X → Type 0) (y : X) (l : List X) → Any P l → Any P (y ∷ l)
any_more P y l a = (suc a.0, a.1, omega (arith, a.2), a.3, a.4)

any_here : {X : Type 0} (P : X → Type 0) (y : X) (l : List X) → P y → Any P (y ∷ l)
any_here P y l h = (0, y, omega arith, refl, h)

-- each row is that of one of the paths, of which something is known
pub rows_of_paths : (Q : List ℕ × Route → Type 0) (list : List (List ℕ × Route)) (rows : RowsOf Kept) (p : List ℕ) (x : Kept) → AllByRecursion Q list
    → Has (with_paths rows list) p x → Any (λ path. Q path × IsRow path p x) list ⊎ Has rows p x
rows_of_paths Q [] rows p x known h = inr h
rows_of_paths Q (path ∷ list) rows p x known h =
    elim (rows_of_paths Q list (with_path rows path.0 path.1) p x known.1 h) [
      | inl later ↦ inl (any_more (λ row. Q row × IsRow row p x) path list later)
      | inr has ↦ elim (entered_has path rows p x (parse_route path.0) refl has) [
        | inl row ↦ inl (any_here (λ row. Q row × IsRow row p x) path list (known.0, row))
        | inr old ↦ inr old
      ]
    ]
