-- Steps of a change, one behind the other.
use Rattle.std.proofs.Common.{◌≡◌, ◌+◌, ◌<◌, ℕ, List, [], ◌∷◌, ◌++◌, map, length, take, get_or, Ok, Err, Result, OnOk, refl, sym, ap, subst, ◌∙◌, arith}
use Rattle.std.specs.List.{AllByRecursion}
use Rattle.std.proofs.Math.Seq.{take-length}
use Rattle.std.proofs.lemmas.List.{take_more, length-take-le}
use Rattle.net_rows.specs.Rows.{put, put_all, take_out, take_all_out}
use Rattle.net_rows.specs.declared.rows.Rows.{Rows}
use Rattle.net_rows.specs.declared.change.Row.{Row}
use Rattle.net_rows.specs.declared.change.RowKey.{RowKey}
use Rattle.sqlite.specs.Effect.{Database}
use Rattle.store_rows.specs.Rows.{extra_cells}
use Rattle.tailcfg.specs.declared.dns.DnsExtra.{DnsExtra}
use Rattle.store_commits.specs.Kept.{IsAdded, Keeps, Makes, value_of}
use Rattle.store_commits.proofs.KeptSteps.{extra_added}

-- what holds of an answer that went well, where it follows from something that does
pub where_ok : {X E : Type 0} (r : Result X E) (P Q : Type 0) → (P → Q) → OnOk r P → OnOk r Q
where_ok (Ok x) P Q f h = f h
where_ok (Err e) P Q f h = tt

one_more : {T : Type 0} (xs : List T) (i : ℕ) (x : T) → i < length xs → x ≡ get_or xs i x → take (i + 1) xs ≡ take i xs ++ x ∷ []
one_more xs i x less is = take_more xs i x less ∙ ap (λ y. take i xs ++ y ∷ []) (sym is)

out_last : (t : Rows) (ks : List RowKey) (k : RowKey) → take_all_out t (ks ++ k ∷ []) ≡ take_out (take_all_out t ks) k
out_last t [] k = refl
out_last t (x ∷ ks) k = out_last (take_out t x) ks k

put_one_more : (t : Rows) (xs : List Row) (x : Row) → put_all t (xs ++ x ∷ []) ≡ put (put_all t xs) x
put_one_more t [] x = refl
put_one_more t (y ∷ xs) x = put_one_more (put t y) xs x

pub one_more_out : (a b c : Database) (ks : List RowKey) (i : ℕ) (k : RowKey) → i < length ks → k ≡ get_or ks i k → Makes a b (λ rows. take_all_out rows (take i ks)) → Makes b c (λ rows. take_out rows k)
    → Makes a c (λ rows. take_all_out rows (take (i + 1) ks))
one_more_out a b c ks i k less is one two rows was =
    subst (Keeps c) (sym (ap (take_all_out rows) (one_more ks i k less is) ∙ out_last rows (take i ks) k)) (two (take_all_out rows (take i ks)) (one rows was))

pub one_more_put : (a b c : Database) (xs : List Row) (i : ℕ) (x : Row) → i < length xs → x ≡ get_or xs i x → Makes a b (λ rows. put_all rows (take i xs)) → Makes b c (λ rows. put rows x)
    → Makes a c (λ rows. put_all rows (take (i + 1) xs))
one_more_put a b c xs i x less is one two rows was =
    subst (Keeps c) (sym (ap (put_all rows) (one_more xs i x less is) ∙ put_one_more rows (take i xs) x)) (two (put_all rows (take i xs)) (one rows was))

-- the record of the next place stands behind those that were added
pub one_more_extra : (a b c : Database) (xs : List DnsExtra) (i place : ℕ) (x : DnsExtra) → i < length xs → x ≡ get_or xs i x → place ≡ i + 1 → Makes a b (λ rows. record rows { extras = take i xs })
    → IsAdded (map value_of (extra_cells place x)) b c → Makes a c (λ rows. record rows { extras = take (i + 1) xs })
one_more_extra a b c xs i place x less is at one two rows was =
    let first : length (take i xs) ≡ i = length-take-le i xs (omega (arith, less)) in
    let behind : place ≡ 1 + length (take i xs) = omega (arith, at, first) in
    subst (λ l. Keeps c (record rows { extras = l })) (sym (one_more xs i x less is))
    (extra_added b c (take i xs) x (subst (λ n. IsAdded (map value_of (extra_cells n x)) b c) behind two) rows (one rows was))

-- all of a list is its first part of its length
pub whole_out : (a b : Database) (ks : List RowKey) → Makes a b (λ rows. take_all_out rows (take (length ks) ks)) → Makes a b (λ rows. take_all_out rows ks)
whole_out a b ks one rows was = subst (λ l. Keeps b (take_all_out rows l)) (take-length ks) (one rows was)

pub whole_put : (a b : Database) (xs : List Row) → Makes a b (λ rows. put_all rows (take (length xs) xs)) → Makes a b (λ rows. put_all rows xs)
whole_put a b xs one rows was = subst (λ l. Keeps b (put_all rows l)) (take-length xs) (one rows was)

pub whole_extras : (a b : Database) (xs : List DnsExtra) → Makes a b (λ rows. record rows { extras = take (length xs) xs }) → Makes a b (λ rows. record rows { extras = xs })
whole_extras a b xs one rows was = subst (λ l. Keeps b (record rows { extras = l })) (take-length xs) (one rows was)

-- ---- what is written is readable, one row behind the other

all_with_last : {T : Type 0} (P : T → Type 0) (xs : List T) (x : T) → AllByRecursion P xs → P x → AllByRecursion P (xs ++ x ∷ [])
all_with_last P [] x all one = (one, tt)
all_with_last P (y ∷ xs) x all one = (all.0, all_with_last P xs x all.1 one)

pub one_more_readable : {T : Type 0} (P : T → Type 0) (xs : List T) (i : ℕ) (x : T) → i < length xs → x ≡ get_or xs i x → AllByRecursion P (take i xs) → P x → AllByRecursion P (take (i + 1) xs)
one_more_readable P xs i x less is all one = subst (AllByRecursion P) (sym (one_more xs i x less is)) (all_with_last P (take i xs) x all one)

pub whole_readable : {T : Type 0} (P : T → Type 0) (xs : List T) → AllByRecursion P (take (length xs) xs) → AllByRecursion P xs
whole_readable P xs all = subst (AllByRecursion P) (take-length xs) all
