-- What several kinds of asks rest on: users by login, rows by id, and rows that go.
use Rattle.std.proofs.Common.{◌≡◌, ◌≤◌, ◌==◌, ℕ, Bool, true, List, [], ◌∷◌, Some, Ok, arith, ◌⊎◌, inl, inr, refl, subst, length}
use Rattle.std.specs.Prelude.{Contains, filter, map}
use Rattle.std.specs.List.{list_all}
use Rattle.std.specs.Str.{bytes_eq}
use Rattle.std.proofs.lemmas.Bool.{cases_Bool, both_ways}
use Rattle.tail_base.specs.Logins.{login_of}
use Rattle.tail_base.proofs.StepLemmas.{due_parts, fault_parts}
use Rattle.tail_base.specs.Steps.{or_fault}
use Rattle.net_rows.specs.Rows.{take_all_out}
use Rattle.net_rows.specs.Shelf.{row_at}
use Rattle.net_rows.specs.Sound.{AreSound}
use Rattle.net_rows.specs.declared.change.Counters.{Counters}
use Rattle.net_rows.specs.declared.change.RowKey.{RowKey}
use Rattle.net_rows.specs.declared.rows.Rows.{Rows}
use Rattle.net_rows.specs.declared.user.User.{User}
use Rattle.net_rows.proofs.Members.{cut_member, find_member, first_member, no_member, rest_member}
use Rattle.net_rows.proofs.SoundGone.{is_unnamed, next_stays}
use Rattle.desk_state.specs.Users.{user_of, user_named}
use Rattle.desk_state.specs.declared.refusal.Refusal.TheVariants.{UnknownUser}

-- a user who is named is one of the tables
pub user_there : (t : Rows) (text : List ℕ) (user : User) → user_named t text ≡ Ok user → Contains t.users user
user_there t text user h =
    let login = due_parts UnknownUser (login_of text) (λ l. or_fault UnknownUser (user_of t.users l)) user h in
    (find_member (λ (u : User). bytes_eq u.login login.0) t.users user (fault_parts UnknownUser _ user login.2)).0

-- a row that is found by its id is there
pub row_there : {T : Type 0} (id : T → ℕ) (xs : List T) (n : ℕ) (x : T) → row_at id xs n ≡ Some x → Contains xs x
row_there id xs n x found = (find_member (λ y. id y == n) xs x found).0

-- rows that go leave the counters
pub after_gone : (t : Rows) (ks : List RowKey) → AreSound (take_all_out t ks) → AreSound (record (take_all_out t ks) { next = t.next })
after_gone t ks sound = subst (λ (n : Counters). AreSound (record (take_all_out t ks) { next = n })) (next_stays t ks) sound

-- Of the rows that pass a test, each by its key: no user is among them where no key names one.
pub chosen_unnamed : {T : Type 0} (test : T → Bool) (key : T → RowKey) → ((x : T) → is_unnamed (key x) ≡ true) → (xs : List T)
    → list_all is_unnamed (map key (filter test xs)) ≡ true
chosen_unnamed test key h [] = refl
chosen_unnamed test key h (x ∷ xs) =
    elim (cases_Bool (test x)) [
      | inl passes ↦ rw (passes, h x) (chosen_unnamed test key h xs)
      | inr fails ↦ rw fails (chosen_unnamed test key h xs)
    ]

-- they are no more than the rows
pub length-chosen : {T : Type 0} (test : T → Bool) (key : T → RowKey) (xs : List T) → length (map key (filter test xs)) ≤ length xs
length-chosen test key [] = omega arith
length-chosen test key (x ∷ xs) =
    let rest = length-chosen test key xs in
    elim (cases_Bool (test x)) [ inl passes ↦ rw passes (omega arith) | inr fails ↦ rw fails (omega arith) ]

-- each that passes is among them
pub chosen_there : {T : Type 0} (test : T → Bool) (key : T → RowKey) (xs : List T) (a : T) → Contains xs a → test a ≡ true → Contains (map key (filter test xs)) (key a)
chosen_there test key [] a inside h = absurd (no_member a inside)
chosen_there {T} test key (x ∷ xs) a inside h =
    elim (cases_Bool (test x)) [
      | inl passes ↦ rw passes (elim (cut_member x xs a inside) [
        | inl e ↦ rw e (first_member (key x) (map key (filter test xs)))
        | inr r ↦ rest_member (key x) (map key (filter test xs)) (key a) (chosen_there test key xs a r h)
      ])
      | inr fails ↦ rw fails (elim (cut_member x xs a inside) [
        | inl e ↦ absurd (both_ways (test x) fails (subst (λ (y : T). test y ≡ true) e h))
        | inr r ↦ chosen_there test key xs a r h
      ])
    ]

-- none passes, or one that is there does
pub first_chosen : {T : Type 0} (test : T → Bool) (key : T → RowKey) (xs : List T) → (map key (filter test xs) ≡ []) ⊎ ((x : T) × Contains xs x × Contains (map key (filter test xs)) (key x))
first_chosen test key [] = inl refl
first_chosen {T} test key (x ∷ xs) =
    elim (cases_Bool (test x)) [
      | inl passes ↦ rw passes (inr (x, first_member x xs, first_member (key x) (map key (filter test xs))))
      | inr fails ↦ rw fails (elim (first_chosen test key xs) [ inl none ↦ inl none | inr found ↦ inr (found.0, rest_member x xs found.0 found.1, found.2) ])
    ]
