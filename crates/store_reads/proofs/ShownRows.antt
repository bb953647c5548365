-- What the SELECTs show of the rows that a database keeps.
use Rattle.std.proofs.Common.{◌≡◌, ◌+◌, ◌<◌, ℕ, List, [], ◌∷◌, map, drop, Option, Some, None, refl, ap, subst, ◌∙◌, arith, IsPermutation}
use Rattle.std.proofs.lemmas.List.Sorted.{IsPermutation-refl}
use Rattle.std.specs.List.{AllByRecursion}
use Rattle.std.specs.Option.{option_to_list}
use Rattle.net_rows.specs.declared.rows.Rows.{Rows}
use Rattle.net_rows.specs.declared.change.Counters.{Counters}
use Rattle.net_rows.specs.declared.key.AuthKey.{AuthKey}
use Rattle.net_rows.specs.declared.machine.Machine.{Machine}
use Rattle.net_rows.specs.declared.pending.Pending.{Pending}
use Rattle.net_rows.specs.declared.user.User.{User}
use Rattle.sqlite.specs.State.{State, Shown}
use Rattle.sqlite_trees.specs.Tree.{IsAscending}
use Rattle.sqlite_value.specs.Order.{Row}
use Rattle.tailcfg.specs.declared.dns.DnsExtra.{DnsExtra}
use Rattle.store_commits.specs.Kept.{Keeps, policy_row, tree_row}
use Rattle.store_commits.proofs.KeptLists.{image_of, with_places, extra_rest, placed_are}
use Rattle.store_rows.specs.Rows.{auth_key_cells, extra_cells, machine_cells, meta_cells, pending_cells, policy_cells, user_cells}
use Rattle.store_sql.specs.declared.texts.TheConstants.{SELECT_AUTH_KEYS, SELECT_EXTRAS, SELECT_MACHINES, SELECT_META, SELECT_PENDING, SELECT_POLICY, SELECT_USERS}
use Rattle.store_sql.proofs.Lists.{row_of}
use Rattle.store_sql.proofs.Selects.{select_auth_keys_means, select_extras_means, select_machines_means, select_meta_means, select_pending_means, select_policy_means, select_users_means}
use Rattle.store_sql.proofs.Shows.{shows_all}
use Rattle.store_reads.specs.Readable.{shown_extras, shown_row}
use Rattle.store_reads.proofs.Lists.{rising}

pub shown_next : (old new : State) (all : Rows) (rows : List Row) → Keeps old.now all → Shown SELECT_META.now [] old new rows → rows ≡ shown_row (meta_cells all.next) ∷ []
shown_next old new all rows keeps h =
    let key : Counters → ℕ = λ n. 1 in
    shows_all 0 _ key (λ n. drop 1 (tree_row (meta_cells n))) (λ n. shown_row (meta_cells n)) (λ n. refl) SELECT_META.now _ old new (all.next ∷ []) (all.next ∷ []) rows select_meta_means keeps.schema keeps.stored.meta (IsPermutation-refl (all.next ∷ [])) (tt, tt) h

pub shown_users : (old new : State) (all : Rows) (rows : List Row) → Keeps old.now all → Shown SELECT_USERS.now [] old new rows → rows ≡ map (λ x. shown_row (user_cells x)) all.users
shown_users old new all rows keeps h =
    let key = λ (r : User). r.id in
    let rest = λ (x : User). drop 1 (tree_row (user_cells x)) in
    let stood = image_of (row_of key rest) all.users (old.now.trees 1) keeps.stored.users in
    shows_all 1 _ key rest (λ x. shown_row (user_cells x)) (λ x. refl) SELECT_USERS.now _ old new all.users stood.them rows select_users_means keeps.schema stood.are stood.same
    (rising key all.users keeps.ordered.users) h

pub shown_keys : (old new : State) (all : Rows) (rows : List Row) → Keeps old.now all → Shown SELECT_AUTH_KEYS.now [] old new rows → rows ≡ map (λ x. shown_row (auth_key_cells x)) all.keys
shown_keys old new all rows keeps h =
    let key = λ (r : AuthKey). r.id in
    let rest = λ (x : AuthKey). drop 1 (tree_row (auth_key_cells x)) in
    let stood = image_of (row_of key rest) all.keys (old.now.trees 3) keeps.stored.keys in
    shows_all 3 _ key rest (λ x. shown_row (auth_key_cells x)) (λ x. refl) SELECT_AUTH_KEYS.now _ old new all.keys stood.them rows select_auth_keys_means keeps.schema stood.are stood.same
    (rising key all.keys keeps.ordered.keys) h

pub shown_pending : (old new : State) (all : Rows) (rows : List Row) → Keeps old.now all → Shown SELECT_PENDING.now [] old new rows → rows ≡ map (λ x. shown_row (pending_cells x)) all.pending
shown_pending old new all rows keeps h =
    let key = λ (r : Pending). r.id in
    let rest = λ (x : Pending). drop 1 (tree_row (pending_cells x)) in
    let stood = image_of (row_of key rest) all.pending (old.now.trees 5) keeps.stored.pending in
    shows_all 5 _ key rest (λ x. shown_row (pending_cells x)) (λ x. refl) SELECT_PENDING.now _ old new all.pending stood.them rows select_pending_means keeps.schema stood.are stood.same
    (rising key all.pending keeps.ordered.pending) h

pub shown_machines : (old new : State) (all : Rows) (rows : List Row) → Keeps old.now all → Shown SELECT_MACHINES.now [] old new rows → rows ≡ map (λ x. shown_row (machine_cells x)) all.machines
shown_machines old new all rows keeps h =
    let key = λ (r : Machine). r.id in
    let rest = λ (x : Machine). drop 1 (tree_row (machine_cells x)) in
    let stood = image_of (row_of key rest) all.machines (old.now.trees 8) keeps.stored.machines in
    shows_all 8 _ key rest (λ x. shown_row (machine_cells x)) (λ x. refl) SELECT_MACHINES.now _ old new all.machines stood.them rows select_machines_means keeps.schema stood.are stood.same
    (rising key all.machines keeps.ordered.machines) h

-- places rise
later_places : (n place : ℕ) (xs : List DnsExtra) → n < place → AllByRecursion (λ (p : ℕ × DnsExtra). n < p.0) (with_places place xs)
later_places n place [] less = tt
later_places n place (x ∷ xs) less = (less, later_places n (place + 1) xs (omega (arith, less)))

pub places_rise : (place : ℕ) (xs : List DnsExtra) → IsAscending (λ (a b : ℕ × DnsExtra). a.0 < b.0) (with_places place xs)
places_rise place [] = tt
places_rise place (x ∷ xs) = (later_places place (place + 1) xs (omega arith), places_rise (place + 1) xs)

abbrev pub shown_placed : ℕ × DnsExtra → Row
shown_placed (place, x) = shown_row (extra_cells place x)

pub shown_places : (place : ℕ) (xs : List DnsExtra) → map shown_placed (with_places place xs) ≡ shown_extras place xs
shown_places place [] = refl
shown_places place (x ∷ xs) = ap (λ l. shown_row (extra_cells place x) ∷ l) (shown_places (place + 1) xs)

pub shown_records : (old new : State) (all : Rows) (rows : List Row) → Keeps old.now all → Shown SELECT_EXTRAS.now [] old new rows → rows ≡ shown_extras 1 all.extras
shown_records old new all rows keeps h =
    let key : ℕ × DnsExtra → ℕ = λ p. p.0 in
    let stood = image_of (row_of key extra_rest) (with_places 1 all.extras) (old.now.trees 14) (subst (λ l. IsPermutation l (old.now.trees 14)) (placed_are 1 all.extras) keeps.stored.extras) in
    shows_all 14 _ key extra_rest shown_placed (λ p. refl) SELECT_EXTRAS.now _ old new (with_places 1 all.extras) stood.them rows select_extras_means keeps.schema stood.are stood.same (places_rise 1 all.extras) h
    ∙ shown_places 1 all.extras

policy_list : (policy : Option (List ℕ)) → policy_row policy ≡ map (row_of (λ (b : List ℕ). 1) (λ b. drop 1 (tree_row (policy_cells b)))) (option_to_list policy)
policy_list None = refl
policy_list (Some body) = refl

one_rises : (policy : Option (List ℕ)) → IsAscending (λ (a b : List ℕ). 1 < 1) (option_to_list policy)
one_rises None = tt
one_rises (Some body) = (tt, tt)

pub shown_policy : (old new : State) (all : Rows) (rows : List Row) → Keeps old.now all → Shown SELECT_POLICY.now [] old new rows
    → rows ≡ map (λ body. shown_row (policy_cells body)) (option_to_list all.policy)
shown_policy old new all rows keeps h =
    let key : List ℕ → ℕ = λ b. 1 in
    shows_all 15 _ key (λ b. drop 1 (tree_row (policy_cells b))) (λ b. shown_row (policy_cells b)) (λ b. refl) SELECT_POLICY.now _ old new (option_to_list all.policy) (option_to_list all.policy) rows select_policy_means keeps.schema
    (keeps.stored.policy ∙ policy_list all.policy) (IsPermutation-refl (option_to_list all.policy)) (one_rises all.policy) h
