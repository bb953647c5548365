-- What a load leaves told.
use Rattle.std.proofs.Common.{◌≡◌, ◌⊎◌, ◌&&◌, ◌||◌, not, is_some, inl, inr, Bool, true, false, Option, Some, None, Ok, Err, Result, IfOk, IfErr, IsTrue, OnErr, OnOk, ℕ, List, [], ◌∷◌, length, refl, sym, ap, subst, ◌∙◌, arith}
use Rattle.io_edge.specs.Edge.{StillTells, IsWhereTold}
use Rattle.net_rows.specs.Damage.{damage}
use Rattle.net_rows.specs.Rows.{empty_rows}
use Rattle.net_rows.specs.declared.change.Kind.{Kind}
use Rattle.net_rows.specs.Held.{Held}
use Rattle.net_rows.specs.declared.rows.Rows.{Rows}
use Rattle.net_rows.proofs.Empty.{damage-empty}
use Rattle.row_keeper.specs.declared.keeper.LoadFault.{LoadFault}
use Rattle.row_keeper.specs.declared.keeper.LoadFault.TheVariants.{Damaged}
use Rattle.sqlite.specs.Effect.{Database}
use Rattle.sqlite.specs.Given.{IsPlain}
use Rattle.sqlite.specs.Listing.{understood}
use Rattle.sqlite.specs.State.{HasCleanDisk, IsLive, Shown, State}
use Rattle.store_commits.specs.Kept.{AreStored, Keeps}
use Rattle.store_commits.specs.Pending.{IsSettled, Leaves}
use Rattle.store_reads.specs.Back.{IsOurs}
use Rattle.store_reads.specs.Readable.{AreReadable, IsOutside}
use Rattle.store_reads.specs.Seen.{IsSeen}
use Rattle.sqlite_value.specs.Order.{Row}
use Rattle.store_sql.specs.Schema.{no_schema, schema_1}
use Rattle.store_sql.specs.declared.texts.TheConstants.{SELECT_SCHEMA}
use Rattle.store_sql.proofs.Selects.{select_schema_plain}
use Rattle.store_loads.specs.Tells.{Holds, IsAtRest, IsFirst, IsKnown, IsSpared, ListsNothing}
use Rattle.store_loads.specs.Told.{is_known, is_schema, rows_of, store_tells}
use Rattle.store_loads.proofs.Firsts.{empty_readable}
use Rattle.store_loads.proofs.TellTrees.{is_itself, schema_is, some_is}
use Rattle.store_loads.proofs.Telling.{by_id_of, holds_told, none_told, rows_again, rows_are, same_told, told_is}
use Rattle.store_loads.proofs.Schemas.{none_is_not_ours}
use Rattle.std.proofs.lemmas.Bool.{and_parts, true≢false}
use Rattle.sqlite_trees.proofs.Doubt.{clean_of, no_doubt}

pub still : {A : Type 0} (a b : Option A) → ((x : A) → b ≡ Some x → a ≡ Some x) → StillTells a b
still a None f = tt
still a (Some x) f = f x refl

pub still_then : {A : Type 0} (a b c : Option A) → StillTells a b → StillTells b c → StillTells a c
still_then a b None one two = tt
still_then a b (Some x) one two = subst (StillTells a) two one

pub still_same : {A : Type 0} (a b : Option A) → b ≡ a → StillTells a b
still_same a b e = still a b (λ x h. sym e ∙ h)

-- a reading leaves what was told
pub still_seen : (mid new : State) (done : Bool) → IsSeen schema_1 mid new done → mid.now.schema ≡ schema_1 → (HasCleanDisk mid → IsAtRest mid) → StillTells (store_tells mid) (store_tells new)
still_seen mid new done seen has rest = still (store_tells mid) (store_tells new) (λ x h.
    let there = told_is new x h in
    let stays = seen.stays there.clean has there.opened in
    let clean = seen.clean there.clean in
    let same : new.now ≡ mid.now = elim stays.shows [ inl now ↦ now | inr back ↦ back ∙ sym (rest clean stays.was_open) ] in
    same_told mid new x clean stays.was_open same h)

holds_first : (db : Database) → Keeps db empty_rows → Holds db empty_rows
holds_first db keeps = record { keeps = keeps; readable = empty_readable; sound = damage-empty }

first_told : (new : State) → HasCleanDisk new → IsTrue new.is_open → (new.now.schema ≡ no_schema) ⊎ Keeps new.now empty_rows → store_tells new ≡ Some empty_rows
first_told new clean opened (inl none) = none_told new clean opened none
first_told new clean opened (inr keeps) = holds_told new empty_rows clean opened (holds_first new.now keeps)

-- so do the making of tables where there is none, and what does nothing elsewhere
pub still_first : (old new : State) → IsAtRest old → (HasCleanDisk new → old.now.schema ≡ no_schema → HasCleanDisk old)
    → (old.now.schema ≡ no_schema → HasCleanDisk new → IsTrue new.is_open → IsFirst old new) → ((old.now.schema ≡ no_schema → ⊥) → store_tells new ≡ store_tells old) → StillTells (store_tells old) (store_tells new)
still_first old new rest clean first other = go (is_schema old.now.schema no_schema) refl
  where
    go : (b : Bool) → is_schema old.now.schema no_schema ≡ b → StillTells (store_tells old) (store_tells new)
    go true is = let none = schema_is old.now.schema no_schema is in still (store_tells old) (store_tells new) (λ x h.
        let there = told_is new x h in
        let it = first none there.clean there.opened in
        none_told old (clean there.clean none) it.was_open none ∙ sym (first_told new there.clean there.opened it.shows) ∙ h)
    go false is = still_same (store_tells old) (store_tells new) (other (λ none. let yes = is_itself old.now.schema no_schema none in absurd (let e = sym yes ∙ is in cc)))

-- rows that were read, and break no rule, are held
pub read_held : (old new : State) (rows : Rows) (done : Bool) → IsSeen schema_1 old new done → IsTrue done → old.now.schema ≡ schema_1 → IsLive old → HasCleanDisk new
    → (IsOurs old.now → AreStored old.now.trees rows × AreReadable rows) → damage rows ≡ None → IsTrue new.is_open → Holds new.now rows
read_held old new rows done seen well has live clean back none opened =
    let stays = seen.stays clean has opened in
    let found = back (record { schema = has; obeys = (live stays.was_open).0 }) in
    subst (λ (d : Database). Holds d rows) (sym (seen.same clean has well))
    (record { keeps = record { schema = has; stored = found.0; ordered = by_id_of rows none }; readable = found.1; sound = none })

-- ---- what the answers say of what is known

pub tells_read : (new : State) (rows : Rows) → (HasCleanDisk new → IsTrue new.is_open → Holds new.now rows) → IsWhereTold rows (store_tells new)
tells_read new rows held = go (store_tells new) refl
  where
    go : (o : Option Rows) → store_tells new ≡ o → IsWhereTold rows o
    go None h = tt
    go (Some x) h = let there = told_is new x h in some_is (sym (holds_told new rows there.clean there.opened (held there.clean there.opened)) ∙ h)

pub none_damaged : (old new : State) (e : LoadFault) → StillTells (store_tells old) (store_tells new)
    → ((rows : Rows) → HasCleanDisk new → Holds old.now rows → IsOutside e) → (HasCleanDisk new → old.now.schema ≡ no_schema → IsOutside e)
    → (kind : Kind) (id : ℕ) → e ≡ Damaged kind id → store_tells new ≡ None
none_damaged old new e still whole first kind id is = go (store_tells new) refl
  where
    outside : (HasCleanDisk new → IsOutside e) → HasCleanDisk new → ⊥
    outside f clean = subst IsOutside is (f clean)

    go : (o : Option Rows) → store_tells new ≡ o → store_tells new ≡ None
    go None h = h
    go (Some x) h =
        let was : store_tells old ≡ Some x = subst (StillTells (store_tells old)) h still in
        let clean = (told_is new x h).clean in
        elim (told_is old x was).stands [ inl holds ↦ absurd (outside (λ c. whole x c holds) clean) | inr none ↦ absurd (outside (λ c. first c none.0) clean) ]

-- ---- a first load

-- what a look at an empty database leaves
pub first_seen : (old new : State) (done : Bool) → IsSeen no_schema old new done → IsAtRest old → old.now.schema ≡ no_schema → HasCleanDisk new → IsTrue new.is_open → IsFirst old new
first_seen old new done seen rest none clean opened =
    let stays = seen.stays clean none opened in
    let same : new.now ≡ old.now = elim stays.shows [ inl now ↦ now | inr back ↦ back ∙ sym (rest stays.was_open) ] in
    let still_none = ap (λ (d : Database). d.schema) same ∙ none in
    record { was_open = stays.was_open; shows = inl still_none; spared = inl still_none }

-- what the making of tables behind it leaves
pub first_made : {X E : Type 0} (old mid new : State) (r : Result X E) → IsSeen no_schema old mid true → old.now.schema ≡ no_schema → HasCleanDisk mid → IsTrue mid.is_open → IsTrue new.is_open
    → (mid.now.schema ≡ no_schema → OnOk r (Keeps new.now empty_rows)) → OnErr r (Leaves mid new) → ListsNothing old.now → IsFirst old new
first_made old mid new (Ok x) seen none clean opened open_now made err nothing =
    let same = seen.same clean none refl in
    record { was_open = (seen.stays clean none opened).was_open; shows = inr (made (ap (λ (d : Database). d.schema) same ∙ none)); spared = inr nothing }
first_made old mid new (Err e) seen none clean opened open_now made err nothing =
    let same = err open_now ∙ seen.same clean none refl in
    record { was_open = (seen.stays clean none opened).was_open; shows = inl (ap (λ (d : Database). d.schema) same ∙ none); spared = inr nothing }

-- a list of no names shows that there is nothing
pub lists_nothing : (old mid : State) (names : List Row) → old.now.schema ≡ no_schema → length names ≡ 0 → Shown SELECT_SCHEMA.now [] old mid names → ListsNothing old.now
unfolding Shown
lists_nothing old mid [] none empty shown =
    let bare = subst IsPlain shown.1.is (subst (λ s. IsPlain (understood s SELECT_SCHEMA.now)) (sym none) select_schema_plain) in
    let it = rw bare.0 at shown.2 in
    record { query = shown.0; is = shown.1.is; listing = it.0; source = it.1; params = _; shows = it.2 }
lists_nothing old mid (n ∷ ns) none empty shown = absurd (omega (arith, empty))

-- a reading behind it takes no table away, and makes none
pub spared_seen : (old mid new : State) (done : Bool) → IsSeen schema_1 mid new done → mid.now.schema ≡ schema_1 → IsTrue new.is_open → HasCleanDisk new → (HasCleanDisk mid → IsTrue mid.is_open → IsFirst old mid) → IsSpared old new
spared_seen old mid new done seen has opened clean first =
    let was = (seen.stays clean has opened).was_open in
    elim (first (seen.clean clean) was).spared [ inl none ↦ absurd (none_is_not_ours mid.now.schema has none) | inr nothing ↦ inr nothing ]

pub on_ok : {X E : Type 0} (r : Result X E) (P : Type 0) → P → OnOk r P
on_ok (Ok x) P h = h
on_ok (Err e) P h = tt

pub rests : (s : State) → IsSettled s → IsAtRest s
rests s settled = λ _. settled.committed

-- ---- answers

pub read_tells : (new : State) (r : Result Held LoadFault) → (HasCleanDisk new → IfOk r (λ t. IsTrue new.is_open → Holds new.now t.rows)) → IfOk r (λ t. IsWhereTold t.rows (store_tells new))
read_tells new (Ok t) known = tells_read new t.rows known
read_tells new (Err e) known = tt

pub read_knows : (new : State) (r : Result Held LoadFault) → (HasCleanDisk new → IfOk r (λ t. IsTrue new.is_open → Holds new.now t.rows)) → OnOk r (IsKnown new)
read_knows new (Ok t) known = λ clean opened. (t.rows, known clean opened)
read_knows new (Err e) known = tt

pub read_damaged : (old new : State) (r : Result Held LoadFault) → StillTells (store_tells old) (store_tells new) → ((rows : Rows) → HasCleanDisk new → Holds old.now rows → IfErr r IsOutside) → (HasCleanDisk new → old.now.schema ≡ no_schema → IfErr r IsOutside)
    → IfErr r (λ e. (kind : Kind) (id : ℕ) → e ≡ Damaged kind id → store_tells new ≡ None)
read_damaged old new (Ok t) still whole first = tt
read_damaged old new (Err e) still whole first = none_damaged old new e still whole first

-- ---- what is known

known_rows : (s : State) (o : Option Rows) → HasCleanDisk s → IsTrue s.is_open → rows_of s.now ≡ o → is_schema s.now.schema schema_1 && is_some o ≡ true → (rows : Rows) × Holds s.now rows
known_rows s None clean opened is h = absurd (true≢false (sym (and_parts _ _ h).1))
known_rows s (Some rows) clean opened is h =
    let ours = schema_is s.now.schema schema_1 (and_parts (is_schema s.now.schema schema_1) true h).0 in
    elim (rows_are s.now rows is) [ inl holds ↦ (rows, holds) | inr none ↦ absurd (none_is_not_ours s.now.schema ours none.0) ]

-- the test is passed exactly where it is known
pub known_by : (s : State) → is_known s ≡ true → IsKnown s
unfolding is_known
known_by s h clean opened = known_rows s (rows_of s.now) clean opened refl (rw (clean_of s.is_clean clean, opened) at h)

pub by_known : (s : State) → IsKnown s → is_known s ≡ true
unfolding is_known
by_known s known = go s.is_clean s.is_open refl refl
  where
    go : (a b : Bool) → s.is_clean ≡ a → s.is_open ≡ b → not (a && b) || (is_schema s.now.schema schema_1 && is_some (rows_of s.now)) ≡ true
    go true true clean opened =
        let it = known (no_doubt s.is_clean clean) opened in
        rw (is_itself s.now.schema schema_1 it.1.keeps.schema, rows_again s.now it.0 it.1) refl
    go true false clean opened = refl
    go false b clean opened = refl

-- a reading leaves it known
pub known_seen : (mid new : State) (done : Bool) → IsSeen schema_1 mid new done → mid.now.schema ≡ schema_1 → (HasCleanDisk mid → IsAtRest mid) → IsKnown mid → IsKnown new
known_seen mid new done seen has rest known clean opened =
    let stays = seen.stays clean has opened in
    let early = seen.clean clean in
    let same : new.now ≡ mid.now = elim stays.shows [ inl now ↦ now | inr back ↦ back ∙ sym (rest early stays.was_open) ] in
    let it = known early stays.was_open in
    (it.0, subst (λ (d : Database). Holds d it.0) (sym same) it.1)

-- and so does what comes before it
pub known_first : (old new : State) → (HasCleanDisk new → old.now.schema ≡ no_schema → HasCleanDisk old) → (old.now.schema ≡ no_schema → HasCleanDisk new → IsTrue new.is_open → IsFirst old new)
    → ((old.now.schema ≡ no_schema → ⊥) → IsKnown new) → IsKnown old → IsKnown new
known_first old new clean first other known = go (is_schema old.now.schema no_schema) refl
  where
    go : (b : Bool) → is_schema old.now.schema no_schema ≡ b → IsKnown new
    go true is = λ now opened.
        let none = schema_is old.now.schema no_schema is in
        let it = known (clean now none) (first none now opened).was_open in
        absurd (none_is_not_ours old.now.schema it.1.keeps.schema none)
    go false is = other (λ none. let yes = is_itself old.now.schema no_schema none in absurd (let e = sym yes ∙ is in cc))
