-- What a crash leaves of a keeper's store.
use Rattle.std.proofs.Common.{◌≡◌, ◌⊎◌, inl, inr, Bool, true, false, Option, Some, None, Result, Ok, Err, IfSome, IsTrue, OnOk, refl, sym, ap, subst, ◌∙◌}
use Rattle.net_rows.specs.Damage.{damage}
use Rattle.net_rows.specs.Rows.{after, empty_rows}
use Rattle.net_rows.specs.declared.change.Change.{Change}
use Rattle.net_rows.specs.declared.rows.Rows.{Rows}
use Rattle.net_rows.proofs.Empty.{damage-empty}
use Rattle.sqlite.specs.Effect.{Database}
use Rattle.sqlite.specs.State.{HasCleanDisk, State, Survives}
use Rattle.sqlite_trees.specs.Tree.{Trees}
use Rattle.sqlite_trees.proofs.Doubt.{clean_of, no_doubt}
use Rattle.store_commits.specs.Kept.{AreStored, HoldsChange, Makes}
use Rattle.store_commits.specs.Pending.{IsSettled}
use Rattle.store_loads.specs.Tells.{Holds, IsKnown}
use Rattle.store_loads.specs.Told.{rows_of, store_tells}
use Rattle.store_loads.proofs.Firsts.{empty_readable}
use Rattle.store_loads.proofs.Schemas.{none_is_not_ours}
use Rattle.store_loads.proofs.TellTrees.{is_itself}
use Rattle.store_loads.proofs.Telling.{by_id_of, rows_again, told_is}
use Rattle.store_reads.specs.Readable.{AreReadable}
use Rattle.store_reads.specs.Seen.{IsSeen}
use Rattle.store_rows.specs.Readable.{IsReadableChange}
use Rattle.store_sql.specs.Schema.{no_schema, schema_1}
use Rattle.keeper_sqlite.specs.Left.{MayBeFound, rows_left}
use Rattle.keeper_sqlite.proofs.Changing.{readable_after}

-- ---- the rows of trees

ours_left : (db : Database) → db.schema ≡ schema_1 → rows_of db ≡ rows_left db.trees
unfolding rows_of rows_left
ours_left db ours = rw (is_itself db.schema schema_1 ours) refl

-- sound rows that stand in trees are found there
stored_left : (trees : Trees) (rows : Rows) → AreStored trees rows → AreReadable rows → damage rows ≡ None → rows_left trees ≡ Some rows
stored_left trees rows stored good none =
    let db : Database = record { schema = schema_1; trees = trees } in
    let holds : Holds db rows = record { keeps = record { schema = refl; stored = stored; ordered = by_id_of rows none }; readable = good; sound = none } in
    sym (ours_left db refl) ∙ rows_again db rows holds

-- ---- options and flags

pub if_told : {A : Type 0} (o : Option A) (P : A → Type 0) → ((x : A) → o ≡ Some x → P x) → IfSome o P
if_told None P f = tt
if_told (Some x) P f = f x refl

pub if_ok : {X E : Type 0} (r : Result X E) (P : Type 0) → ((x : X) → r ≡ Ok x → P) → OnOk r P
if_ok (Ok x) P f = f x refl
if_ok (Err e) P f = tt

pub by_flag : {P : Type 0} (b : Bool) → (IsTrue b → P) → (b ≡ false → P) → P
by_flag true f g = f refl
by_flag false f g = g refl

-- the flag of a store, and what its number says
pub still_clean : (old new : State) → (HasCleanDisk new → HasCleanDisk old) → IsTrue new.is_clean → IsTrue old.is_clean
still_clean old new clean h = clean_of old.is_clean (clean (no_doubt new.is_clean h))

-- ---- a load

-- a load leaves what a crash left before, or the rows that were told
pub load_leaves : (old new : State) (done : Bool) (rows : Rows) → store_tells old ≡ Some rows → HasCleanDisk new → (old.now.schema ≡ schema_1 → IsSeen schema_1 old new done)
    → (HasCleanDisk new → old.now.schema ≡ no_schema → Survives old new (λ trees. AreStored trees empty_rows)) → (found : Option Rows) → MayBeFound new found → MayBeFound old found ⊎ (found ≡ Some rows)
load_leaves old new done rows told clean seen first found finds =
    elim (told_is old rows told).stands [
      | inl holds ↦
          let ours = holds.keeps.schema in
          elim (((seen ours).survives clean ours).crash clean finds.trees finds.may) [ inl before ↦ inl (record { trees = finds.trees; may = before; is = finds.is }) | inr none ↦ absurd none ]
      | inr none ↦
          elim ((first clean none.0).crash clean finds.trees finds.may) [
            | inl before ↦ inl (record { trees = finds.trees; may = before; is = finds.is })
            | inr stored ↦ inr (sym finds.is ∙ stored_left finds.trees empty_rows stored empty_readable damage-empty ∙ ap (λ (r : Rows). Some r) (sym none.1))
          ]
    ]

-- ---- a commit

-- a keeper that has loaded holds what it tells
known_holds : (s : State) (rows : Rows) → IsKnown s → store_tells s ≡ Some rows → Holds s.now rows
known_holds s rows known told =
    let there = told_is s rows told in
    elim there.stands [ inl holds ↦ holds | inr none ↦ absurd (none_is_not_ours s.now.schema (known there.clean there.opened).1.keeps.schema none.0) ]

-- a commit leaves what a crash left before, or the rows after the change
pub commit_leaves : (old new : State) (change : Change) (rows : Rows) → store_tells old ≡ Some rows → IsKnown old → HasCleanDisk new → Survives old new (HoldsChange old.now change)
    → damage (after rows change) ≡ None → (found : Option Rows) → MayBeFound new found → MayBeFound old found ⊎ (found ≡ Some (after rows change))
commit_leaves old new change rows told known clean survives none found finds =
    let holds = known_holds old rows known told in
    elim (survives.crash clean finds.trees finds.may) [
      | inl before ↦ inl (record { trees = finds.trees; may = before; is = finds.is })
      | inr whole ↦ inr (sym finds.is ∙ stored_left finds.trees (after rows change) (whole.made rows holds.keeps) (readable_after rows change holds.readable whole.readable none) none)
    ]

-- and behind an Ok nothing but those
pub commit_keeps : (old new : State) (change : Change) (rows : Rows) → store_tells old ≡ Some rows → IsKnown old → IsSettled new → Makes old.now new.now (λ r. after r change) → IsReadableChange change
    → damage (after rows change) ≡ None → (found : Option Rows) → MayBeFound new found → found ≡ Some (after rows change)
commit_keeps old new change rows told known settled makes good none found finds =
    let holds = known_holds old rows known told in
    let stored = subst (λ (t : Trees). AreStored t (after rows change)) (sym (settled.durable finds.trees finds.may)) (makes rows holds.keeps).stored in
    sym finds.is ∙ stored_left finds.trees (after rows change) stored (readable_after rows change holds.readable good none) none
