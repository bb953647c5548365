-- The damage that a load answers is the first.
use Rattle.std.proofs.Common.{◌≡◌, Bool, true, false, Result, Ok, Err, Some, IfErr, inl, inr, refl, sym, subst, ◌∙◌}
use Rattle.net_rows.specs.Damage.{damage}
use Rattle.net_rows.specs.declared.change.Kind.TheVariants as kind
use Rattle.net_rows.specs.declared.rows.Rows.{Rows}
use Rattle.row_keeper.specs.declared.keeper.LoadFault.{LoadFault}
use Rattle.row_keeper.specs.declared.keeper.LoadFault.TheVariants.{Damaged}
use Rattle.sqlite.specs.Effect.{Database}
use Rattle.sqlite_schema.specs.declared.schema.Schema.{Schema}
use Rattle.sqlite_trees.specs.Tree.{Trees}
use Rattle.store_reads.specs.Damages.{Breaks, IsFirstIn, NamesDamage}
use Rattle.store_reads.specs.Readable.{IsOutside}
use Rattle.store_reads.proofs.DamageLemmas.{err_weaker, names_outside}
use Rattle.store_sql.specs.Schema.{no_schema, schema_1}
use Rattle.store_loads.specs.First.{IsFirstDamage}
use Rattle.store_loads.specs.Told.{is_schema}
use Rattle.store_loads.proofs.TellTrees.{is_itself, schema_is}

-- what rows break that were read is the first damage
pub named_broken : {X : Type 0} (trees : Trees) (rows : Rows) (r : Result X LoadFault) → Breaks trees rows → IfErr r (NamesDamage (λ d. damage rows ≡ Some d)) → IfErr r (NamesDamage (IsFirstIn trees))
named_broken trees rows r breaks named = err_weaker (λ d. damage rows ≡ Some d) (IsFirstIn trees) r breaks named

-- a fault that isn't of the rows names nothing
pub outside_names : {X : Type 0} (db : Database) (r : Result X LoadFault) → IfErr r IsOutside → IfErr r (NamesDamage (IsFirstDamage db))
outside_names db (Ok x) h = tt
outside_names db (Err e) h = names_outside (IsFirstDamage db) e h

-- by the schema that the database has
module _ (db : Database) (P : Type 0) (ours : db.schema ≡ schema_1 → P) (none : db.schema ≡ no_schema → P) (other : (db.schema ≡ schema_1 → ⊥) → (db.schema ≡ no_schema → ⊥) → P) where
  isnt : (s : Schema) → is_schema db.schema s ≡ false → db.schema ≡ s → ⊥
  isnt s is same = let yes = is_itself db.schema s same in let e : true ≡ false = sym yes ∙ is in absurd (cc (e))

  pub by_schema : P
  by_schema = go (is_schema db.schema schema_1) (is_schema db.schema no_schema) refl refl
    where
      go : (a b : Bool) → is_schema db.schema schema_1 ≡ a → is_schema db.schema no_schema ≡ b → P
      go true b p q = ours (schema_is db.schema schema_1 p)
      go false true p q = none (schema_is db.schema no_schema q)
      go false false p q = other (isnt schema_1 p) (isnt no_schema q)

-- of a reading behind what was found there
pub named_read : {X : Type 0} (old mid : Database) (r : Result X LoadFault) → (old.schema ≡ schema_1 → mid ≡ old) → mid.schema ≡ schema_1 → IfErr r (NamesDamage (IsFirstIn mid.trees)) → (old.schema ≡ no_schema → IfErr r IsOutside)
    → ((old.schema ≡ schema_1 → ⊥) → (old.schema ≡ no_schema → ⊥) → ⊥) → IfErr r (NamesDamage (IsFirstDamage old))
named_read {X} old mid r same has named none other =
    by_schema old (IfErr r (NamesDamage (IsFirstDamage old)))
    (λ ours. err_weaker (IsFirstIn mid.trees) (IsFirstDamage old) r (λ d first. inl (ours, subst (λ (db : Database). IsFirstIn db.trees d) (same ours) first)) named)
    (λ empty. outside_names old r (none empty))
    (λ a b. absurd (other a b))

-- of what was found before a reading
pub named_before : (old : Database) (e : LoadFault) → (old.schema ≡ schema_1 → ⊥) → (old.schema ≡ no_schema → IsOutside e)
    → ((old.schema ≡ schema_1 → ⊥) → (old.schema ≡ no_schema → ⊥) → e ≡ Damaged kind.Meta 0) → NamesDamage (IsFirstDamage old) e
named_before old e ours none other =
    by_schema old (NamesDamage (IsFirstDamage old) e)
    (λ has. absurd (ours has))
    (λ empty. names_outside (IsFirstDamage old) e (none empty))
    (λ a b. subst (NamesDamage (IsFirstDamage old)) (sym (other a b)) (inr (a, b, refl)))
