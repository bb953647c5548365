-- The CREATE texts make the tables of schema 1, all empty.
use Rattle.std.proofs.Common.{◌≡◌, ℕ, List, [], ◌∷◌, ◌++◌, None, Ok, false, refl, sym, ap, subst, ◌∙◌}
use Rattle.sqlite_tied.specs.Compute.{everything}
use Rattle.sqlite.specs.Does.{Tally, Does, lacks_sequence}
use Rattle.sqlite.specs.Effect.{Database}
use Rattle.sqlite.specs.Listing.{understood}
use Rattle.sqlite_catalog.specs.Change.{KeepsRows, created, next_tree}
use Rattle.sqlite_schema.specs.declared.command.Command.TheVariants.{CreateTable}
use Rattle.sqlite_schema.specs.declared.schema.Schema.{Schema}
use Rattle.sqlite_schema.specs.declared.schema.Table.{Table}
use Rattle.sqlite_trees.specs.Tree.{Trees}
use Rattle.store_sql.specs.Making.{IsMaking, AreMaking, AreEmpty, LeadsTo, made_by, making_texts}
use Rattle.store_sql.specs.Ran.{HasRun}
use Rattle.store_sql.specs.Schema.{no_schema, schema_1}
use Rattle.store_sql.proofs.Running.{wrote_as}
use Rattle.store_sql.proofs.Writes.{same_value, went}

still_empty : (tables : List Table) (old new : Trees) → KeepsRows tables old new → AreEmpty tables old → AreEmpty tables new
still_empty [] old new kept h = tt
still_empty (t ∷ ts) old new kept h = (kept.0 ∙ h.0, still_empty ts old new kept.1 h.1)

one_more_empty : (tables : List Table) (t : Table) (trees : Trees) → AreEmpty tables trees → trees t.tree ≡ [] → AreEmpty (tables ++ t ∷ []) trees
one_more_empty [] t trees h e = (e, tt)
one_more_empty (u ∷ us) t trees h e = (h.0, one_more_empty us t trees h.1 e)

module _ (schema : Schema) (text : List ℕ) (table : Table) (old new : Database) (count : ℕ) (has : old.schema ≡ schema) (m : IsMaking schema text table) (ran : HasRun text [] count old new) where
  makes_table : (new.schema ≡ created schema table) × (new.trees (next_tree schema) ≡ []) × KeepsRows schema.tables old.trees new.trees
  makes_table =
      let w = wrote_as text [] count old new schema CreateTable has m.command_is m.plain tt ran in
      let done = went (subst (λ t. Does w.limit w.mode [] (record old { schema = schema }) t None CreateTable (Ok (w.tally, new))) m.words w.changed) in
      let first = went done.1 in
      let made = first.1 in
      let same : made.table ≡ table = same_value (sym made.defined ∙ m.defined) in
      let is : first.0.schema ≡ created schema table = made.is ∙ ap (created schema) same in
      let plain : lacks_sequence first.0.schema ≡ false = ap lacks_sequence is ∙ m.alone in
      let now : new ≡ first.0 = ap (λ (p : Tally × Database). p.1) (same_value done.2) ∙ same_value (rw plain at first.2) in
      (ap (λ (d : Database). d.schema) now ∙ is, ap (λ (d : Database). d.trees (next_tree schema)) now ∙ made.empty, subst (λ (d : Database). KeepsRows schema.tables old.trees d.trees) (sym now) made.others)

-- a text that ran brings the rest nearer
pub leads_on : (text : List ℕ) (table : Table) (rest : List (List ℕ × Table)) (old new : Database) (count : ℕ) → LeadsTo ((text, table) ∷ rest) old → HasRun text [] count old new → LeadsTo rest new
leads_on text table rest old new count was ran =
    let m = was.makes.0 in
    let made = makes_table old.schema text table old new count refl m ran in
    let empty : AreEmpty (created old.schema table).tables new.trees =
    subst (λ ts. AreEmpty ts new.trees) (sym m.last) (one_more_empty old.schema.tables (record table { tree = next_tree old.schema }) new.trees (still_empty old.schema.tables old.trees new.trees made.2 was.empty) made.1) in
    record {
      empty = subst (λ (s : Schema). AreEmpty s.tables new.trees) (sym made.0) empty;
      makes = subst (λ (s : Schema). AreMaking s rest) (sym made.0) was.makes.1;
      whole = ap (λ (s : Schema). made_by s rest) made.0 ∙ was.whole;
    }

all_making : AreMaking no_schema making_texts
unfolding understood everything
all_making = (
  record { command_is = refl; words = refl; plain = (refl, refl); defined = refl; alone = refl; last = refl },
  (
    record { command_is = refl; words = refl; plain = (refl, refl); defined = refl; alone = refl; last = refl },
    (
      record { command_is = refl; words = refl; plain = (refl, refl); defined = refl; alone = refl; last = refl },
      (
        record { command_is = refl; words = refl; plain = (refl, refl); defined = refl; alone = refl; last = refl },
        (
          record { command_is = refl; words = refl; plain = (refl, refl); defined = refl; alone = refl; last = refl },
          (
            record { command_is = refl; words = refl; plain = (refl, refl); defined = refl; alone = refl; last = refl },
            (record { command_is = refl; words = refl; plain = (refl, refl); defined = refl; alone = refl; last = refl }, tt),
          ),
        ),
      ),
    ),
  ),
)

all_made : made_by no_schema making_texts ≡ schema_1
unfolding understood everything
all_made = refl

-- of a database that has no table
pub leads_first : (db : Database) → db.schema ≡ no_schema → LeadsTo making_texts db
leads_first db none = record {
  empty = subst (λ (s : Schema). AreEmpty s.tables db.trees) (sym none) tt;
  makes = subst (λ (s : Schema). AreMaking s making_texts) (sym none) all_making;
  whole = ap (λ (s : Schema). made_by s making_texts) none ∙ all_made;
}
