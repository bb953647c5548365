-- The tables that were made, with the first counters, keep no row.
use Rattle.std.proofs.Common.{◌≡◌, ◌∙◌, ℕ, pos, List, [], drop, map, refl, sym, subst, arith, IsPermutation}
use Rattle.std.proofs.lemmas.List.Sorted.{IsPermutation-refl}
use Rattle.net_rows.specs.Rows.{empty_rows}
use Rattle.net_rows.specs.declared.change.Counters.{Counters}
use Rattle.sqlite.specs.Effect.{Database}
use Rattle.sqlite_value.specs.Order.{Row}
use Rattle.sqlite_schema.specs.declared.schema.Schema.{Schema}
use Rattle.store_rows.specs.Rows.{meta_cells}
use Rattle.store_sql.specs.Making.{AreEmpty, LeadsTo}
use Rattle.store_sql.specs.Ran.{IsPutBy}
use Rattle.store_sql.specs.Schema.{meta_table}
use Rattle.store_sql.specs.declared.texts.TheConstants.{INSERT_META, UPDATE_META}
use Rattle.store_sql.proofs.Inserts.{insert_meta_means}
use Rattle.store_sql.proofs.Places.{meta_place}
use Rattle.store_sql.proofs.Puts.{cast_number, puts_row}
use Rattle.store_sql.proofs.Updates.{update_meta_means}
use Rattle.store_commits.specs.Kept.{Keeps, tree_row, value_of}

none_in : (tree : List Row) → tree ≡ [] → IsPermutation [] tree
none_in tree e = subst (IsPermutation []) (sym e) (IsPermutation-refl [])

pub keeps_first : (mid new : Database) → LeadsTo [] mid → IsPutBy UPDATE_META.now INSERT_META.now (map value_of (meta_cells empty_rows.next)) mid new → Keeps new empty_rows
keeps_first mid new made put =
    let empty = subst (λ (s : Schema). AreEmpty s.tables mid.trees) made.whole made.empty in
    let key : Counters → ℕ = λ n. 1 in
    let set = puts_row 0 0 (drop 1 meta_table.columns) meta_place 1 (drop 1 (map value_of (meta_cells empty_rows.next)))
    (cast_number (pos 1), (cast_number (pos 1), (cast_number (pos 1), (cast_number (pos 1), (cast_number (pos 1), tt))))) key (λ n. drop 1 (tree_row (meta_cells n))) [] UPDATE_META.now INSERT_META.now _ _ _ mid new
    made.whole empty.0 update_meta_means insert_meta_means (λ row. refl) refl put in
    record {
      schema = set.schema_is;
      stored = record {
        meta = set.rows_are;
        users = none_in _ (set.others.1.0 (λ (e : 1 ≡ 0). omega (arith, e)) ∙ empty.1.0);
        keys = none_in _ (set.others.1.1.0 (λ (e : 3 ≡ 0). omega (arith, e)) ∙ empty.1.1.0);
        pending = none_in _ (set.others.1.1.1.0 (λ (e : 5 ≡ 0). omega (arith, e)) ∙ empty.1.1.1.0);
        machines = none_in _ (set.others.1.1.1.1.0 (λ (e : 8 ≡ 0). omega (arith, e)) ∙ empty.1.1.1.1.0);
        extras = none_in _ (set.others.1.1.1.1.1.0 (λ (e : 14 ≡ 0). omega (arith, e)) ∙ empty.1.1.1.1.1.0);
        policy = set.others.1.1.1.1.1.1.0 (λ (e : 15 ≡ 0). omega (arith, e)) ∙ empty.1.1.1.1.1.1.0;
      };
      ordered = record { users = tt; keys = tt; pending = tt; machines = tt };
    }
