-- The report is the text of its records, and is read back as them.
use Rattle.std.proofs.Common.{◌≡◌, ◌<◌, ◌^◌, ℕ, List, [], ◌∷◌, ◌++◌, None, arith, refl, sym, ap, subst, ◌∙◌}
use Rattle.std.specs.Prelude.{Contains, decimal, flat_map, map}
use Rattle.net_rows.proofs.Members.{first_member, rest_member}
use Rattle.csv.specs.Machine.{next_record}
use Rattle.csv.specs.Reading.{AreRecords, Reached, default_config, strip_bom}
use Rattle.csv.specs.Writing.{default_writer, read_back, row_text}
use Rattle.csv.specs.declared.parser.State.TheVariants as st
use Rattle.csv.proofs.RoundTrip.{read-write, rows_text}
use Rattle.reach_report.specs.Records.{AreInRange, header_record, reach_record, report_records}
use Rattle.reach_report.specs.ReportTexts.{reach_line, reach_text}
use Rattle.reach_report.specs.declared.reach.Reach.{Reach}
use Rattle.reach_report.proofs.TextLemmas.{header_line, numbers_record}

lines_are_rows : (reaches : List Reach) → AreInRange reaches → flat_map reach_line reaches ≡ rows_text (map reach_record reaches)
unfolding rows_text
lines_are_rows [] h = refl
lines_are_rows (r ∷ reaches) h =
    let small = h r (first_member r reaches) in
    let from = small.from in
    let to = small.to in
    let line : row_text default_writer (reach_record r) ≡ reach_line r = numbers_record r.from r.to r.rule (omega arith) (omega arith) small.rule in
    let rest = lines_are_rows reaches (λ x m. h x (rest_member r reaches x m)) in
    λ i. sym line i ++ rest i

report_is_rows : (reaches : List Reach) → AreInRange reaches → reach_text reaches ≡ rows_text (report_records reaches)
unfolding rows_text
report_is_rows reaches h = λ i. sym header_line i ++ lines_are_rows reaches h i

rows_reached : (rows : List (List (List ℕ))) → Reached default_config st.StartRecord (rows_text rows) (map read_back rows) st.StartRecord []
unfolding Reached rows_text
rows_reached [] = (refl, refl)
rows_reached (row ∷ rows) = ((read_back row, st.StartRecord, rows_text rows), read-write row (rows_text rows), refl, rows_reached rows)

records_back : (reaches : List Reach) → map read_back (map reach_record reaches) ≡ map reach_record reaches
records_back [] = refl
records_back (r ∷ reaches) = ap (λ (rows : List (List (List ℕ))). reach_record r ∷ rows) (records_back reaches)

report_back : (reaches : List Reach) → map read_back (report_records reaches) ≡ report_records reaches
report_back reaches = ap (λ (rows : List (List (List ℕ))). header_record ∷ rows) (records_back reaches)

at_end : next_record default_config st.StartRecord [] [] [] ≡ None
unfolding next_record
at_end = refl

no_mark : (reaches : List Reach) → strip_bom (reach_text reaches) ≡ reach_text reaches
unfolding strip_bom
no_mark reaches = refl

pub read_again : (reaches : List Reach) → AreInRange reaches → AreRecords default_config st.StartRecord (strip_bom (reach_text reaches)) (report_records reaches)
read_again reaches h =
    let text : strip_bom (reach_text reaches) ≡ rows_text (report_records reaches) = no_mark reaches ∙ report_is_rows reaches h in
    let reached = rows_reached (report_records reaches) in
    let whole = subst (λ (rows : List (List (List ℕ))). Reached default_config st.StartRecord (rows_text (report_records reaches)) rows st.StartRecord []) (report_back reaches) reached in
    (st.StartRecord, [], subst (λ (bytes : List ℕ). Reached default_config st.StartRecord bytes (report_records reaches) st.StartRecord []) (sym text) whole, at_end)
