-- The report as records of CSV.
use Rattle.std.specs.Prelude.{◌≡◌, ◌<◌, ◌^◌, ℕ, false, List, [], ◌∷◌, Option, Some, Contains, codes, decimal, map}
use Rattle.csv.specs.Writing.{default_writer, fields_written, has_written, text_written, writer_setup}
use Rattle.csv.specs.declared.writer.Writer.{Writer}
use Rattle.reach_report.specs.declared.reach.Reach.{Reach}

-- the names of the fields
abbrev pub header_record : List (List ℕ)
header_record = codes "source" ∷ codes "destination" ∷ codes "rule" ∷ []

-- the numbers of two machines
abbrev pub reach_record : Reach → List (List ℕ)
reach_record r = decimal r.from ∷ decimal r.to ∷ decimal r.rule ∷ []

-- all records of a report
abbrev pub report_records : List Reach → List (List (List ℕ))
report_records reaches = header_record ∷ map reach_record reaches

-- what is so of each reach by its types: ids have 32 bits, and the numbers of rules 64
pub record IsInRange (r : Reach) : Type 0 where
  pub from : r.from < 2 ^ 32
  pub to : r.to < 2 ^ 32
  pub rule : r.rule < 2 ^ 64

abbrev pub AreInRange : List Reach → Type 0
AreInRange reaches = (r : Reach) → Contains reaches r → IsInRange r

-- A writer as the library makes it stands between two records, and these are all bytes that it has taken.
pub record HasTaken {W : Type 0} (contents : W → Option (List ℕ)) (w : Writer W) (bytes : List ℕ) : Type 0 where
  pub setup : writer_setup w ≡ default_writer
  pub fields : fields_written w ≡ 0
  pub wrote : has_written w ≡ false
  pub whole : text_written contents w ≡ Some bytes
