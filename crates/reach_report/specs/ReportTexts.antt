-- What operators are shown: why a flow is granted, and which machine reaches which (CSV, RFC 4180).
use Rattle.std.specs.Prelude.{◌++◌, ℕ, List, Option, Some, None, codes, decimal, flat_map}
use Rattle.reach_report.specs.declared.granted.Granted.{Granted}
use Rattle.reach_report.specs.declared.reach.Reach.{Reach}

-- a rule and a destination of it, or that the flow is denied
abbrev pub explain_text : Option Granted → List ℕ
explain_text None = codes "denied\n"
explain_text (Some g) = codes "granted rule " ++ decimal g.rule ++ codes " entry " ++ decimal g.entry ++ codes "\n"

-- three numbers, by their texts
abbrev pub numbers_line : List ℕ → List ℕ → List ℕ → List ℕ
numbers_line a b c = a ++ codes "," ++ b ++ codes "," ++ c ++ codes "\n"

-- the line of two machines
abbrev pub reach_line : Reach → List ℕ
reach_line r = numbers_line (decimal r.from) (decimal r.to) (decimal r.rule)

-- the header, and a line for each two machines
abbrev pub reach_text : List Reach → List ℕ
reach_text reaches = codes "source,destination,rule\n" ++ flat_map reach_line reaches
