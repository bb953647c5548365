-- A policy's faults and their places.
use Rattle.std.specs.Prelude.{ℕ, ◌++◌, List, [], ◌∷◌, codes}
use Rattle.std.specs.Fmt.{decimal}
use Rattle.json.specs.Print.{escape}
use Rattle.policy_rows.specs.declared.code.PolicyCode.{PolicyCode}
use Rattle.policy_rows.specs.declared.code.PolicyCode.TheVariants as code
use Rattle.policy_rows.specs.declared.fault.PolicyFault.{PolicyFault}

-- that fault of a text: what is wrong, and where
abbrev pub fault_at : PolicyCode → List ℕ → PolicyFault
fault_at code place = record { code = code; place = place }

-- the place of an element of a list
abbrev pub indexed : List ℕ → ℕ → List ℕ
indexed place n = place ++ (codes "[" ++ (decimal n ++ codes "]"))

-- the place of a member of an object; the top's is empty
abbrev pub under : List ℕ → List ℕ → List ℕ
under [] key = key
under (b ∷ bs) key = (b ∷ bs) ++ (codes "." ++ key)

-- the number of a code
abbrev pub number_of_code : PolicyCode → ℕ
number_of_code code.Syntax = 1
number_of_code code.NotObject = 2
number_of_code code.UnknownKey = 3
number_of_code code.Unsupported = 4
number_of_code code.WrongShape = 5
number_of_code code.BadGroup = 6
number_of_code code.BadHost = 7
number_of_code code.BadTag = 8
number_of_code code.BadAction = 9
number_of_code code.BadProto = 10
number_of_code code.BadSelector = 11
number_of_code code.UnknownGroup = 12
number_of_code code.UnknownTag = 13
number_of_code code.UnknownHost = 14
number_of_code code.NotASource = 15
number_of_code code.BadPorts = 16
number_of_code code.PortsForProto = 17
number_of_code code.BadRoute = 18
number_of_code code.TooMany = 19
number_of_code code.BadTest = 20
number_of_code code.TestFailed = 21

-- a fault as a text: `P4 acls[0].src[1]`; its place is written as JSON has it between quotes, so the text is one line
abbrev pub fault_text : PolicyFault → List ℕ
fault_text fault = codes "P" ++ (decimal (number_of_code fault.code) ++ (codes " " ++ escape fault.place))
