-- Why a policy is refused: keys in byte order, without spaces.
use Rattle.std.specs.Prelude.{ℕ, List, ◌++◌, codes}
use Rattle.std.specs.Fmt.{decimal}
use Rattle.serde_json.specs.Data.{Data, string, object, no_members, member}
use Rattle.serde_json.specs.Written.{compact_text}
use Rattle.policy_rows.specs.Faults.{number_of_code}
use Rattle.policy_rows.specs.declared.code.PolicyCode.{PolicyCode}

-- the code as it is shown: `P` and its number
abbrev pub code_text : PolicyCode → List ℕ
code_text code = codes "P" ++ decimal (number_of_code code)

-- the code of the first fault, and its place
unfoldable pub refused_data : PolicyCode → List ℕ → Data
refused_data code place = object (
    member (codes "code") (string (code_text code)) (
    member (codes "place") (string place) no_members))

abbrev pub refused_text : PolicyCode → List ℕ → List ℕ
refused_text code place = compact_text (refused_data code place)
