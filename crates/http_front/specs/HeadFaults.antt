-- Why a head is refused, as a status and a name.
use Rattle.std.specs.Prelude.{ℕ, List, ◌++◌, true, codes}
use Rattle.http_front.specs.AnswerBytes.{answer}
use Rattle.http_front.specs.declared.head_fault.HeadFault.{HeadFault}
use Rattle.http_front.specs.declared.head_fault.HeadFault.TheVariants.{BadHead, NoLength, BodyTooLong, HeadTooLong}

abbrev pub fault_status : HeadFault → ℕ
fault_status BadHead = 400
fault_status NoLength = 411
fault_status BodyTooLong = 413
fault_status HeadTooLong = 431

abbrev pub fault_name : HeadFault → List ℕ
fault_name BadHead = codes "BadHead"
fault_name NoLength = codes "NoLength"
fault_name BodyTooLong = codes "BodyTooLong"
fault_name HeadTooLong = codes "HeadTooLong"

-- the answer to a head that is refused, which ends the connection
abbrev pub head_fault_answer : HeadFault → List ℕ
head_fault_answer fault = answer (fault_status fault) (codes "{\"error\":\"" ++ fault_name fault ++ codes "\"}") true
