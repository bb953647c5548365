-- What single values are read as. A text is taken where the reader of its type takes it, in any spelling.
use Rattle.std.specs.Prelude.{ℕ, ℤ, List, ◌^◌, ◌-◌, ◌==◌, Bool, Option, Some, None, Result, Ok, codes, if◌then◌else◌, option_map}
use Rattle.std.specs.Result.{result_ok}
use Rattle.serde_json.specs.Data.{Data}
use Rattle.serde_json.specs.Find.{as_bool, as_str}
use Rattle.net_addr.specs.Bits.{Block}
use Rattle.net_addr.specs.MomentReads.{moment_of_text}
use Rattle.net_addr.specs.PrefixTexts.{prefix_of_text}
use Rattle.tail_base.specs.Keys.{key_of_text}
use Rattle.tail_base.specs.declared.key.DiscoKey.{DiscoKey}
use Rattle.tail_base.specs.declared.key.MachineKey.{MachineKey}
use Rattle.tail_base.specs.declared.key.NodeKey.{NodeKey}
use Rattle.tail_base.specs.Steps.{◌>>=◌}
use Rattle.wire_json.specs.Readers.{unless_zero_time, whole_up_to}
use Rattle.response_read.specs.Members.{fitting}
use Rattle.response_read.specs.declared.misfit.Misfit.{Misfit}

-- a truth value
abbrev pub truth_at : Data → Result Bool Misfit
truth_at d = fitting (as_bool d)

-- a text
abbrev pub words_at : Data → Result (List ℕ) Misfit
words_at d = fitting (as_str d)

-- a whole number from 0 up to a greatest, in plain digits
abbrev pub count_at : ℕ → Data → Result ℕ Misfit
count_at limit d = fitting (whole_up_to limit d)

-- a number of 8 bits
abbrev pub octet_at : Data → Result ℕ Misfit
octet_at = count_at (2 ^ 8 - 1)

-- a number of 16 bits
abbrev pub port_at : Data → Result ℕ Misfit
port_at = count_at (2 ^ 16 - 1)

-- a number of 32 bits
abbrev pub id_at : Data → Result ℕ Misfit
id_at = count_at (2 ^ 32 - 1)

-- the number, if it is at least 1
abbrev pub from_one : ℕ → Option ℕ
from_one n = if n == 0 then None else Some n

-- the number of a response in its session: from 1
abbrev pub seq_at : Data → Result ℕ Misfit
seq_at d = count_at (2 ^ 64 - 1) d >>= λ n. fitting (from_one n)

-- what a text spells
abbrev pub spelled_at : {A : Type 0} → (List ℕ → Option A) → Data → Result A Misfit
spelled_at spells d = words_at d >>= λ text. fitting (spells text)

-- a node key
abbrev pub node_key_in : List ℕ → Option NodeKey
node_key_in text = option_map (λ key. record { 0 = key }) (key_of_text (codes "nodekey:") text)

-- a machine key
abbrev pub machine_key_in : List ℕ → Option MachineKey
machine_key_in text = option_map (λ key. record { 0 = key }) (key_of_text (codes "mkey:") text)

-- a disco key, all zero where it isn't known
abbrev pub disco_key_in : List ℕ → Option DiscoKey
disco_key_in text = option_map (λ key. record { 0 = key }) (key_of_text (codes "discokey:") text)

-- a prefix with its length
abbrev pub prefix_in : List ℕ → Option Block
prefix_in text = result_ok (prefix_of_text text)

-- a time that may be unset: then it is the zero time, 0001-01-01T00:00:00Z
abbrev pub expiry_at : Data → Result (Option ℤ) Misfit
expiry_at d = spelled_at moment_of_text d >>= λ t. Ok (unless_zero_time t)
