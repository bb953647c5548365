use Rattle.std.proofs.Common.{◌+◌, length}
use Rattle.allot.specs.Addresses.{least_from}
use Rattle.allot.proofs.NameLemmas.{is_free_number}
use Rattle.allot.proofs.SearchLemmas.{LeadsOn}
use Rattle.allot.proofs.names.numbered.Given as goal

-- what is left leads to the same number
abbrev pub invariant-loop-n : goal.invariant-loop-n
invariant-loop-n l =
    LeadsOn (is_free_number l.machines l.base) (length l.machines + 2) l.n
    (least_from (is_free_number l.machines l.base) (length l.machines + 1) 1)
