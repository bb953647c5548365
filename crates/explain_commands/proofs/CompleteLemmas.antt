-- A run in whose way nothing stands ends well.
use Rattle.std.proofs.Common.{◌≡◌, ◌⊎◌, ℕ, Bool, true, false, None, List, inl, inr, refl, ap, sym, subst}
use Rattle.std.specs.Prelude.{if◌then◌else◌}
use Rattle.io_edge.specs.Edge.{Counted, Rose}
use Rattle.exit_status.specs.Statuses.{status_of}
use Rattle.exit_status.specs.declared.closed.Closed.{Closed}
use Rattle.exit_status.specs.declared.closed.Closed.TheVariants as closed
use Rattle.exit_status.specs.declared.ended.Ended.{Ended}
use Rattle.exit_status.specs.declared.ended.Ended.TheVariants as ended
use Rattle.exit_status.specs.declared.status.Status.{Status}
use Rattle.exit_status.specs.declared.status.Status.TheVariants as status
use Rattle.tailnet_commands.proofs.CompleteLemmas.{starved_unopened}
use Rattle.tailnet_commands.specs.Complete.{IsOpenable}
use Rattle.tailnet_commands.specs.Outside.{Outside}
use Rattle.explain_commands.specs.Complete.{IsExplainingComplete}
use Rattle.explain_commands.specs.Explained.{Explained}
use Rattle.explain_commands.specs.declared.question.Question.{Question}

-- a status 0, or one for lack of memory
abbrev IsWell : Status → Type 0
IsWell s = (s ≡ status.Ok) ⊎ (s ≡ status.NoMemory)

written_well : (e : Ended) (failed : Bool) (before now : ℕ) → e ≡ ended.Closed (if failed then closed.WriteFault else closed.End) → Counted before now failed
    → (Rose before now → ⊥) → IsWell (status_of e)
written_well e true before now is counted quiet = absurd (quiet (counted.rose refl))
written_well e false before now is counted quiet = inl (ap status_of is)

-- by how it ended
ends_well : (e : Ended) (question : Question) (name : List ℕ) (old new : Outside) → Explained e question name old new → IsOpenable name old new
    → (Rose old.told.giving.write_faults new.told.giving.write_faults → ⊥) → IsWell (status_of e)
ends_well (ended.Closed closing) question name old new done openable quiet =
    written_well (ended.Closed closing) done.written.failed _ _ done.written.ended_is done.written.wrote.counted quiet
ends_well (ended.Settings rule key) question name old new done openable quiet = inr (starved_unopened (ended.Settings rule key) name None old new tt done openable)
ends_well ended.TooLarge question name old new done openable quiet = inr (starved_unopened ended.TooLarge name None old new tt done openable)
ends_well ended.FileFault question name old new done openable quiet = inr (starved_unopened ended.FileFault name None old new tt done openable)
ends_well ended.KeeperFault question name old new done openable quiet = inr (starved_unopened ended.KeeperFault name None old new tt done openable)
ends_well (ended.Damaged kind id) question name old new done openable quiet = inr (starved_unopened (ended.Damaged kind id) name None old new tt done openable)
ends_well ended.NoMemory question name old new done openable quiet = inr refl

pub explaining_complete : IsExplainingComplete
explaining_complete s question name old new outcome openable quiet =
    subst (λ (x : Status). IsWell x) (sym outcome.status_is) (ends_well outcome.ended question name old new outcome.explained openable quiet)
