-- When `explain` and `reach` can't but end well.
use Rattle.std.specs.Prelude.{◌≡◌, ◌⊎◌, ℕ, List}
use Rattle.io_edge.specs.Edge.{Rose}
use Rattle.exit_status.specs.declared.status.Status.{Status}
use Rattle.exit_status.specs.declared.status.Status.TheVariants as status
use Rattle.tailnet_commands.specs.Complete.{IsOpenable}
use Rattle.tailnet_commands.specs.Outside.{Outside}
use Rattle.explain_commands.specs.Explained.{ExplainOutcome}
use Rattle.explain_commands.specs.declared.question.Question.{Question}

-- Where nothing keeps a desk from being opened, and no write failed, a run ends with status 0, or for lack of memory.
abbrev pub IsExplainingComplete : Type 0
IsExplainingComplete = (s : Status) (question : Question) (name : List ℕ) (old new : Outside) → ExplainOutcome s question name old new → IsOpenable name old new
    → (Rose old.told.giving.write_faults new.told.giving.write_faults → ⊥) → (s ≡ status.Ok) ⊎ (s ≡ status.NoMemory)
