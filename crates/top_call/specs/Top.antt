-- The outcome of the whole program.
use Rattle.std.specs.Prelude.{◌≡◌, ◌⊎◌, ℕ, Bool, true, false, Option, None, Some, List}
use Rattle.command_words.specs.declared.invocation.Invocation.{Invocation}
use Rattle.command_words.specs.declared.invocation.Invocation.TheVariants as asked
use Rattle.explain_commands.specs.Explained.{ExplainOutcome}
use Rattle.explain_commands.specs.declared.question.Question.TheVariants as question
use Rattle.load_run.specs.Loads.{Loaded, load_line}
use Rattle.operator_commands.specs.Operated.{Operated, OperatorPoint}
use Rattle.exit_status.specs.Lines.{Noted, ended_line, usage_line}
use Rattle.exit_status.specs.declared.ended.Ended.TheVariants as ended
use Rattle.exit_status.specs.declared.status.Status.{Status}
use Rattle.exit_status.specs.declared.status.Status.TheVariants as status
use Rattle.tailnet_commands.specs.Check.{Checked, check_line}
use Rattle.tailnet_commands.specs.Outside.{Outside}
use Rattle.tailnet_commands.specs.Pipe.{Outcome}
use Rattle.tailnet_serve.specs.Serve.{ServeOutcome}

-- of all but the files and errors, the output alone was touched
pub record IsWrittenAlone (old new : Outside) : Type 0 where
  pub left : new.told.left ≡ old.told.left
  pub read_faults : new.told.read_faults ≡ old.told.read_faults
  pub answers : new.told.giving.answers ≡ old.told.giving.answers
  pub words : new.told.giving.words ≡ old.told.giving.words
  pub word_faults : new.told.giving.word_faults ≡ old.told.giving.word_faults
  pub rows : new.rows ≡ old.rows
  pub asked : new.asked ≡ old.asked
  pub keeper_faults : new.keeper_faults ≡ old.keeper_faults
  pub doors : new.doors ≡ old.doors
  pub link : new.link ≡ old.link

-- nothing but errors was touched
pub record IsNotedAlone (old new : Outside) : Type 0 where
  pub told : new.told ≡ old.told
  pub rows : new.rows ≡ old.rows
  pub asked : new.asked ≡ old.asked
  pub keeper_faults : new.keeper_faults ≡ old.keeper_faults
  pub files : new.files ≡ old.files
  pub file_faults : new.file_faults ≡ old.file_faults
  pub doors : new.doors ≡ old.doors
  pub link : new.link ≡ old.link

-- the line went to errors, and none was made in memory
abbrev pub IsLine : List ℕ → Outside → Outside → Type 0
IsLine line old new = Noted line false old.errors new.errors old.error_faults new.error_faults

-- what the outside of an operator's command tells
abbrev pub operator_point_of : Outside → OperatorPoint
operator_point_of o = record {
  files = o.files;
  file_faults = o.file_faults;
  output = record { holds = o.told.giving.held; faults = o.told.giving.write_faults };
  errors = record { holds = o.errors; faults = o.error_faults };
  link = record {
    left = o.link.left;
    holds = o.link.holds;
    asked = o.link.asked;
    read_faults = o.link.read_faults;
    write_faults = o.link.write_faults;
  };
}

-- of all but the files, errors and the link, the output alone was touched
pub record IsLinkedAlone (old new : Outside) : Type 0 where
  pub left : new.told.left ≡ old.told.left
  pub read_faults : new.told.read_faults ≡ old.told.read_faults
  pub answers : new.told.giving.answers ≡ old.told.giving.answers
  pub words : new.told.giving.words ≡ old.told.giving.words
  pub word_faults : new.told.giving.word_faults ≡ old.told.giving.word_faults
  pub rows : new.rows ≡ old.rows
  pub asked : new.asked ≡ old.asked
  pub keeper_faults : new.keeper_faults ≡ old.keeper_faults
  pub doors : new.doors ≡ old.doors

-- Words that are no command do nothing but leave their line on errors; a command results in what its status says.
abbrev pub WordsDone : Option Invocation → Status → Outside → Outside → Type 0
WordsDone None ended old new = (ended ≡ status.Usage) × IsNotedAlone old new × IsLine usage_line old new
WordsDone (Some (asked.Pipe settings seed)) ended old new = Outcome ended settings seed old new
WordsDone (Some (asked.PolicyCheck file)) ended old new =
    IsWrittenAlone old new
    × Checked ended (old.files file) old.file_faults new.file_faults old.told.giving.held new.told.giving.held old.told.giving.write_faults new.told.giving.write_faults
    × IsLine (check_line ended) old new
WordsDone (Some (asked.Serve settings)) ended old new = ServeOutcome ended settings old new
WordsDone (Some (asked.Load machines events)) ended old new =
    IsWrittenAlone old new × (new.files ≡ old.files) × (new.file_faults ≡ old.file_faults)
    × Loaded (record { machines = machines; events = events }) ended old.told.giving.held new.told.giving.held old.told.giving.write_faults new.told.giving.write_faults
    × IsLine (load_line ended) old new
WordsDone (Some (asked.Explain settings flow)) ended old new = ExplainOutcome ended (question.Flow flow) settings old new
WordsDone (Some (asked.Reach settings)) ended old new = ExplainOutcome ended question.Reaches settings old new
WordsDone (Some (asked.Operator call)) ended old new = IsLinkedAlone old new × Operated call ended (operator_point_of old) (operator_point_of new)

-- there was no memory to read the words
abbrev pub IsWordless : Status → Outside → Outside → Type 0
IsWordless got old new = (got ≡ status.NoMemory) × IsNotedAlone old new × IsLine (ended_line ended.NoMemory) old new

-- the outcome of words
abbrev pub Top : Option Invocation → Status → Outside → Outside → Type 0
Top words got old new = IsWordless got old new ⊎ WordsDone words got old new

-- whether words ask for the link: an operator's command does
abbrev pub asks_link : Option Invocation → Bool
asks_link None = false
asks_link (Some (asked.Pipe settings seed)) = false
asks_link (Some (asked.PolicyCheck file)) = false
asks_link (Some (asked.Serve settings)) = false
asks_link (Some (asked.Load machines events)) = false
asks_link (Some (asked.Explain settings flow)) = false
asks_link (Some (asked.Reach settings)) = false
asks_link (Some (asked.Operator call)) = true

-- whether words ask doors: `serve` does
abbrev pub asks_doors : Option Invocation → Bool
asks_doors None = false
asks_doors (Some (asked.Pipe settings seed)) = false
asks_doors (Some (asked.PolicyCheck file)) = false
asks_doors (Some (asked.Serve settings)) = true
asks_doors (Some (asked.Load machines events)) = false
asks_doors (Some (asked.Explain settings flow)) = false
asks_doors (Some (asked.Reach settings)) = false
asks_doors (Some (asked.Operator call)) = false
