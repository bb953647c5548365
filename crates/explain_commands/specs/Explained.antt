-- What the commands `explain` and `reach` do.
use Rattle.std.specs.Prelude.{◌≡◌, ℕ, ℤ, Bool, Option, None, List, if◌then◌else◌}
use Rattle.net_rows.specs.declared.rows.Rows.{Rows}
use Rattle.server_settings.specs.declared.file_settings.FileSettings.{FileSettings}
use Rattle.exit_status.specs.Lines.{Noted, ended_line, is_made}
use Rattle.exit_status.specs.Pieces.{Wrote}
use Rattle.exit_status.specs.Statuses.{status_of}
use Rattle.exit_status.specs.declared.closed.Closed.{Closed}
use Rattle.exit_status.specs.declared.closed.Closed.TheVariants as closed
use Rattle.exit_status.specs.declared.ended.Ended.{Ended}
use Rattle.exit_status.specs.declared.ended.Ended.TheVariants as ended
use Rattle.exit_status.specs.declared.status.Status.{Status}
use Rattle.tailnet_commands.specs.Opened.{OpenerTold}
use Rattle.tailnet_commands.specs.Outside.{Outside}
use Rattle.tailnet_commands.specs.Pipe.{AreSettingsOf, Piped}
use Rattle.explain_commands.specs.Answered.{IsAnswer}
use Rattle.explain_commands.specs.declared.question.Question.{Question}

-- what errors hold, and their count of faults
pub record ErrorsTold : Type 0 where
  pub held : Option (List ℕ)
  pub faults : ℕ

-- what a run may touch that leaves errors to its caller, around any rest: neither input nor random source, doors or a link
abbrev pub beside_errors : {O F P C : Type 0} → (O → Option (List ℕ)) → (O → ℕ) → (F → List ℕ → Option (Option (List ℕ))) → (F → ℕ)
    → (P → Option Rows) → (P → Option (List (List ℕ))) → (P → ℕ) → (C → ℕ → Option ℤ) → Outside → ErrorsTold → O → F → P → C → Outside
beside_errors holds write_faults files file_faults rows asked keeper_faults answer rest errors o f p c = record {
  told = record {
    left = rest.told.left;
    read_faults = rest.told.read_faults;
    giving = record {
      held = holds o;
      write_faults = write_faults o;
      answers = answer c;
      words = rest.told.giving.words;
      word_faults = rest.told.giving.word_faults;
    };
  };
  rows = rows p;
  asked = asked p;
  keeper_faults = keeper_faults p;
  files = files f;
  file_faults = file_faults f;
  errors = errors.held;
  error_faults = errors.faults;
  doors = rest.doors;
  link = rest.link;
}

-- the same of the commands, which write to errors
abbrev pub beside_input : {O E F P C : Type 0} → (O → Option (List ℕ)) → (O → ℕ) → (E → Option (List ℕ)) → (E → ℕ) → (F → List ℕ → Option (Option (List ℕ))) → (F → ℕ)
    → (P → Option Rows) → (P → Option (List (List ℕ))) → (P → ℕ) → (C → ℕ → Option ℤ) → Outside → O → E → F → P → C → Outside
beside_input holds write_faults errors error_faults files file_faults rows asked keeper_faults answer rest o e f p c =
    beside_errors holds write_faults files file_faults rows asked keeper_faults answer rest (record { held = errors e; faults = error_faults e }) o f p c

-- what the opener of an outside tells
abbrev pub opener_of : Outside → OpenerTold
opener_of o = record { rows = o.rows; asked = o.asked; faults = o.keeper_faults }

-- the text was written whole, or, where a write failed, a front of it
pub record IsAnswerWritten (e : Ended) (text : List ℕ) (old new : Option (List ℕ)) (before now : ℕ) : Type 0 where
  pub failed : Bool
  pub wrote : Wrote old new before now text failed
  pub ended_is : e ≡ ended.Closed (if failed then closed.WriteFault else closed.End)

-- The answer under the settings of the file of this name was made whole, and then written.
pub record IsExplained (closing : Closed) (question : Question) (name : List ℕ) (old new : Outside) : Type 0 where
  pub settings : FileSettings
  pub settings_are : AreSettingsOf (old.files name) settings
  pub text : List ℕ
  pub answer : IsAnswer text question settings (opener_of old) (opener_of new) old.told.giving.answers new.told.giving.answers
  pub written : IsAnswerWritten (ended.Closed closing) text old.told.giving.held new.told.giving.held old.told.giving.write_faults new.told.giving.write_faults

-- What was done, by how it ended. Whatever kept an answer from being written is as for `pipe`: nothing was.
abbrev pub Explained : Ended → Question → List ℕ → Outside → Outside → Type 0
Explained (ended.Closed closing) question name old new = IsExplained closing question name old new
Explained (ended.Settings rule key) question name old new = Piped (ended.Settings rule key) name None old new
Explained ended.TooLarge question name old new = Piped ended.TooLarge name None old new
Explained ended.FileFault question name old new = Piped ended.FileFault name None old new
Explained ended.KeeperFault question name old new = Piped ended.KeeperFault name None old new
Explained (ended.Damaged kind id) question name old new = Piped (ended.Damaged kind id) name None old new
Explained ended.NoMemory question name old new = Piped ended.NoMemory name None old new

-- What a status says of the settings file of this name: how it ended, what was done then, and the line that errors got.
-- Nothing is read of the input, no random words are drawn, and doors and the link are as before.
pub record ExplainOutcome (status : Status) (question : Question) (name : List ℕ) (old new : Outside) : Type 0 where
  pub ended : Ended
  pub status_is : status ≡ status_of ended
  pub explained : Explained ended question name old new
  pub noted : Noted (ended_line ended) (is_made ended) old.errors new.errors old.error_faults new.error_faults
  pub left : new.told.left ≡ old.told.left
  pub read_faults : new.told.read_faults ≡ old.told.read_faults
  pub words : new.told.giving.words ≡ old.told.giving.words
  pub word_faults : new.told.giving.word_faults ≡ old.told.giving.word_faults
  pub doors : new.doors ≡ old.doors
  pub link : new.link ≡ old.link
