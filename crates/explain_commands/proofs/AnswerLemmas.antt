-- How a run of `explain` or `reach` ended, and what its opener tells.
use Rattle.std.proofs.Common.{◌≡◌, ◌∙◌, ℕ, Option, None, Some, List, IfSome, ap, refl, sym, subst}
use Rattle.io_edge.specs.Edge.{IsWhereTold, StillTells}
use Rattle.net_rows.specs.declared.rows.Rows.{Rows}
use Rattle.server_settings.specs.declared.file_settings.FileSettings.{FileSettings}
use Rattle.exit_status.specs.declared.ended.Ended.{Ended}
use Rattle.exit_status.specs.declared.ended.Ended.TheVariants as ended
use Rattle.tailnet_commands.proofs.OpenedLemmas.{unopened_ran}
use Rattle.tailnet_commands.proofs.PipeLemmas.{ran_piped, unread_piped}
use Rattle.tailnet_commands.proofs.RunLemmas.{where_still}
use Rattle.tailnet_commands.specs.Opened.{IsDeskFault, KeepsRows}
use Rattle.tailnet_commands.specs.Outside.{Outside}
use Rattle.tailnet_commands.specs.Pipe.{AreSettingsOf, IsUnread, Piped}
use Rattle.tailnet_commands.specs.Run.{IsOpeningFault, IsUnbegun, Untouched}
use Rattle.desk_state.specs.State.{State}
use Rattle.explain_commands.specs.Answered.{IsAnswer}
use Rattle.explain_commands.specs.Answers.{answer_text}
use Rattle.explain_commands.specs.Explained.{Explained, IsAnswerWritten, opener_of}
use Rattle.explain_commands.specs.declared.question.Question.{Question}

-- what is written in a state is so in each that it is
pub answered_in : (question : Question) (text : List ℕ) (s t u : State) → text ≡ answer_text question s → s ≡ t → t ≡ u → text ≡ answer_text question u
answered_in question text s t u is first second = is ∙ ap (answer_text question) (first ∙ second)

-- rows that a keeper tells as they were are so at its opener, which still tells
pub rows_kept : (old k now : Option Rows) → IfSome old (λ rows. IsWhereTold rows k) → StillTells k now → IfSome old (λ rows. IsWhereTold rows now)
rows_kept None k now kept still = tt
rows_kept (Some rows) k now kept still = where_still rows k now still kept

unread_fault : (e : Ended) (file : Option (Option (List ℕ))) (before now : ℕ) → IsUnread e file before now → IsOpeningFault e
unread_fault (ended.Closed closing) file before now u = absurd u
unread_fault (ended.Settings rule key) file before now u = tt
unread_fault ended.TooLarge file before now u = tt
unread_fault ended.FileFault file before now u = tt
unread_fault ended.KeeperFault file before now u = absurd u
unread_fault (ended.Damaged kind id) file before now u = absurd u
unread_fault ended.NoMemory file before now u = tt

module _ (question : Question) (name : List ℕ) (old new : Outside) where
  -- whatever kept an answer from being written is as for `pipe`
  as_piped : (e : Ended) → IsOpeningFault e → Piped e name None old new → Explained e question name old new
  as_piped (ended.Closed closing) fault p = absurd fault
  as_piped (ended.Settings rule key) fault p = p
  as_piped ended.TooLarge fault p = p
  as_piped ended.FileFault fault p = p
  as_piped ended.KeeperFault fault p = p
  as_piped (ended.Damaged kind id) fault p = p
  as_piped ended.NoMemory fault p = p

  -- no settings
  pub unread_explained : (e : Ended) → IsUnread e (old.files name) old.file_faults new.file_faults → Untouched old new → IsUnbegun old new → Explained e question name old new
  unread_explained e u quiet unbegun = as_piped e (unread_fault e (old.files name) old.file_faults new.file_faults u) (unread_piped name None old new e u quiet unbegun)

  desk_fault : (e : Ended) (settings : FileSettings) → IsDeskFault e settings (opener_of old) (opener_of new) → IsOpeningFault e
  desk_fault (ended.Closed closing) settings d = absurd d
  desk_fault (ended.Settings rule key) settings d = tt
  desk_fault ended.TooLarge settings d = tt
  desk_fault ended.FileFault settings d = tt
  desk_fault ended.KeeperFault settings d = tt
  desk_fault (ended.Damaged kind id) settings d = tt
  desk_fault ended.NoMemory settings d = tt

  -- no desk, or no answer
  pub unanswered_explained : (e : Ended) (settings : FileSettings) → AreSettingsOf (old.files name) settings → IsDeskFault e settings (opener_of old) (opener_of new)
      → (KeepsRows (opener_of old) (opener_of new) → Untouched old new) → Explained e question name old new
  unanswered_explained e settings are d quiet =
      as_piped e (desk_fault e settings d) (ran_piped name None old new e settings are (unopened_ran e settings None old new d quiet))

  -- an answer
  pub written_explained : (e : Ended) (settings : FileSettings) (text : List ℕ) → AreSettingsOf (old.files name) settings
      → IsAnswer text question settings (opener_of old) (opener_of new) old.told.giving.answers new.told.giving.answers
      → IsAnswerWritten e text old.told.giving.held new.told.giving.held old.told.giving.write_faults new.told.giving.write_faults → Explained e question name old new
  written_explained e settings text are answer written = subst (λ (x : Ended). Explained x question name old new) (sym written.ended_is) (record {
    settings = settings;
    settings_are = are;
    text = text;
    answer = answer;
    written = record { failed = written.failed; wrote = written.wrote; ended_is = refl };
  })
