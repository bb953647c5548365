-- An answer over what an opener keeps.
use Rattle.std.specs.Prelude.{◌≡◌, ◌+◌, ℕ, ℤ, Option, None, List, IsSome}
use Rattle.std.specs.Option.{option_map}
use Rattle.net_addr.specs.Moments.{clamped}
use Rattle.io_edge.specs.Edge.{IsWhereTold}
use Rattle.net_rows.specs.Damage.{damage}
use Rattle.net_rows.specs.declared.rows.Rows.{Rows}
use Rattle.settings.specs.Settings.{AreSettings}
use Rattle.server_settings.specs.declared.file_settings.FileSettings.{FileSettings}
use Rattle.tailnet_desk.specs.Opening.{opening}
use Rattle.tailnet_commands.specs.Opened.{IsAskedOnce, KeepsRows, OpenerTold}
use Rattle.explain_commands.specs.Answers.{answer_text}
use Rattle.explain_commands.specs.declared.question.Question.{Question}

-- The text answers the question in the opening state of the rows that the opener told, where it tells rows at the end
-- too, and of the clock's first answer. Its rows are as before, and it was asked once.
pub record IsAnswer (text : List ℕ) (question : Question) (settings : FileSettings) (old new : OpenerTold) (answers after : ℕ → Option ℤ) : Type 0 where
  pub rules : AreSettings settings.tailnet
  pub rows : Rows
  pub whole : damage rows ≡ None
  pub rows_told : IsSome new.rows → IsWhereTold rows old.rows
  pub moment : ℤ
  pub moment_told : IsWhereTold moment (option_map clamped (answers 0))
  -- the clock answered once
  pub rest : (k : ℕ) → after k ≡ answers (k + 1)
  pub text_is : text ≡ answer_text question (opening settings.tailnet rows moment)
  pub kept : KeepsRows old new
  pub asked : IsAskedOnce settings old new
