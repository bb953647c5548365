-- The line that a run leaves on errors.
use Rattle.std.specs.Prelude.{◌≡◌, ◌⊎◌, ℕ, Bool, true, false, Option, List, [], ◌++◌, codes}
use Rattle.std.specs.Fmt.{decimal}
use Rattle.net_rows.specs.declared.change.Kind.{Kind}
use Rattle.net_rows.specs.declared.change.Kind.TheVariants as kind
use Rattle.tail_words.specs.SettingsText.{rule_number}
use Rattle.exit_status.specs.Pieces.{Wrote}
use Rattle.exit_status.specs.declared.closed.Closed.{Closed}
use Rattle.exit_status.specs.declared.closed.Closed.TheVariants as closed
use Rattle.exit_status.specs.declared.ended.Ended.{Ended}
use Rattle.exit_status.specs.declared.ended.Ended.TheVariants as ended

-- the kind of a row, as a line names it
abbrev pub kind_name : Kind → List ℕ
kind_name kind.Meta = codes "meta"
kind_name kind.User = codes "user"
kind_name kind.Key = codes "key"
kind_name kind.Pending = codes "pending"
kind_name kind.Machine = codes "machine"
kind_name kind.Extras = codes "extras"
kind_name kind.Policy = codes "policy"

-- the line of a connection that was served: none where it ended as it should
abbrev pub closed_line : Closed → List ℕ
closed_line closed.End = []
closed_line closed.Early = codes "tailnetd: closed early\n"
closed_line closed.ReadFault = codes "tailnetd: read fault\n"
closed_line closed.WriteFault = codes "tailnetd: write fault\n"
closed_line closed.NoMemory = codes "tailnetd: no memory\n"

-- the line of how a run ended
abbrev pub ended_line : Ended → List ℕ
ended_line (ended.Closed closing) = closed_line closing
ended_line (ended.Settings rule key) = codes "tailnetd: settings S" ++ decimal (rule_number rule) ++ codes " " ++ key ++ codes "\n"
ended_line ended.TooLarge = codes "tailnetd: file too large\n"
ended_line ended.FileFault = codes "tailnetd: read fault\n"
ended_line ended.KeeperFault = codes "tailnetd: keeper fault\n"
ended_line (ended.Damaged kind id) = codes "tailnetd: damaged " ++ kind_name kind ++ codes " " ++ decimal id ++ codes "\n"
ended_line ended.NoMemory = codes "tailnetd: no memory\n"

-- the line of words that are no command
abbrev pub usage_line : List ℕ
usage_line = codes "tailnetd: usage\n"

-- the line names a key or a row, so that it takes memory to make
abbrev pub is_made : Ended → Bool
is_made (ended.Settings rule key) = true
is_made (ended.Damaged kind id) = true
is_made (ended.Closed closing) = false
is_made ended.TooLarge = false
is_made ended.FileFault = false
is_made ended.KeeperFault = false
is_made ended.NoMemory = false

-- Errors got the line; or, where a write of it failed, a front of it; or nothing, where the line takes memory to make.
pub record Noted (line : List ℕ) (made : Bool) (old new : Option (List ℕ)) (before now : ℕ) : Type 0 where
  pub wrote : ((failed : Bool) × Wrote old new before now line failed) ⊎ ((made ≡ true) × (new ≡ old) × (now ≡ before))
