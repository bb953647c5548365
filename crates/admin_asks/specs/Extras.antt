-- Operators list the extra DNS records, and put others in their place.
use Rattle.std.specs.Prelude.{List, [], ◌∷◌, Result, Ok, if◌then◌else◌}
use Rattle.tailcfg.specs.declared.dns.DnsExtra.{DnsExtra}
use Rattle.net_rows.specs.declared.change.Change.{Change}
use Rattle.net_rows.specs.declared.change.Row.TheVariants as row
use Rattle.net_rows.specs.declared.rows.Rows.{Rows}
use Rattle.same_maps.specs.Dns.{same_extras}
use Rattle.desk_state.specs.Decisions.{only, changing}
use Rattle.desk_state.specs.State.{State}
use Rattle.desk_state.specs.declared.decision.Decision.{Decision}
use Rattle.desk_state.specs.declared.refusal.Refusal.{Refusal}
use Rattle.admin_asks.specs.declared.operator_answer.OperatorAnswer.{OperatorAnswer}
use Rattle.admin_asks.specs.declared.operator_answer.OperatorAnswer.TheVariants as answer

-- the extra records, in their order
abbrev pub extras : State → Result (Decision OperatorAnswer) Refusal
extras s = Ok (only (answer.Extras s.rows.extras))

-- these stand in place of all that were there
abbrev pub extras_change : Rows → List DnsExtra → Change
extras_change t given = record {
  puts = row.Extras given ∷ [];
  gone = [];
  next = t.next;
}

-- a list that is there already stays as it is
abbrev pub extras_set : Rows → List DnsExtra → Decision OperatorAnswer
extras_set t given = if same_extras t.extras given then only (answer.Extras given) else changing (extras_change t given) (answer.Extras given)

-- the given records are the extra ones from now on, as they are given
abbrev pub set_extras : State → List DnsExtra → Result (Decision OperatorAnswer) Refusal
set_extras s given = Ok (extras_set s.rows given)
