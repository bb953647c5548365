-- A policy is saved.
use Rattle.std.specs.Prelude.{ℕ, Bool, false, List, [], ◌∷◌, Option, Some, None, Result, Ok, Err, if◌then◌else◌}
use Rattle.std.specs.Str.{bytes_eq}
use Rattle.tail_base.specs.Steps.{◌>>=◌}
use Rattle.net_rows.specs.declared.change.Change.{Change}
use Rattle.net_rows.specs.declared.change.Row.TheVariants as row
use Rattle.net_rows.specs.declared.rows.Rows.{Rows}
use Rattle.policy_rows.specs.declared.fault.PolicyFault.{PolicyFault}
use Rattle.policy_rows.specs.declared.policy.Policy.{Policy}
use Rattle.policy_doc.specs.Document.{policy_of_text}
use Rattle.desk_state.specs.Decisions.{only}
use Rattle.policy_sites.specs.Sites.{sites_of}
use Rattle.policy_tests.specs.Tests.{tested}
use Rattle.desk_state.specs.State.{State, live_ids}
use Rattle.desk_state.specs.declared.decision.Decision.{Decision}
use Rattle.desk_state.specs.declared.refusal.Refusal.{Refusal}
use Rattle.desk_state.specs.declared.refusal.Refusal.TheVariants.{PolicyRefused}
use Rattle.policy_asks.specs.declared.answer.PolicyAnswer.{PolicyAnswer}
use Rattle.policy_asks.specs.declared.answer.PolicyAnswer.TheVariants as answer

-- a fault of the policy refuses the ask
abbrev pub or_refused : {A : Type 0} → Result A PolicyFault → Result A Refusal
or_refused (Ok x) = Ok x
or_refused (Err fault) = Err (PolicyRefused fault.code fault.place)

-- the policy's tests, over the tables and the machines that are live
abbrev pub tested_in : State → Policy → Result (Unit {0}) PolicyFault
tested_in s policy = tested policy (sites_of (Some policy) s.rows (live_ids s))

-- this is the text that is kept
abbrev pub is_kept : Option (List ℕ) → List ℕ → Bool
is_kept None text = false
is_kept (Some kept) text = bytes_eq kept text

-- the text takes the place of the one that is kept
abbrev pub text_change : Rows → List ℕ → Change
text_change rows text = record { puts = row.Policy text ∷ []; gone = []; next = rows.next }

-- the text is kept, and its policy is in force from now on
abbrev pub kept_anew : Rows → List ℕ → Policy → Decision PolicyAnswer
kept_anew rows text policy = record {
  change = Some (text_change rows text);
  policy = Some policy;
  offline = [];
  ended = [];
  answer = answer.Saved;
}

-- where the text is kept already, nothing changes
abbrev pub saved : Rows → List ℕ → Policy → Decision PolicyAnswer
saved rows text policy = if is_kept rows.policy text then only answer.Saved else kept_anew rows text policy

-- the text is read, and its policy tested, also where it is kept already
abbrev pub save : State → List ℕ → Result (Decision PolicyAnswer) Refusal
save s text = do
  policy ← or_refused (policy_of_text text)
  _ ← or_refused (tested_in s policy)
  Ok (saved s.rows text policy)
