-- Asks on the policy put no row of a user, a key, a machine or one that waits.
use Rattle.std.proofs.Common.{ℕ, List, refl}
use Rattle.tail_base.specs.declared.key.MachineKey.{MachineKey}
use Rattle.policy_rows.specs.declared.policy.Policy.{Policy}
use Rattle.policy_doc.specs.Document.{policy_of_text}
use Rattle.desk_state.specs.Decisions.{only}
use Rattle.desk_state.specs.State.{State}
use Rattle.desk_state.specs.declared.decision.Decision.{Decision}
use Rattle.policy_asks.specs.Decision.{policy_decision}
use Rattle.policy_asks.specs.Saving.{is_kept, kept_anew, or_refused, saved, tested_in, text_change}
use Rattle.policy_asks.specs.declared.answer.PolicyAnswer.{PolicyAnswer}
use Rattle.policy_asks.specs.declared.answer.PolicyAnswer.TheVariants as answer
use Rattle.policy_asks.specs.declared.ask.PolicyAsk.{PolicyAsk}
use Rattle.policy_asks.specs.declared.ask.PolicyAsk.TheVariants as ask
use Rattle.tailnet_laws.proofs.Every.{Every, either_of, every_bind, every_ok}
use Rattle.tailnet_laws.proofs.Puts.{IsKeyPut, Puts, puts_none, puts_some}

-- no machine enters
abbrev pub NoneEnters : MachineKey → Type 0
NoneEnters mk = ⊥

module _ (s : State) where
  abbrev Saves : Decision PolicyAnswer → Type 0
  Saves = Puts s.rows (IsKeyPut s.rows) NoneEnters

  quiet : (a : PolicyAnswer) → Saves (only a)
  quiet a = puts_none s.rows (IsKeyPut s.rows) NoneEnters (only a) refl

  saved_puts : (text : List ℕ) (p : Policy) → Saves (saved s.rows text p)
  saved_puts text p =
      either_of Saves (is_kept s.rows.policy text) (only answer.Saved) (kept_anew s.rows text p) (λ _. quiet answer.Saved)
      (λ _. puts_some s.rows (IsKeyPut s.rows) NoneEnters (kept_anew s.rows text p) (text_change s.rows text) refl (tt, tt) (tt, tt))

  pub policy_puts : (x : PolicyAsk) → Every Saves (policy_decision s x)
  policy_puts ask.Policy = every_ok Saves (only (answer.PolicyText s.rows.policy)) (quiet (answer.PolicyText s.rows.policy))
  policy_puts (ask.SavePolicy text) =
      every_bind Saves (or_refused (policy_of_text text)) _ (λ (p : Policy) _.
      every_bind Saves (or_refused (tested_in s p)) _ (λ passed _. every_ok Saves (saved s.rows text p) (saved_puts text p)))
