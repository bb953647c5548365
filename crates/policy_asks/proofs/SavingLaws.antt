-- Decisions on the policy are sound, and a policy that is put in force is that of the tables.
use Rattle.std.proofs.Common.{◌≡◌, ◌≤◌, ℕ, true, false, List, Option, Some, None, Result, Ok, Err, length, inl, inr, refl, sym, ap, ◌∙◌, subst}
use Rattle.std.specs.Result.{result_ok}
use Rattle.std.proofs.lemmas.Bool.{cases_Bool, leb-true}
use Rattle.tail_base.proofs.Bools.{bytes_eq-from}
use Rattle.tail_base.proofs.StepLemmas.{bind_parts, check_parts}
use Rattle.net_rows.specs.Damage.{damage}
use Rattle.net_rows.specs.Sound.{AreSound}
use Rattle.net_rows.specs.declared.change.Change.{Change}
use Rattle.tail_base.specs.declared.limits.TheConstants.{POLICY_LIMIT}
use Rattle.net_rows.specs.declared.rows.Rows.{Rows}
use Rattle.net_rows.proofs.SoundPut.{sound_policy}
use Rattle.net_rows.proofs.Sounds.{sound_of}
use Rattle.policy_rows.specs.declared.fault.PolicyFault.{PolicyFault}
use Rattle.policy_rows.specs.declared.policy.Policy.{Policy}
use Rattle.policy_doc.specs.Document.{policy_of_text}
use Rattle.desk_state.specs.Decisions.{IsSound, IsSoundChange, IsSoundDecision, only, rows_after}
use Rattle.desk_state.specs.State.{State}
use Rattle.desk_state.specs.declared.decision.Decision.{Decision}
use Rattle.desk_state.proofs.Proper.{same_counters, sound_change}
use Rattle.policy_asks.specs.Decision.{policy_decision}
use Rattle.policy_asks.specs.Saving.{is_kept, kept_anew, or_refused, save, saved, tested_in, text_change}
use Rattle.policy_asks.specs.Kept.{policy_in}
use Rattle.policy_asks.specs.declared.answer.PolicyAnswer.{PolicyAnswer}
use Rattle.policy_asks.specs.declared.answer.PolicyAnswer.TheVariants as answer
use Rattle.policy_asks.specs.declared.ask.PolicyAsk.{PolicyAsk}
use Rattle.policy_asks.specs.declared.ask.PolicyAsk.TheVariants as ask

-- a text that states a policy is within the limit of the tables
policy_short : (text : List ℕ) (p : Policy) → policy_of_text text ≡ Ok p → length text ≤ POLICY_LIMIT
unfolding policy_of_text
policy_short text p h = leb-true _ _ (check_parts _ _ _ p h).0

-- a text that isn't refused states its policy
read_as : (r : Result Policy PolicyFault) (p : Policy) → or_refused r ≡ Ok p → r ≡ Ok p
read_as (Ok q) p h = cc
read_as (Err f) p h = absurd (cc)

-- what a save that isn't refused decides
pub saved_is : (s : State) (text : List ℕ) (d : Decision PolicyAnswer) → save s text ≡ Ok d
    → (p : Policy) × (policy_of_text text ≡ Ok p) × (saved s.rows text p ≡ d)
saved_is s text d h =
    let parts = bind_parts (or_refused (policy_of_text text)) _ d h in
    let rest = bind_parts (or_refused (tested_in s parts.0)) _ d parts.2 in
    let same : saved s.rows text parts.0 ≡ d = let e = rest.2 in cc in
    (parts.0, read_as (policy_of_text text) parts.0 parts.1, same)

-- the text that is kept already passes the test
kept_text : (kept : Option (List ℕ)) (text : List ℕ) → kept ≡ Some text → is_kept kept text ≡ true
kept_text None text h = absurd (cc)
kept_text (Some other) text h = bytes_eq-from other text (cc)

-- the change of a save is a sound one
text_change_sound : (t : Rows) (text : List ℕ) → AreSound t → length text ≤ POLICY_LIMIT → is_kept t.policy text ≡ false → IsSoundChange t (text_change t text)
text_change_sound t text sound short other =
    sound_change t (text_change t text) (sound_policy t text sound short)
    (λ e. let kept : t.policy ≡ Some text = sym (ap (λ (u : Rows). u.policy) e) in
    let clash : true ≡ false = sym (kept_text t.policy text kept) ∙ other in absurd (cc))
    (same_counters t.next)

anew_sound : (t : Rows) (text : List ℕ) (p : Policy) → IsSoundChange t (text_change t text) → IsSoundDecision t (kept_anew t text p)
anew_sound t text p sound = record {
  change = λ c is. let same : text_change t text ≡ c = cc in subst (IsSoundChange t) same sound;
  text = λ none. absurd (cc);
}

still_sound : (t : Rows) (d : Decision PolicyAnswer) → d.change ≡ None → IsSoundDecision t d
still_sound t d none = record {
  change = λ c some. let clash : None ≡ Some c = sym none ∙ some in absurd (cc);
  text = λ _. ap (λ (x : Option Change). (rows_after t x).policy) none;
}

saved_sound : (t : Rows) (text : List ℕ) (p : Policy) → AreSound t → length text ≤ POLICY_LIMIT → IsSoundDecision t (saved t text p)
saved_sound t text p sound short = elim (cases_Bool (is_kept t.policy text)) [
  | inr other ↦ rw other (anew_sound t text p (text_change_sound t text sound short other))
  | inl kept ↦ rw kept (still_sound t (only answer.Saved) refl)
]

save_sound : (s : State) (text : List ℕ) → AreSound s.rows → IsSound s.rows (save s text)
save_sound s text sound d is =
    let parts = saved_is s text d is in
    subst (IsSoundDecision s.rows) parts.2 (saved_sound s.rows text parts.0 sound (policy_short text parts.0 parts.1))

pub policy_decision_sound : (s : State) (x : PolicyAsk) → damage s.rows ≡ None → IsSound s.rows (policy_decision s x)
policy_decision_sound s ask.Policy none d is =
    let same : only (answer.PolicyText s.rows.policy) ≡ d = cc in
    subst (IsSoundDecision s.rows) same (still_sound s.rows (only (answer.PolicyText s.rows.policy)) refl)
policy_decision_sound s (ask.SavePolicy text) none d is = save_sound s text (sound_of s.rows none) d is

-- the policy that is put in force is the one of the tables
saved_kept : (t : Rows) (text : List ℕ) (p q : Policy) → policy_of_text text ≡ Ok p → (saved t text p).policy ≡ Some q → policy_in (rows_after t (saved t text p).change) ≡ Some q
saved_kept t text p q read named = elim (cases_Bool (is_kept t.policy text)) [
  | inr other ↦
      let here : Some p ≡ Some q = rw other at named in
      rw other (ap (result_ok) read ∙ here)
  | inl kept ↦ let clash : None ≡ Some q = rw kept at named in absurd (cc)
]

pub decision_kept : (s : State) (x : PolicyAsk) (d : Decision PolicyAnswer) (q : Policy) → policy_decision s x ≡ Ok d → d.policy ≡ Some q → policy_in (rows_after s.rows d.change) ≡ Some q
decision_kept s ask.Policy d q is named =
    let same : only (answer.PolicyText s.rows.policy) ≡ d = cc in
    let clash : None ≡ Some q = rw (← same) at named in absurd (cc)
decision_kept s (ask.SavePolicy text) d q is named =
    let parts = saved_is s text d is in
    subst (λ (x : Decision PolicyAnswer). policy_in (rows_after s.rows x.change) ≡ Some q) parts.2
    (saved_kept s.rows text parts.0 q parts.1 (rw (← parts.2) at named))

-- a save of the text that is kept decides nothing
kept_still : (s : State) (text : List ℕ) (d : Decision PolicyAnswer) → s.rows.policy ≡ Some text → save s text ≡ Ok d → only answer.Saved ≡ d
kept_still s text d kept is =
    let parts = saved_is s text d is in
    let passes = kept_text s.rows.policy text kept in
    let same : only answer.Saved ≡ saved s.rows text parts.0 = rw passes refl in
    same ∙ parts.2

pub kept_changes_none : (s : State) (text : List ℕ) (d : Decision PolicyAnswer) → s.rows.policy ≡ Some text → save s text ≡ Ok d → d.change ≡ None
kept_changes_none s text d kept is = sym (ap (λ (x : Decision PolicyAnswer). x.change) (kept_still s text d kept is))

pub kept_names_none : (s : State) (text : List ℕ) (d : Decision PolicyAnswer) → s.rows.policy ≡ Some text → save s text ≡ Ok d → d.policy ≡ None
kept_names_none s text d kept is = sym (ap (λ (x : Decision PolicyAnswer). x.policy) (kept_still s text d kept is))
