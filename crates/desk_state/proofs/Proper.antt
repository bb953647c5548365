-- Decisions whose change, if any, keeps the rules of the tables and changes rows, and that leave the
-- policy in force and its text: one step for each form that decisions have.
use Rattle.std.proofs.Common.{◌≡◌, ◌≢◌, Bool, true, false, Option, Some, None, Result, Ok, Err, if◌then◌else◌, arith, refl, sym, ap, ◌∙◌, subst}
use Rattle.std.specs.List.{list_all}
use Rattle.tail_base.specs.Steps.{◌>>=◌, or_fault, refuse_if}
use Rattle.net_rows.specs.Rows.{after}
use Rattle.net_rows.specs.Sound.{AreSound}
use Rattle.net_rows.specs.declared.change.Change.{Change}
use Rattle.net_rows.specs.declared.rows.Rows.{Rows}
use Rattle.net_rows.proofs.Sounds.{no_damage}
use Rattle.net_rows.specs.declared.change.Counters.{Counters}
use Rattle.desk_state.specs.Decisions.{IsNoLess, IsPlain, IsSoundChange, IsSoundDecision, rows_after}
use Rattle.desk_state.specs.declared.decision.Decision.{Decision}
use Rattle.desk_state.specs.declared.refusal.Refusal.{Refusal}
use Rattle.desk_state.proofs.Kept.{change_keeps_text, is_no_policy}

pub sound_change : (rows : Rows) (c : Change) → AreSound (after rows c) → after rows c ≢ rows → IsNoLess rows.next c.next → IsSoundChange rows c
sound_change rows c sound differs rises = record { sound = no_damage (after rows c) sound; differs = differs; rises = rises }

-- counters that stay as they are, or rise by one
pub same_counters : (next : Counters) → IsNoLess next next
same_counters next = record { user = omega arith; key = omega arith; pending = omega arith; machine = omega arith }

-- a decision without a change
still_decision : {A : Type 0} (rows : Rows) (d : Decision A) → d.change ≡ None → IsSoundDecision rows d
still_decision rows d none = record {
  change = λ c some. let clash : None ≡ Some c = sym none ∙ some in absurd (cc);
  text = λ _. ap (λ (x : Option Change). (rows_after rows x).policy) none;
}

-- a decision with a sound change that puts no policy
changing_decision : {A : Type 0} (rows : Rows) (d : Decision A) (c : Change) → d.change ≡ Some c → list_all is_no_policy c.puts ≡ true → IsSoundChange rows c → IsSoundDecision rows d
changing_decision rows d c some plain sound = record {
  change = λ x is. let one : Some c ≡ Some x = sym some ∙ is in let here : c ≡ x = cc in subst (IsSoundChange rows) here sound;
  text = λ _. ap (λ (x : Option Change). (rows_after rows x).policy) some ∙ change_keeps_text rows c plain;
}

-- a decision that is plain
plain_decision : {A : Type 0} (rows : Rows) (d : Decision A) → IsSoundDecision rows d → d.policy ≡ None → IsPlain rows (Ok d)
plain_decision rows d sound none = record {
  sound = λ x is. let same : d ≡ x = cc in subst (IsSoundDecision rows) same sound;
  policy = λ x is. let same : d ≡ x = cc in rw same at none;
}

pub proper_err : {A : Type 0} (rows : Rows) (r : Refusal) → IsPlain {A = A} rows (Err r)
proper_err rows r = record { sound = λ d is. absurd (cc); policy = λ d is. absurd (cc) }

pub proper_none : {A : Type 0} (rows : Rows) (d : Decision A) → d.change ≡ None → d.policy ≡ None → IsPlain rows (Ok d)
proper_none rows d still none = plain_decision rows d (still_decision rows d still) none

pub proper_some : {A : Type 0} (rows : Rows) (d : Decision A) (c : Change) → d.change ≡ Some c → d.policy ≡ None → list_all is_no_policy c.puts ≡ true → IsSoundChange rows c
    → IsPlain rows (Ok d)
proper_some rows d c some none plain sound = plain_decision rows d (changing_decision rows d c some plain sound) none

pub proper_if : {A : Type 0} (rows : Rows) (b : Bool) (x y : Result (Decision A) Refusal) → (b ≡ true → IsPlain rows x) → (b ≡ false → IsPlain rows y) → IsPlain rows (if b then x else y)
proper_if rows true x y h k = h refl
proper_if rows false x y h k = k refl

pub proper_choice : {A : Type 0} (rows : Rows) (b : Bool) (x y : Decision A) → (b ≡ true → IsPlain rows (Ok x)) → (b ≡ false → IsPlain rows (Ok y)) → IsPlain rows (Ok (if b then x else y))
proper_choice rows true x y h k = h refl
proper_choice rows false x y h k = k refl

pub proper_bind : {A B : Type 0} (rows : Rows) (r : Result B Refusal) (f : B → Result (Decision A) Refusal) → ((x : B) → r ≡ Ok x → IsPlain rows (f x)) → IsPlain rows (r >>= f)
proper_bind rows (Ok x) f h = h x refl
proper_bind rows (Err e) f h = proper_err rows e

pub proper_refuse : {A : Type 0} (rows : Rows) (b : Bool) (r : Refusal) (f : Unit {0} → Result (Decision A) Refusal) → (b ≡ false → IsPlain rows (f tt)) → IsPlain rows (refuse_if b r >>= f)
proper_refuse rows true r f h = proper_err rows r
proper_refuse rows false r f h = h refl

pub proper_or : {A B : Type 0} (rows : Rows) (r : Refusal) (o : Option B) (f : B → Result (Decision A) Refusal) → ((x : B) → o ≡ Some x → IsPlain rows (f x)) → IsPlain rows (or_fault r o >>= f)
proper_or rows r (Some x) f h = h x refl
proper_or rows r None f h = proper_err rows r
