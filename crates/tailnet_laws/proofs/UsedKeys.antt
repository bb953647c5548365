-- A key that was used and isn't reusable is refused.
use Rattle.std.proofs.Common.{◌≡◌, ◌⊎◌, ℕ, Bool, true, false, not, ◌&&◌, Option, Some, None, Result, Ok, Err, inl, inr, refl, sym, ap, ◌∙◌}
use Rattle.std.specs.Prelude.{Contains}
use Rattle.std.specs.Str.{bytes_eq}
use Rattle.tail_base.specs.Steps.{◌>>=◌, refuse_if}
use Rattle.tail_base.proofs.Bools.{bytes_eq-from, bytes_eq-true}
use Rattle.net_rows.specs.Rows.{key_of}
use Rattle.net_rows.specs.Shelf.{row_at}
use Rattle.net_rows.specs.Sound.{AreSound}
use Rattle.net_rows.specs.declared.key.AuthKey.{AuthKey}
use Rattle.net_rows.specs.declared.machine.Machine.{Machine}
use Rattle.tail_base.specs.declared.key.MachineKey.{MachineKey}
use Rattle.tailcfg.specs.declared.register.Register.{Register}
use Rattle.net_rows.specs.declared.rows.Rows.{Rows}
use Rattle.net_rows.proofs.Members.{find_member, find_none}
use Rattle.net_rows.proofs.RowAt.{row_at_is}
use Rattle.desk_state.specs.State.{State, is_ahead}
use Rattle.desk_state.specs.declared.refusal.Refusal.{Refusal}
use Rattle.desk_state.specs.declared.refusal.Refusal.TheVariants.{KeyExpired, KeyUsed}
use Rattle.machine_asks.specs.ByKey.{by_key, usable_key}

-- keys of one id are one key
pub one_key_row : (t : Rows) (a b : AuthKey) → AreSound t → Contains t.keys a → Contains t.keys b → a.id ≡ b.id → a ≡ b
one_key_row t a b sound ina inb e =
    let id = λ (x : AuthKey). x.id in
    let found : row_at id t.keys a.id ≡ Some a = row_at_is id t.keys a sound.keys.ascend ina in
    let own : row_at id t.keys b.id ≡ Some b = row_at_is id t.keys b sound.keys.ascend inb in
    let both : Some a ≡ Some b = sym found ∙ ap (λ (n : ℕ). row_at id t.keys n) e ∙ own in
    cc

-- the search for its text finds a key
own_key : (t : Rows) (k : AuthKey) (held : Option AuthKey) → AreSound t → Contains t.keys k → key_of t.keys k.text ≡ held → held ≡ Some k
own_key t k None sound inside e =
    let fails : bytes_eq k.text k.text ≡ false = find_none (λ (r : AuthKey). bytes_eq r.text k.text) t.keys e k inside in
    let passes : bytes_eq k.text k.text ≡ true = bytes_eq-from k.text k.text refl in
    absurd (cc)
own_key t k (Some r) sound inside e =
    let here = find_member (λ (r : AuthKey). bytes_eq r.text k.text) t.keys r e in
    let ids : r.id ≡ k.id = sound.keys.texts r k here.0 inside (bytes_eq-true r.text k.text here.1) in
    ap Some (one_key_row t r k sound here.0 inside ids)

-- it was used, or has expired
spent_or_late : (ahead : Bool) (k : AuthKey) → k.used ≡ true → k.reusable ≡ false
    → ((refuse_if (not ahead) KeyExpired >>= λ _. refuse_if (k.used && not k.reusable) KeyUsed >>= λ _. Ok k) ≡ Err KeyUsed)
    ⊎ ((refuse_if (not ahead) KeyExpired >>= λ _. refuse_if (k.used && not k.reusable) KeyUsed >>= λ _. Ok k) ≡ Err KeyExpired)
spent_or_late true k used single = inl (rw (used, single) refl)
spent_or_late false k used single = inr refl

pub used_key_refused : (s : State) (k : AuthKey) → AreSound s.rows → Contains s.rows.keys k → k.used ≡ true → k.reusable ≡ false
    → (usable_key s k.text ≡ Err KeyUsed) ⊎ (usable_key s k.text ≡ Err KeyExpired)
used_key_refused s k sound inside used single =
    let found : key_of s.rows.keys k.text ≡ Some k = own_key s.rows k _ sound inside refl in
    let steps : usable_key s k.text ≡ (refuse_if (not (is_ahead s.now k.expiry)) KeyExpired >>= λ _. refuse_if (k.used && not k.reusable) KeyUsed >>= λ _. Ok k) = rw found refl in
    elim (spent_or_late (is_ahead s.now k.expiry) k used single) [ inl e ↦ inl (steps ∙ e) | inr e ↦ inr (steps ∙ e) ]

-- the first refusal ends the steps
refused_first : {A B : Type 0} (r : Result A Refusal) (f : A → Result B Refusal) (e : Refusal) → r ≡ Err e → (r >>= f) ≡ Err e
refused_first (Ok x) f e is = absurd (cc)
refused_first (Err d) f e is = let same : d ≡ e = cc in ap Err same

pub registration_refused : (s : State) (k : AuthKey) (mk : MachineKey) (form : Register) (held : Option Machine) → AreSound s.rows → Contains s.rows.keys k
    → k.used ≡ true → k.reusable ≡ false → form.auth ≡ k.text → (by_key s mk form held ≡ Err KeyUsed) ⊎ (by_key s mk form held ≡ Err KeyExpired)
registration_refused s k mk form held sound inside used single text =
    let same : usable_key s form.auth ≡ usable_key s k.text = ap (usable_key s) text in
    elim (used_key_refused s k sound inside used single) [
      | inl e ↦ inl (refused_first (usable_key s form.auth) _ KeyUsed (same ∙ e))
      | inr e ↦ inr (refused_first (usable_key s form.auth) _ KeyExpired (same ∙ e))
    ]
