-- An id that is gone is no row's again.
use Rattle.std.proofs.Common.{◌<◌, ℕ, List, inl, inr, sym, ◌∙◌, arith}
use Rattle.tail_base.specs.declared.key.MachineKey.{MachineKey}
use Rattle.settings.specs.Settings.{AreSettings}
use Rattle.net_rows.specs.Shelf.{HasRow}
use Rattle.net_rows.specs.Sound.{AreSound}
use Rattle.net_rows.specs.declared.key.AuthKey.{AuthKey}
use Rattle.net_rows.specs.declared.machine.Machine.{Machine}
use Rattle.net_rows.specs.declared.pending.Pending.{Pending}
use Rattle.net_rows.specs.declared.rows.Rows.{Rows}
use Rattle.net_rows.specs.declared.user.User.{User}
use Rattle.net_rows.proofs.Sounds.{no_damage}
use Rattle.desk_state.specs.State.{State}
use Rattle.tailnet_desk.specs.History.{Legal, replay}
use Rattle.tailnet_desk.specs.declared.entry.Entry.{Entry}
use Rattle.tailnet_laws.specs.Gone.{IsGoneKey, IsGoneMachine, IsGonePending, IsGoneUser}
use Rattle.tailnet_laws.proofs.Growth.{Grown}
use Rattle.tailnet_laws.proofs.Puts.{IsKeyPut}
use Rattle.tailnet_laws.proofs.Steps.{Lasts, legal_keeps}

-- a row of an id below the next one was there, with the same content or another
module _ (t : Rows) (enters : MachineKey → Type 0) (u : Rows) (n : ℕ) (grown : Grown t (IsKeyPut t) enters u) where
  user_was : n < t.next.user → HasRow (λ (r : User). r.id) u.users n → HasRow (λ (r : User). r.id) t.users n
  user_was given (a, inside, is) = elim (grown.users a inside) [ inl new ↦ absurd (omega (arith, new, is, given)) | inr was ↦ (a, was, is) ]

  key_was : n < t.next.key → HasRow (λ (r : AuthKey). r.id) u.keys n → HasRow (λ (r : AuthKey). r.id) t.keys n
  key_was given (a, inside, is) = elim (grown.keys a inside) [
    | inl put ↦ elim put [ inl new ↦ absurd (omega (arith, new, is, given)) | inr kept ↦ (kept.0, kept.1, sym kept.2.id ∙ is) ]
    | inr was ↦ (a, was, is)
  ]

  pending_was : n < t.next.pending → HasRow (λ (r : Pending). r.id) u.pending n → HasRow (λ (r : Pending). r.id) t.pending n
  pending_was given (a, inside, is) = elim (grown.pending a inside) [ inl new ↦ absurd (omega (arith, new, is, given)) | inr was ↦ (a, was, is) ]

  machine_was : n < t.next.machine → HasRow (λ (r : Machine). r.id) u.machines n → HasRow (λ (r : Machine). r.id) t.machines n
  machine_was given (a, inside, is) = elim (grown.machines a inside) [
    | inl put ↦ elim put [ inl new ↦ absurd (omega (arith, new.0, is, given)) | inr kept ↦ (kept.0, kept.1, sym kept.2 ∙ is) ]
    | inr was ↦ (a, was, is)
  ]

user_lasts : (n : ℕ) → Lasts (λ t. IsGoneUser t n)
user_lasts n t enters u grown rises gone = record {
  below = omega (arith, gone.below, rises.user);
  none = λ row. gone.none (user_was t enters u n grown gone.below row);
}

key_lasts : (n : ℕ) → Lasts (λ t. IsGoneKey t n)
key_lasts n t enters u grown rises gone = record {
  below = omega (arith, gone.below, rises.key);
  none = λ row. gone.none (key_was t enters u n grown gone.below row);
}

pending_lasts : (n : ℕ) → Lasts (λ t. IsGonePending t n)
pending_lasts n t enters u grown rises gone = record {
  below = omega (arith, gone.below, rises.pending);
  none = λ row. gone.none (pending_was t enters u n grown gone.below row);
}

machine_lasts : (n : ℕ) → Lasts (λ t. IsGoneMachine t n)
machine_lasts n t enters u grown rises gone = record {
  below = omega (arith, gone.below, rises.machine);
  none = λ row. gone.none (machine_was t enters u n grown gone.below row);
}

pub gone_users_stay : (s : State) (count : ℕ) (es : List Entry) (id : ℕ) → AreSettings s.settings → AreSound s.rows → Legal s count es → IsGoneUser s.rows id → IsGoneUser (replay s es).rows id
gone_users_stay s count es id hold sound legal = legal_keeps (λ t. IsGoneUser t id) (user_lasts id) s count es hold (no_damage s.rows sound) legal

pub gone_keys_stay : (s : State) (count : ℕ) (es : List Entry) (id : ℕ) → AreSettings s.settings → AreSound s.rows → Legal s count es → IsGoneKey s.rows id → IsGoneKey (replay s es).rows id
gone_keys_stay s count es id hold sound legal = legal_keeps (λ t. IsGoneKey t id) (key_lasts id) s count es hold (no_damage s.rows sound) legal

pub gone_pending_stays : (s : State) (count : ℕ) (es : List Entry) (id : ℕ) → AreSettings s.settings → AreSound s.rows → Legal s count es → IsGonePending s.rows id → IsGonePending (replay s es).rows id
gone_pending_stays s count es id hold sound legal = legal_keeps (λ t. IsGonePending t id) (pending_lasts id) s count es hold (no_damage s.rows sound) legal

pub gone_machines_stay : (s : State) (count : ℕ) (es : List Entry) (id : ℕ) → AreSettings s.settings → AreSound s.rows → Legal s count es → IsGoneMachine s.rows id → IsGoneMachine (replay s es).rows id
gone_machines_stay s count es id hold sound legal = legal_keeps (λ t. IsGoneMachine t id) (machine_lasts id) s count es hold (no_damage s.rows sound) legal
