-- A seed is sound.
use Rattle.std.proofs.Common.{◌≡◌, ◌≢◌, ◌+◌, ◌||◌, ℕ, Bool, true, false, not, List, [], ◌∷◌, inl, refl, ap, nat_lt, arith, length, codes, nat_eq}
use Rattle.std.specs.Prelude.{Contains}
use Rattle.std.specs.List.{starts_with}
use Rattle.net_rows.specs.Damage.{names_key}
use Rattle.net_rows.specs.declared.limits.TheConstants.{COUNTER_LIMIT}
use Rattle.net_rows.specs.Room.{has_room}
use Rattle.net_rows.specs.Rows.{after}
use Rattle.net_rows.specs.Shelf.{put_row}
use Rattle.net_rows.specs.Sound.{AreSound}
use Rattle.net_rows.specs.declared.change.Kind.TheVariants as kind
use Rattle.net_rows.specs.declared.change.Counters.{Counters}
use Rattle.net_rows.specs.declared.rows.Rows.{Rows}
use Rattle.net_rows.specs.declared.user.User.{User}
use Rattle.std.proofs.lemmas.Bool.{and_parts, not-false, ltb-true}
use Rattle.net_rows.proofs.Members.{no_member}
use Rattle.net_rows.proofs.PutLemmas.{put_there}
use Rattle.net_rows.proofs.SoundPut.{sound_user, sound_key}
use Rattle.desk_state.specs.Decisions.{IsNoLess, IsPlain, changing, only}
use Rattle.desk_state.specs.State.{State}
use Rattle.desk_state.specs.declared.refusal.Refusal.TheVariants.{Full}
use Rattle.desk_state.specs.declared.refusal.Scarce.TheVariants as scarce
use Rattle.machine_asks.specs.Seed.{seed, is_past_seed, seed_change, seed_user, seed_key}
use Rattle.desk_state.proofs.Proper.{proper_if, proper_none, proper_refuse, proper_some, sound_change}

no_users : (t : Rows) (text : List ℕ) → is_past_seed t text ≡ false → (t.users ≡ []) × (starts_with nat_eq text (codes "tnkey-") ≡ false)
no_users t text h = (empty t.users (neither _ _ h).0, (neither _ _ h).1) where
  neither : (a b : Bool) → (a || b) ≡ false → (a ≡ false) × (b ≡ false)
  neither true b e = absurd (cc)
  neither false b e = (refl, e)

  empty : (us : List User) → nat_lt 0 (length us) ≡ false → us ≡ []
  empty [] e = refl
  empty (u ∷ us) e = absurd (grind arith)

-- a text that doesn't begin as the server's own keys do names no id
names_any : (id : ℕ) (text : List ℕ) → starts_with nat_eq text (codes "tnkey-") ≡ false → names_key id text ≡ true
names_any id text h = rw h refl

-- tables without users have no keys either, so any text is new
seeded : (t : Rows) (text : List ℕ) → AreSound t → is_past_seed t text ≡ false → has_room t kind.User ≡ true → has_room t kind.Key ≡ true → AreSound (after t (seed_change t text))
seeded t text sound first user_room key_room =
    let none = no_users t text first in
    let no_user = λ (r : User) (inside : Contains t.users r). let gone : Contains [] r = rw none.0 at inside in no_member r gone in
    let ur = and_parts (nat_lt (length t.users) _) (nat_lt t.next.user COUNTER_LIMIT) user_room in
    let kr = and_parts (nat_lt (length t.keys) _) (nat_lt t.next.key COUNTER_LIMIT) key_room in
    let one = sound_user t (seed_user t) (t.next.user + 1) sound (record {
      id = sound.counters.user.0;
      room = inl (ltb-true _ _ ur.0);
      login = λ r inside e. absurd (no_user r inside);
    }) (omega arith) (omega arith) (let b = ltb-true _ _ ur.1 in omega arith) in
    let u : Rows = record t { users = put_row (λ r. r.id) t.users (seed_user t); next = record t.next { user = t.next.user + 1 } } in
    sound_key u (seed_key t text) (t.next.key + 1) one (record {
      id = sound.counters.key.0;
      room = inl (ltb-true _ _ kr.0);
      text = λ r inside e. absurd (let held = (sound.keys.keeps r inside).user in no_user held.0 held.1);
      keeps = record {
        user = (seed_user t, put_there (λ (r : User). r.id) t.users (seed_user t), refl);
        text = names_any t.next.key text none.1;
        tags = omega arith;
      };
    }) (omega arith) (omega arith) (let b = ltb-true _ _ kr.1 in omega arith)

-- the counter of users rises
seeded_differs : (t : Rows) (text : List ℕ) → after t (seed_change t text) ≢ t
seeded_differs t text e = let n : t.next.user + 1 ≡ t.next.user = ap (λ (u : Rows). u.next.user) e in absurd (omega (arith, n))

counters_rise : (next : Counters) → IsNoLess next (record next { user = next.user + 1; key = next.key + 1 })
counters_rise next = record { user = omega arith; key = omega arith; pending = omega arith; machine = omega arith }

pub seed_proper : (s : State) (text : List ℕ) → AreSound s.rows → IsPlain s.rows (seed s text)
seed_proper s text sound =
    proper_if s.rows (is_past_seed s.rows text) _ _ (λ _. proper_none s.rows (only tt) refl refl) (λ first.
    proper_refuse s.rows (not (has_room s.rows kind.User)) (Full scarce.User) _ (λ user.
    proper_refuse s.rows (not (has_room s.rows kind.Key)) (Full scarce.Key) _ (λ key.
    proper_some s.rows (changing (seed_change s.rows text) tt) (seed_change s.rows text) refl refl refl
    (sound_change s.rows (seed_change s.rows text) (seeded s.rows text sound first (not-false _ user) (not-false _ key)) (seeded_differs s.rows text) (counters_rise s.rows.next)))))
