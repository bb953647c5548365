-- Decisions on pre-auth keys are sound.
use Rattle.std.proofs.Common.{◌≡◌, ◌≢◌, ◌≤◌, ◌+◌, ℕ, ℤ, true, not, List, Option, Some, inl, inr, sym, ap, ◌∙◌, refl, subst, nat_lt, length, arith}
use Rattle.std.specs.Prelude.{Contains}
use Rattle.std.proofs.lemmas.Bool.{and_parts, ltb-true, not-false}
use Rattle.tailcfg.specs.declared.limits.TheConstants.{ASKED_TAG_LIMIT}
use Rattle.net_rows.specs.declared.limits.TheConstants.{COUNTER_LIMIT, KEY_LIMIT}
use Rattle.net_rows.specs.Room.{has_room}
use Rattle.net_rows.specs.Rows.{after, key_with}
use Rattle.net_rows.specs.Shelf.{row_at}
use Rattle.net_rows.specs.Sound.{AreSound}
use Rattle.net_rows.specs.declared.change.Kind.TheVariants as kind
use Rattle.net_rows.specs.declared.key.AuthKey.{AuthKey}
use Rattle.net_rows.specs.declared.rows.Rows.{Rows}
use Rattle.net_rows.specs.declared.user.User.{User}
use Rattle.net_rows.proofs.RowAt.{row_at_is}
use Rattle.net_rows.proofs.SoundPut.{sound_key}
use Rattle.desk_state.specs.Decisions.{IsPlain}
use Rattle.desk_state.specs.State.{State, is_ahead}
use Rattle.desk_state.specs.Tags.{tags_defined}
use Rattle.desk_state.specs.Users.{user_named}
use Rattle.desk_state.specs.declared.key_form.KeyForm.{KeyForm}
use Rattle.desk_state.specs.declared.refusal.Refusal.TheVariants.{Full, EntropyFault, KeyUnknown}
use Rattle.desk_state.specs.declared.refusal.Scarce.TheVariants as scarce
use Rattle.desk_state.proofs.Proper.{proper_bind, proper_choice, proper_none, proper_or, proper_refuse, proper_some, same_counters, sound_change}
use Rattle.desk_state.proofs.TextLemmas.{fresh_key_text, key_text_names}
use Rattle.desk_state.proofs.Rests.{put_rests_is}
use Rattle.admin_asks.specs.Keys.{new_key, key_change, added_key, add_key, expiry_change, expire_key}
use Rattle.admin_asks.proofs.NamedLaws.{row_there, user_there}

-- a new key of a user of the tables may be put
key_added : (t : Rows) (form : KeyForm) (user : User) (words : List ℕ) → AreSound t → length form.tags ≤ ASKED_TAG_LIMIT → Contains t.users user → has_room t kind.Key ≡ true
    → AreSound (after t (key_change t (new_key t form user.id words)))
key_added t form user words sound short inside room =
    let have = and_parts (nat_lt (length t.keys) KEY_LIMIT) (nat_lt t.next.key COUNTER_LIMIT) room in
    let key : AuthKey = new_key t form user.id words in
    sound_key t key (t.next.key + 1) sound (record {
      id = sound.counters.key.0;
      room = inl (ltb-true _ _ have.0);
      text = fresh_key_text t key words sound refl refl;
      keeps = record {
        user = (user, inside, refl);
        text = key_text_names t.next.key words;
        tags = short;
      };
    }) (omega arith) (omega arith) (let below = ltb-true _ _ have.1 in omega arith)

-- its counter rises
added_differs : (t : Rows) (k : AuthKey) → after t (key_change t k) ≢ t
added_differs t k e = let n : t.next.key + 1 ≡ t.next.key = ap (λ (u : Rows). u.next.key) e in absurd (omega (arith, n))

pub add_key_proper : (s : State) (form : KeyForm) (words : Option (List ℕ)) → AreSound s.rows → length form.tags ≤ ASKED_TAG_LIMIT → IsPlain s.rows (add_key s form words)
add_key_proper s form words sound short =
    let t = s.rows in
    proper_bind t (user_named t form.login) _ (λ (user : User) named.
    proper_bind t (tags_defined s form.tags) _ (λ _ _.
    proper_refuse t (not (has_room t kind.Key)) (Full scarce.Key) _ (λ room.
    proper_or t EntropyFault words _ (λ (drawn : List ℕ) _.
    let key : AuthKey = new_key t form user.id drawn in
    proper_some t (added_key t key) (key_change t key) refl refl refl
    (sound_change t _ (key_added t form user drawn sound short (user_there t form.login user named) (not-false _ room)) (added_differs t key)
    (record { user = omega arith; key = omega arith; pending = omega arith; machine = omega arith }))))))

-- a key of the tables may be put again with another expiry
key_expired : (s : State) (key : AuthKey) → AreSound s.rows → Contains s.rows.keys key → AreSound (after s.rows (expiry_change s key))
key_expired s key sound inside =
    let ids = sound.keys.ids key inside in
    let keeps = sound.keys.keeps key inside in
    sound_key s.rows (record key { expiry = Some s.now }) s.rows.next.key sound (record {
      id = ids.0;
      room = inr (key, inside, refl);
      text = λ a within e. sound.keys.texts a key within inside e;
      keeps = record { user = keeps.user; text = keeps.text; tags = keeps.tags };
    }) ids.1 (omega arith) sound.counters.key.1

not_ahead : (now : ℤ) → is_ahead now (Some now) ≡ true → ⊥
not_ahead now h = grind arith

-- a key that hasn't expired isn't there as one that expires now
expired_differs : (s : State) (k : AuthKey) → AreSound s.rows → Contains s.rows.keys k → is_ahead s.now k.expiry ≡ true → after s.rows (expiry_change s k) ≢ s.rows
expired_differs s k sound inside ahead e =
    let keys = s.rows.keys in
    let id = λ (x : AuthKey). x.id in
    let put : AuthKey = record k { expiry = Some s.now } in
    let here : row_at id keys k.id ≡ Some put = put_rests_is id keys put sound.keys.ascend (ap (λ (u : Rows). u.keys) e) in
    let both : Some put ≡ Some k = sym here ∙ row_at_is id keys k sound.keys.ascend inside in
    let same : put ≡ k = cc in
    not_ahead s.now (subst (λ (x : Option ℤ). is_ahead s.now x ≡ true) (sym (ap (λ (x : AuthKey). x.expiry) same)) ahead)

pub expire_key_proper : (s : State) (id : ℕ) → AreSound s.rows → IsPlain s.rows (expire_key s id)
expire_key_proper s id sound =
    let t = s.rows in
    proper_or t KeyUnknown (key_with t.keys id) _ (λ (key : AuthKey) found.
    let inside = row_there (λ (k : AuthKey). k.id) t.keys id key found in
    proper_choice t (is_ahead s.now key.expiry) _ _ (λ ahead.
    proper_some t _ (expiry_change s key) refl refl refl
    (sound_change t _ (key_expired s key sound inside) (expired_differs s key sound inside ahead) (same_counters t.next)))
    (λ _. proper_none t _ refl refl))
