-- Decisions on users are sound.
use Rattle.std.proofs.Common.{◌≡◌, ◌≢◌, ◌+◌, ◌++◌, ◌==◌, ℕ, true, false, not, List, [], ◌∷◌, inl, sym, ap, ◌∙◌, refl, subst, nat_lt, length, arith}
use Rattle.std.specs.Prelude.{Contains}
use Rattle.std.specs.Str.{bytes_eq}
use Rattle.std.proofs.lemmas.Bool.{and_parts, both_ways, ltb-true, not-false}
use Rattle.tail_base.specs.Logins.{login_of}
use Rattle.tail_base.proofs.Bools.{bytes_eq-from}
use Rattle.net_rows.specs.declared.limits.TheConstants.{COUNTER_LIMIT, USER_LIMIT}
use Rattle.net_rows.specs.Room.{has_room}
use Rattle.net_rows.specs.Rows.{after, take_out, take_all_out}
use Rattle.net_rows.specs.Shelf.{without}
use Rattle.net_rows.specs.Sound.{AreSound}
use Rattle.net_rows.specs.declared.change.Kind.TheVariants as kind
use Rattle.net_rows.specs.declared.change.RowKey.TheVariants as gone
use Rattle.net_rows.specs.declared.key.AuthKey.{AuthKey}
use Rattle.net_rows.specs.declared.machine.Machine.{Machine}
use Rattle.net_rows.specs.declared.rows.Rows.{Rows}
use Rattle.net_rows.specs.declared.user.User.{User}
use Rattle.net_rows.proofs.Members.{list_any_member}
use Rattle.net_rows.proofs.RemoveLemmas.{without_member}
use Rattle.net_rows.proofs.SoundGone.{sound_take_all_out, take_all_out-append, key_left, machine_left}
use Rattle.net_rows.proofs.SoundPut.{sound_user}
use Rattle.net_rows.proofs.SoundRemove.{sound_without_user}
use Rattle.desk_state.specs.Decisions.{IsPlain}
use Rattle.desk_state.specs.State.{State}
use Rattle.desk_state.specs.Users.{user_named}
use Rattle.desk_state.specs.declared.refusal.Refusal.TheVariants.{BadName, NameTaken, Full, UserHasMachines}
use Rattle.desk_state.specs.declared.refusal.Scarce.TheVariants as scarce
use Rattle.desk_state.proofs.Proper.{proper_bind, proper_or, proper_refuse, proper_some, same_counters, sound_change}
use Rattle.admin_asks.specs.Users.{with_at, is_login_taken, new_user, user_change, added_user, add_user, has_machine, keys_gone, user_gone, drop_user}
use Rattle.admin_asks.proofs.NamedLaws.{after_gone, chosen_there, chosen_unnamed, user_there}

-- a user of a login that no user has may be put
user_added : (t : Rows) (login : List ℕ) → AreSound t → is_login_taken t.users login ≡ false → has_room t kind.User ≡ true → AreSound (after t (user_change t (new_user t login)))
user_added t login sound free room =
    let have = and_parts (nat_lt (length t.users) USER_LIMIT) (nat_lt t.next.user COUNTER_LIMIT) room in
    sound_user t (new_user t login) (t.next.user + 1) sound (record {
      id = sound.counters.user.0;
      room = inl (ltb-true _ _ have.0);
      login = λ (a : User) inside e. absurd (both_ways (bytes_eq a.login login)
          (list_any_member (λ (u : User). bytes_eq u.login login) t.users free a inside) (bytes_eq-from a.login login e));
    }) (omega arith) (omega arith) (let below = ltb-true _ _ have.1 in omega arith)

-- its counter rises
added_differs : (t : Rows) (u : User) → after t (user_change t u) ≢ t
added_differs t u e = let n : t.next.user + 1 ≡ t.next.user = ap (λ (r : Rows). r.next.user) e in absurd (omega (arith, n))

pub add_user_proper : (s : State) (name : List ℕ) → AreSound s.rows → IsPlain s.rows (add_user s name)
add_user_proper s name sound =
    let t = s.rows in
    proper_or t BadName (login_of (with_at name)) _ (λ (login : List ℕ) _.
    proper_refuse t (is_login_taken t.users login) NameTaken _ (λ free.
    proper_refuse t (not (has_room t kind.User)) (Full scarce.User) _ (λ room.
    proper_some t (added_user t login) (user_change t (new_user t login)) refl refl refl
    (sound_change t _ (user_added t login sound free (not-false _ room)) (added_differs t (new_user t login))
    (record { user = omega arith; key = omega arith; pending = omega arith; machine = omega arith })))))

-- a user without machines goes, and all keys of the user
user_dropped : (t : Rows) (user : User) → AreSound t → has_machine t.machines user.id ≡ false → AreSound (after t (user_gone t user))
user_dropped t user sound idle =
    let ks = keys_gone t.keys user.id in
    let u : Rows = take_all_out t ks in
    let own = λ (k : AuthKey). k.user == user.id in
    let name = λ (k : AuthKey). gone.Key k.id in
    let left : AreSound u = sound_take_all_out t ks (chosen_unnamed own name (λ k. refl) t.keys) sound in
    let dropped : AreSound (take_out u (gone.User user.id)) = sound_without_user u user.id left
    (λ (k : AuthKey) inside is.
    let was = key_left t ks k inside in
    let test : (k.user == user.id) ≡ true = grind arith in
    was.1 (chosen_there own name t.keys k was.0 test))
    (λ (m : Machine) inside is.
    let fails : (m.user == user.id) ≡ false = list_any_member (λ (r : Machine). r.user == user.id) t.machines idle m (machine_left t ks m inside) in
    absurd (grind arith)) in
    let all : AreSound (take_all_out t (ks ++ gone.User user.id ∷ [])) =
    subst (λ (x : Rows). AreSound x) (sym (take_all_out-append t ks (gone.User user.id ∷ []))) dropped in
    after_gone t (ks ++ gone.User user.id ∷ []) all

-- the user was there
dropped_differs : (t : Rows) (u : User) → Contains t.users u → after t (user_gone t u) ≢ t
dropped_differs t u there e =
    let ks = keys_gone t.keys u.id in
    let split = take_all_out-append t ks (gone.User u.id ∷ []) in
    let users : without (λ (x : User). x.id) (take_all_out t ks).users u.id ≡ t.users = sym (ap (λ (r : Rows). r.users) split) ∙ ap (λ (r : Rows). r.users) e in
    (without_member (λ (x : User). x.id) (take_all_out t ks).users u.id u (subst (λ (us : List User). Contains us u) (sym users) there)).1 refl

pub drop_user_proper : (s : State) (login : List ℕ) → AreSound s.rows → IsPlain s.rows (drop_user s login)
drop_user_proper s login sound =
    let t = s.rows in
    proper_bind t (user_named t login) _ (λ (user : User) named.
    proper_refuse t (has_machine t.machines user.id) UserHasMachines _ (λ idle.
    proper_some t _ (user_gone t user) refl refl refl
    (sound_change t _ (user_dropped t user sound idle) (dropped_differs t user (user_there t login user named)) (same_counters t.next))))
