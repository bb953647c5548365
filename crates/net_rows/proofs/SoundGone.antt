-- Sound tables stay sound when a list of rows goes.
use Rattle.std.proofs.Common.{◌≡◌, Bool, true, false, List, [], ◌∷◌, ◌++◌, refl, inl, inr}
use Rattle.std.specs.Prelude.{Contains}
use Rattle.std.specs.List.{list_all}
use Rattle.net_rows.specs.Rows.{Rows, take_out, take_all_out}
use Rattle.net_rows.specs.Sound.{AreSound}
use Rattle.net_rows.specs.declared.key.AuthKey.{AuthKey}
use Rattle.net_rows.specs.declared.machine.Machine.{Machine}
use Rattle.net_rows.specs.declared.change.RowKey.{RowKey}
use Rattle.net_rows.specs.declared.change.RowKey.TheVariants as key
use Rattle.std.proofs.lemmas.Bool.{and_parts}
use Rattle.net_rows.proofs.Members.{cut_member, no_member}
use Rattle.net_rows.proofs.RemoveLemmas.{without_member}
use Rattle.net_rows.proofs.SoundRemove.{sound_without_key, sound_without_pending, sound_without_machine}

-- it is no user, so no row names it
abbrev pub is_unnamed : RowKey → Bool
is_unnamed (key.User id) = false
is_unnamed (key.Key id) = true
is_unnamed (key.Pending id) = true
is_unnamed (key.Machine id) = true

sound_take_out : (t : Rows) (k : RowKey) → is_unnamed k ≡ true → AreSound t → AreSound (take_out t k)
sound_take_out t (key.User id) h s = absurd (cc)
sound_take_out t (key.Key id) h s = sound_without_key t id s
sound_take_out t (key.Pending id) h s = sound_without_pending t id s
sound_take_out t (key.Machine id) h s = sound_without_machine t id s

-- keys, pending entries and machines go
pub sound_take_all_out : (t : Rows) (ks : List RowKey) → list_all is_unnamed ks ≡ true → AreSound t → AreSound (take_all_out t ks)
sound_take_all_out t [] h s = s
sound_take_all_out t (k ∷ ks) h s =
    let all = and_parts (is_unnamed k) (list_all is_unnamed ks) h in
    sound_take_all_out (take_out t k) ks all.1 (sound_take_out t k all.0 s)

-- lists go one after the other
pub take_all_out-append : (t : Rows) (ks ls : List RowKey) → take_all_out t (ks ++ ls) ≡ take_all_out (take_all_out t ks) ls
take_all_out-append t [] ls = refl
take_all_out-append t (k ∷ ks) ls = take_all_out-append (take_out t k) ks ls

-- what goes of keys, pending entries and machines leaves the users and counters
pub users_stay : (t : Rows) (ks : List RowKey) → list_all is_unnamed ks ≡ true → (take_all_out t ks).users ≡ t.users
users_stay t [] h = refl
users_stay t (key.User id ∷ ks) h = absurd (cc)
users_stay t (key.Key id ∷ ks) h = users_stay (take_out t (key.Key id)) ks h
users_stay t (key.Pending id ∷ ks) h = users_stay (take_out t (key.Pending id)) ks h
users_stay t (key.Machine id ∷ ks) h = users_stay (take_out t (key.Machine id)) ks h

pub next_stays : (t : Rows) (ks : List RowKey) → (take_all_out t ks).next ≡ t.next
next_stays t [] = refl
next_stays t (key.User id ∷ ks) = next_stays (take_out t (key.User id)) ks
next_stays t (key.Key id ∷ ks) = next_stays (take_out t (key.Key id)) ks
next_stays t (key.Pending id ∷ ks) = next_stays (take_out t (key.Pending id)) ks
next_stays t (key.Machine id ∷ ks) = next_stays (take_out t (key.Machine id)) ks

-- a key that is left was there, and is none of those that went
pub key_left : (t : Rows) (ks : List RowKey) (k : AuthKey) → Contains (take_all_out t ks).keys k → Contains t.keys k × (Contains ks (key.Key k.id) → ⊥)
key_left t [] k m = (m, λ gone. no_member (key.Key k.id) gone)
key_left t (key.User id ∷ ks) k m =
    let rest = key_left (take_out t (key.User id)) ks k m in
    (rest.0, λ gone. elim (cut_member (key.User id) ks (key.Key k.id) gone) [ inl e ↦ absurd (cc) | inr r ↦ rest.1 r ])
key_left t (key.Key id ∷ ks) k m =
    let rest = key_left (take_out t (key.Key id)) ks k m in
    let here = without_member (λ (r : AuthKey). r.id) t.keys id k rest.0 in
    (here.0, λ gone. elim (cut_member (key.Key id) ks (key.Key k.id) gone) [ inl e ↦ let same : k.id ≡ id = cc in here.1 same | inr r ↦ rest.1 r ])
key_left t (key.Pending id ∷ ks) k m =
    let rest = key_left (take_out t (key.Pending id)) ks k m in
    (rest.0, λ gone. elim (cut_member (key.Pending id) ks (key.Key k.id) gone) [ inl e ↦ absurd (cc) | inr r ↦ rest.1 r ])
key_left t (key.Machine id ∷ ks) k m =
    let rest = key_left (take_out t (key.Machine id)) ks k m in
    (rest.0, λ gone. elim (cut_member (key.Machine id) ks (key.Key k.id) gone) [ inl e ↦ absurd (cc) | inr r ↦ rest.1 r ])

-- a machine that is left was there
pub machine_left : (t : Rows) (ks : List RowKey) (m : Machine) → Contains (take_all_out t ks).machines m → Contains t.machines m
machine_left t [] m inside = inside
machine_left t (key.User id ∷ ks) m inside = machine_left (take_out t (key.User id)) ks m inside
machine_left t (key.Key id ∷ ks) m inside = machine_left (take_out t (key.Key id)) ks m inside
machine_left t (key.Pending id ∷ ks) m inside = machine_left (take_out t (key.Pending id)) ks m inside
machine_left t (key.Machine id ∷ ks) m inside = (without_member (λ (r : Machine). r.id) t.machines id m (machine_left (take_out t (key.Machine id)) ks m inside)).0
