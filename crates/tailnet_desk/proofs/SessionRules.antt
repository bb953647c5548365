-- What an attach, a drain and a decision leave of sessions, and of the maps that clients have.
use Rattle.std.proofs.Common.{◌≡◌, ◌<◌, ◌≤◌, ◌+◌, ◌^◌, ◌∙◌, ◌==◌, ◌⊎◌, ℕ, Bool, true, false, List, [], ◌∷◌, Option, Some, None, arith, inl, inr, refl, sym, ap, subst, cond, take, if◌then◌else◌, codes}
use Rattle.std.specs.Prelude.{Contains, IfSome, option_and_then}
use Rattle.std.specs.List.{find}
use Rattle.std.specs.Str.{bytes_eq}
use Rattle.std.proofs.lemmas.Bool.{both_ways, cases_Bool, eq-eqb, eqb-true}
use Rattle.tail_base.proofs.Bools.{bytes_eq-from, bytes_eq-true}
use Rattle.net_rows.specs.Damage.{names_id}
use Rattle.net_rows.specs.Shelf.{IsAscending, put_row, without}
use Rattle.net_rows.specs.declared.change.Change.{Change}
use Rattle.net_rows.specs.declared.change.RowKey.{RowKey}
use Rattle.net_rows.specs.declared.change.RowKey.TheVariants as gone
use Rattle.net_rows.proofs.MapLemmas.{row_at-put_row, row_at-without}
use Rattle.net_rows.proofs.Members.{find_member, find_none}
use Rattle.net_rows.proofs.PutLemmas.{IsAscending-put}
use Rattle.net_rows.proofs.RemoveLemmas.{IsAscending-without}
use Rattle.net_rows.proofs.RowAt.{row_at_is}
use Rattle.policy_rows.specs.declared.policy.Policy.{Policy}
use Rattle.tailcfg.specs.declared.response.Response.{Response}
use Rattle.fresh_maps.specs.InOrder.{IsInOrder}
use Rattle.fresh_maps.specs.declared.view.View.{View}
use Rattle.map_delta.specs.Delta.{responses_for}
use Rattle.map_delta.specs.Fold.{fold_all}
use Rattle.map_delta.proofs.SessionLaws.{session_law}
use Rattle.desk_state.specs.Sessions.{session_of}
use Rattle.desk_state.specs.State.{State, forgotten, without_all}
use Rattle.desk_state.specs.Texts.{session_handle}
use Rattle.desk_state.specs.declared.session.Session.{Session}
use Rattle.desk_state.proofs.TextLemmas.{names_one, row_text_names}
use Rattle.machine_asks.specs.Attach.{attached_state, new_session, session_begun, session_taken_up}
use Rattle.machine_asks.specs.Drain.{drained_state, session_at}
use Rattle.tailnet_desk.specs.Step.{left_after, sessions_after, settled}
use Rattle.tailnet_desk.specs.Sessions.{AreHeld, AreSoundSessions, IsGiven, sent_to}

-- Sessions keep their rules, and clients have what was sent to them.
pub record AreKept (s : State) (maps : List ℕ → Option View) : Type 0 where
  pub sessions : AreSoundSessions s
  pub held : AreHeld s maps

-- ---- handles

-- a handle tells its number
pub handle_one : (n m : ℕ) (words other : List ℕ) → n < 2 ^ 63 → m < 2 ^ 63 → session_handle n words ≡ session_handle m other → n ≡ m
handle_one n m words other small less e =
    let named : names_id (codes "s") m (session_handle n words) ≡ true = subst (λ (t : List ℕ). names_id (codes "s") m t ≡ true) (sym e) (row_text_names (codes "s") m (take 1 other)) in
    names_one (codes "s") n m (session_handle n words) (omega arith) (omega arith) (row_text_names (codes "s") n (take 1 words)) named

-- a handle that is still to be given is no session's
pub not_given : (next n : ℕ) (words handle : List ℕ) → IsGiven next handle → next ≤ n → n < 2 ^ 63 → handle ≡ session_handle n words → ⊥
not_given next n words handle g above small e =
    let below : g.number < next = g.below in
    let same : g.number ≡ n = handle_one g.number n g.words words g.small small (sym g.is ∙ e) in
    absurd (omega arith)

-- ---- rows that are found after a put, or after some go

put_found : {T : Type 0} (b : Bool) (x : T) (o : Option T) (y : T) → cond b (Some x) o ≡ Some y → ((x ≡ y) × (b ≡ true)) ⊎ ((o ≡ Some y) × (b ≡ false))
put_found true x o y h = let e : x ≡ y = cc in inl (e, refl)
put_found false x o y h = inr (h, refl)

pub session_put : (xs : List Session) (x : Session) (k : ℕ) (y : Session) → session_of (put_row (λ (r : Session). r.id) xs x) k ≡ Some y
    → ((x ≡ y) × (x.id ≡ k)) ⊎ ((session_of xs k ≡ Some y) × ((x.id == k) ≡ false))
session_put xs x k y h =
    let found = put_found (x.id == k) x (session_of xs k) y (sym (row_at-put_row (λ (r : Session). r.id) xs x k) ∙ h) in
    elim found [
      | inl here ↦ inl (here.0, eqb-true x.id k here.1)
      | inr other ↦ inr other
    ]

pub session_id : (xs : List Session) (k : ℕ) (x : Session) → session_of xs k ≡ Some x → x.id ≡ k
session_id xs k x h = eqb-true x.id k (find_member (λ (r : Session). r.id == k) xs x h).1

left_found : {T : Type 0} (b : Bool) (o : Option T) (y : T) → cond b None o ≡ Some y → o ≡ Some y
left_found true o y h = absurd (cc)
left_found false o y h = h

-- some of the sessions, in their order
abbrev pub IsLeft : List Session → List Session → Type 0
IsLeft xs ys = (IsAscending (λ (r : Session). r.id) xs → IsAscending (λ (r : Session). r.id) ys) × ((k : ℕ) (x : Session) → session_of ys k ≡ Some x → session_of xs k ≡ Some x)

all_left : (xs : List Session) → IsLeft xs xs
all_left xs = (λ h. h, λ k x h. h)

more_left : (xs ys zs : List Session) → IsLeft xs ys → IsLeft ys zs → IsLeft xs zs
more_left xs ys zs p q = (λ h. q.0 (p.0 h), λ k x h. p.1 k x (q.1 k x h))

without_left : (xs : List Session) (g : ℕ) → IsLeft xs (without (λ (r : Session). r.id) xs g)
without_left xs g = (
  λ h. IsAscending-without (λ (r : Session). r.id) xs g h,
  λ k x h. left_found (g == k) (session_of xs k) x (sym (row_at-without (λ (r : Session). r.id) xs g k) ∙ h),
)

forgotten_left : (xs : List Session) (keys : List RowKey) → IsLeft xs (forgotten (λ (r : Session). r.id) xs keys)
forgotten_left xs [] = all_left xs
forgotten_left xs (gone.Machine g ∷ keys) =
    let ys = without (λ (r : Session). r.id) xs g in
    more_left xs ys (forgotten (λ (r : Session). r.id) ys keys) (without_left xs g) (forgotten_left ys keys)
forgotten_left xs (gone.User g ∷ keys) = forgotten_left xs keys
forgotten_left xs (gone.Key g ∷ keys) = forgotten_left xs keys
forgotten_left xs (gone.Pending g ∷ keys) = forgotten_left xs keys

ids_left : (xs : List Session) (ids : List ℕ) → IsLeft xs (without_all (λ (r : Session). r.id) xs ids)
ids_left xs [] = all_left xs
ids_left xs (g ∷ ids) =
    let ys = without (λ (r : Session). r.id) xs g in
    more_left xs ys (without_all (λ (r : Session). r.id) ys ids) (without_left xs g) (ids_left ys ids)

change_left : (xs : List Session) (change : Option Change) → IsLeft xs (left_after (λ (r : Session). r.id) xs change)
change_left xs None = all_left xs
change_left xs (Some c) = forgotten_left xs c.gone

pub settled_left : (xs : List Session) (change : Option Change) (ended offline : List ℕ) → IsLeft xs (sessions_after (λ (r : Session). r.id) xs change ended offline)
settled_left xs change ended offline =
    let ys = left_after (λ (r : Session). r.id) xs change in
    let zs = without_all (λ (r : Session). r.id) ys ended in
    more_left xs zs (without_all (λ (r : Session). r.id) zs offline) (more_left xs ys zs (change_left xs change) (ids_left ys ended)) (ids_left zs offline)

-- ---- decisions

pub settled_kept : (s : State) (change : Option Change) (policy : Option Policy) (ended offline : List ℕ) (maps : List ℕ → Option View)
    → AreKept s maps → AreKept (settled s change policy ended offline) maps
settled_kept s change policy ended offline maps h =
    let left = settled_left s.sessions change ended offline in
    record {
      sessions = record {
        rise = left.0 h.sessions.rise;
        given = λ k x f. h.sessions.given k x (left.1 k x f);
        apart = λ j k x y f g e. h.sessions.apart j k x y (left.1 j x f) (left.1 k y g) e;
        order = λ k x map f e. h.sessions.order k x map (left.1 k x f) e;
        domain = λ k x map f e. h.sessions.domain k x map (left.1 k x f) e;
        unsent = λ k x f e. h.sessions.unsent k x (left.1 k x f) e;
      };
      held = record { sent = λ k x f. h.held.sent k x (left.1 k x f); coming = h.held.coming };
    }

-- clients that have the same maps
pub same_kept : (s : State) (maps others : List ℕ → Option View) → ((handle : List ℕ) → others handle ≡ maps handle) → AreKept s maps → AreKept s others
same_kept s maps others same h = record {
  sessions = h.sessions;
  held = record {
    sent = λ k x f. same x.handle ∙ h.held.sent k x f;
    coming = λ n words above small. same (session_handle n words) ∙ h.held.coming n words above small;
  };
}

-- ---- attaches

-- a session that goes on
pub taken_kept : (s : State) (x : Session) (maps : List ℕ → Option View) → AreKept s maps → AreKept (attached_state s (session_taken_up s x)) maps
taken_kept s x maps h = record {
  sessions = record { rise = h.sessions.rise; given = h.sessions.given; apart = h.sessions.apart; order = h.sessions.order; domain = h.sessions.domain; unsent = h.sessions.unsent };
  held = record { sent = h.held.sent; coming = h.held.coming };
}

given_more : (next : ℕ) (handle : List ℕ) → IsGiven next handle → IsGiven (next + 1) handle
given_more next handle g = let below : g.number < next = g.below in record { number = g.number; words = g.words; below = omega arith; small = g.small; is = g.is }

-- a session that begins
module _ (s : State) (id : ℕ) (words : List ℕ) (small : s.next_session < 2 ^ 63) (maps : List ℕ → Option View) (h : AreKept s maps) where
  abbrev begun : Session
  begun = new_session s id words

  abbrev with_begun : List Session
  with_begun = put_row (λ (r : Session). r.id) s.sessions begun

  given_begun : IsGiven (s.next_session + 1) begun.handle
  given_begun = record { number = s.next_session; words = words; below = omega arith; small = small; is = refl }

  not_begun : (k : ℕ) (x : Session) → session_of s.sessions k ≡ Some x → x.handle ≡ begun.handle → ⊥
  not_begun k x f e = not_given s.next_session s.next_session words x.handle (h.sessions.given k x f) (omega arith) small e

  begun_given : (k : ℕ) (x : Session) → session_of with_begun k ≡ Some x → IsGiven (s.next_session + 1) x.handle
  begun_given k x f = elim (session_put s.sessions begun k x f) [
    | inl new ↦ subst (λ (y : Session). IsGiven (s.next_session + 1) y.handle) new.0 given_begun
    | inr old ↦ given_more s.next_session x.handle (h.sessions.given k x old.0)
  ]

  begun_apart : (j k : ℕ) (x y : Session) → session_of with_begun j ≡ Some x → session_of with_begun k ≡ Some y → x.handle ≡ y.handle → j ≡ k
  begun_apart j k x y f g e = elim (session_put s.sessions begun j x f) [
    | inl new ↦ elim (session_put s.sessions begun k y g) [
      | inl also ↦ sym new.1 ∙ also.1
      | inr old ↦ absurd (not_begun k y old.0 (sym e ∙ ap (λ (z : Session). z.handle) (sym new.0)))
    ]
    | inr old ↦ elim (session_put s.sessions begun k y g) [
      | inl new ↦ absurd (not_begun j x old.0 (e ∙ ap (λ (z : Session). z.handle) (sym new.0)))
      | inr both ↦ h.sessions.apart j k x y old.0 both.0 e
    ]
  ]

  nothing_sent : (x : Session) (map : View) → begun ≡ x → x.sent ≡ Some map → ⊥
  nothing_sent x map is e = let none : None ≡ Some map = ap (λ (z : Session). z.sent) is ∙ e in absurd (cc)

  begun_sent : (k : ℕ) (x : Session) → session_of with_begun k ≡ Some x → maps x.handle ≡ x.sent
  begun_sent k x f = elim (session_put s.sessions begun k x f) [
    | inl new ↦ subst (λ (z : Session). maps z.handle ≡ z.sent) new.0 (h.held.coming s.next_session words (omega arith) small)
    | inr old ↦ h.held.sent k x old.0
  ]

  pub begun_kept : AreKept (attached_state s (session_begun s id words)) maps
  begun_kept = record {
    sessions = record {
      rise = IsAscending-put (λ (r : Session). r.id) s.sessions begun h.sessions.rise;
      given = begun_given;
      apart = begun_apart;
      order = λ k x map f e. elim (session_put s.sessions begun k x f) [
        | inl new ↦ absurd (nothing_sent x map new.0 e)
        | inr old ↦ h.sessions.order k x map old.0 e
      ];
      domain = λ k x map f e. elim (session_put s.sessions begun k x f) [
        | inl new ↦ absurd (nothing_sent x map new.0 e)
        | inr old ↦ h.sessions.domain k x map old.0 e
      ];
      unsent = λ k x f e. elim (session_put s.sessions begun k x f) [
        | inl new ↦ ap (λ (z : Session). z.seq) (sym new.0)
        | inr old ↦ h.sessions.unsent k x old.0 e
      ];
    };
    held = record { sent = begun_sent; coming = λ n w above less. h.held.coming n w (omega arith) less };
  }

-- ---- drains

-- what the client of each handle has after these responses under one
abbrev pub folded_under : List ℕ → List Response → (List ℕ → Option View) → List ℕ → Option View
folded_under handle responses maps other = fold_all (maps other) (if bytes_eq handle other then responses else [])

module _ (s : State) (k : ℕ) (x : Session) (map : View) (maps : List ℕ → Option View) (h : AreKept s maps) (found : session_of s.sessions k ≡ Some x) (order : IsInOrder map) (domain : map.domain ≡ s.settings.base_domain) where
  abbrev responses : List Response
  responses = responses_for x.handle x.seq x.sent map

  abbrev drained : Session
  drained = (session_at x map responses).session

  abbrev with_drained : List Session
  with_drained = put_row (λ (r : Session). r.id) s.sessions drained

  abbrev maps' : List ℕ → Option View
  maps' = folded_under x.handle responses maps

  old_in_order : (o : Option View) → x.sent ≡ o → IfSome o (λ old. IsInOrder old × (old.domain ≡ map.domain))
  old_in_order None e = tt
  old_in_order (Some old) e = (h.sessions.order k x old found e, h.sessions.domain k x old found e ∙ sym domain)

  -- the client of the session has the map
  pub drained_map : maps' x.handle ≡ Some map
  drained_map =
      let same : bytes_eq x.handle x.handle ≡ true = bytes_eq-from x.handle x.handle refl in
      let folds : fold_all x.sent responses ≡ Some map = session_law x.handle x.seq x.sent map order (old_in_order x.sent refl) in
      rw same (ap (λ (o : Option View). fold_all o responses) (h.held.sent k x found) ∙ folds)

  -- a client of another handle has what it had
  other_map : (handle : List ℕ) → (x.handle ≡ handle → ⊥) → maps' handle ≡ maps handle
  other_map handle other = elim (cases_Bool (bytes_eq x.handle handle)) [
    | inl same ↦ absurd (other (bytes_eq-true x.handle handle same))
    | inr differ ↦ rw differ refl
  ]

  -- each session was there, under its handle
  was_there : (j : ℕ) (y : Session) → session_of with_drained j ≡ Some y → (z : Session) × (session_of s.sessions j ≡ Some z) × (z.handle ≡ y.handle)
  was_there j y f = elim (session_put s.sessions drained j y f) [
    | inl new ↦
        let at : j ≡ k = sym new.1 ∙ session_id s.sessions k x found in
        (x, ap (λ (i : ℕ). session_of s.sessions i) at ∙ found, ap (λ (z : Session). z.handle) new.0)
    | inr old ↦ (y, old.0, refl)
  ]

  drained_sent : (j : ℕ) (y : Session) → session_of with_drained j ≡ Some y → maps' y.handle ≡ y.sent
  drained_sent j y f = elim (session_put s.sessions drained j y f) [
    | inl new ↦ subst (λ (z : Session). maps' z.handle ≡ z.sent) new.0 drained_map
    | inr old ↦
        let other : x.handle ≡ y.handle → ⊥ = λ e.
        let same : k ≡ j = h.sessions.apart k j x y found old.0 e in
        both_ways (x.id == j) old.1 (eq-eqb x.id j (session_id s.sessions k x found ∙ same)) in
        other_map y.handle other ∙ h.held.sent j y old.0
  ]

  drained_coming : (n : ℕ) (words : List ℕ) → s.next_session ≤ n → n < 2 ^ 63 → maps' (session_handle n words) ≡ None
  drained_coming n words above small =
      other_map (session_handle n words) (λ e. not_given s.next_session n words x.handle (h.sessions.given k x found) above small e)
      ∙ h.held.coming n words above small

  pub drained_kept : AreKept (drained_state s (session_at x map responses)) maps'
  drained_kept = record {
    sessions = record {
      rise = IsAscending-put (λ (r : Session). r.id) s.sessions drained h.sessions.rise;
      given = λ j y f. let was = was_there j y f in subst (IsGiven s.next_session) was.2 (h.sessions.given j was.0 was.1);
      apart = λ i j y z f g e.
          let one = was_there i y f in
          let other = was_there j z g in
          h.sessions.apart i j one.0 other.0 one.1 other.1 (one.2 ∙ e ∙ sym other.2);
      order = λ j y m f e. elim (session_put s.sessions drained j y f) [
        | inl new ↦
            let is : Some map ≡ Some m = ap (λ (z : Session). z.sent) new.0 ∙ e in
            let same : map ≡ m = cc in
            subst IsInOrder same order
        | inr old ↦ h.sessions.order j y m old.0 e
      ];
      domain = λ j y m f e. elim (session_put s.sessions drained j y f) [
        | inl new ↦
            let is : Some map ≡ Some m = ap (λ (z : Session). z.sent) new.0 ∙ e in
            let same : map ≡ m = cc in
            subst (λ (v : View). v.domain ≡ s.settings.base_domain) same domain
        | inr old ↦ h.sessions.domain j y m old.0 e
      ];
      unsent = λ j y f e. elim (session_put s.sessions drained j y f) [
        | inl new ↦
            let is : Some map ≡ None = ap (λ (z : Session). z.sent) new.0 ∙ e in
            absurd (cc)
        | inr old ↦ h.sessions.unsent j y old.0 e
      ];
    };
    held = record { sent = drained_sent; coming = drained_coming };
  }

-- ---- what was sent

module _ (s : State) (h : AreSoundSessions s) where
  -- the one of a handle
  pub one_session : (k : ℕ) (x y : Session) → session_of s.sessions k ≡ Some x → Contains s.sessions y → y.handle ≡ x.handle → y ≡ x
  one_session k x y f inside e =
      let there : session_of s.sessions y.id ≡ Some y = row_at_is (λ (r : Session). r.id) s.sessions y h.rise inside in
      let same : y.id ≡ k = h.apart y.id k y x there f e in
      let both : Some y ≡ Some x = sym there ∙ ap (λ (i : ℕ). session_of s.sessions i) same ∙ f in
      cc

  abbrev with_handle : List ℕ → Option Session
  with_handle handle = find (λ (x : Session). bytes_eq x.handle handle) s.sessions

  sent_is : (k : ℕ) (x : Session) (o : Option Session) → session_of s.sessions k ≡ Some x → with_handle x.handle ≡ o → option_and_then (λ (z : Session). z.sent) o ≡ x.sent
  sent_is k x None f e =
      let inside = (find_member (λ (r : Session). r.id == k) s.sessions x f).0 in
      absurd (both_ways (bytes_eq x.handle x.handle) (find_none (λ (y : Session). bytes_eq y.handle x.handle) s.sessions e x inside) (bytes_eq-from x.handle x.handle refl))
  sent_is k x (Some y) f e =
      let at = find_member (λ (z : Session). bytes_eq z.handle x.handle) s.sessions y e in
      ap (λ (z : Session). z.sent) (one_session k x y f at.0 (bytes_eq-true y.handle x.handle at.1))

  none_to_come : (n : ℕ) (words : List ℕ) (o : Option Session) → s.next_session ≤ n → n < 2 ^ 63 → with_handle (session_handle n words) ≡ o → option_and_then (λ (z : Session). z.sent) o ≡ None
  none_to_come n words None above small e = refl
  none_to_come n words (Some y) above small e =
      let at = find_member (λ (z : Session). bytes_eq z.handle (session_handle n words)) s.sessions y e in
      let there : session_of s.sessions y.id ≡ Some y = row_at_is (λ (r : Session). r.id) s.sessions y h.rise at.0 in
      absurd (not_given s.next_session n words y.handle (h.given y.id y there) above small (bytes_eq-true y.handle (session_handle n words) at.1))

  pub sent_held : AreHeld s (sent_to s.sessions)
  sent_held = record {
    sent = λ k x f. sent_is k x (with_handle x.handle) f refl;
    coming = λ n words above small. none_to_come n words (with_handle (session_handle n words)) above small refl;
  }
