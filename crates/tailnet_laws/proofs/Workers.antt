-- Fewer polls may wait than the settings have workers.
use Rattle.std.proofs.Common.{◌≡◌, ◌<◌, ◌≤◌, ◌+◌, ◌-◌, ◌∙◌, ◌==◌, ℕ, suc, ℤ, Bool, true, false, nat_lt, List, [], ◌∷◌, length, Option, Some, None, Result, Ok, Err, arith, inl, inr, refl, sym, ap, subst}
use Rattle.std.specs.Prelude.{filter}
use Rattle.std.proofs.lemmas.Bool.{cases_Bool, ltb-true}
use Rattle.net_rows.specs.Shelf.{IsAscending, put_row, without}
use Rattle.net_rows.specs.declared.change.Change.{Change}
use Rattle.net_rows.specs.declared.change.RowKey.{RowKey}
use Rattle.net_rows.specs.declared.change.RowKey.TheVariants as gone
use Rattle.net_rows.specs.declared.rows.Rows.{Rows}
use Rattle.net_rows.proofs.PutLemmas.{IsAscending-put}
use Rattle.net_rows.proofs.RemoveLemmas.{IsAscending-without, put_row_is_insertion}
use Rattle.settings.specs.declared.fields.SettingsFields.{SettingsFields}
use Rattle.desk_state.specs.State.{State, at_moment, forgotten, without_all}
use Rattle.desk_state.specs.declared.decision.Decision.{Decision}
use Rattle.desk_state.specs.declared.refusal.Refusal.{Refusal}
use Rattle.desk_state.specs.declared.session.Attachment.{Attachment}
use Rattle.machine_asks.specs.Attach.{attach, is_worker_left, waits_beside}
use Rattle.machine_asks.specs.Detach.{detach}
use Rattle.machine_asks.specs.Drain.{drain}
use Rattle.machine_asks.specs.declared.attaching.AttachDecision.{AttachDecision}
use Rattle.machine_asks.specs.declared.draining.DrainDecision.{DrainDecision}
use Rattle.tailnet_desk.specs.History.{replay, state_after}
use Rattle.tailnet_desk.specs.Opening.{opening}
use Rattle.tailnet_desk.specs.Step.{attach_turn, decision, detach_turn, drain_turn, left_after, moment_of, outcome, sessions_after, step}
use Rattle.tailnet_desk.specs.declared.entry.Entry.{Entry}
use Rattle.tailnet_desk.specs.declared.entry.Event.{Event}
use Rattle.tailnet_desk.specs.declared.entry.Event.TheVariants as event
use Rattle.tailnet_desk.specs.declared.reply.Answer.{Answer}
use Rattle.tailnet_desk.proofs.SoundHistories.{after_any, after_settings}
use Rattle.tailnet_laws.specs.Workers.{LeaveWorker, waiting_polls}
use Rattle.tailnet_desk.proofs.Attaches.{IsEither, attach_either}

-- how many of these may wait
abbrev waiting : List Attachment → ℕ
waiting hs = length (filter (λ (a : Attachment). a.may_wait) hs)

abbrev place : Attachment → ℕ
place a = a.id

-- ---- one more, or one less

abbrev one_if : Bool → ℕ
one_if true = 1
one_if false = 0

waiting_first : (a : Attachment) (hs : List Attachment) → waiting (a ∷ hs) ≡ one_if a.may_wait + waiting hs
waiting_first a hs = elim (cases_Bool a.may_wait) [ inl waits ↦ rw waits (omega arith) | inr other ↦ rw other (omega arith) ]

waiting_put : (hs : List Attachment) (a : Attachment) → waiting (put_row place hs a) ≤ one_if a.may_wait + waiting hs
waiting_put [] a = let first = waiting_first a [] in omega (arith, first)
waiting_put (y ∷ ys) a =
    let new = waiting_first a ys in
    let old = waiting_first y ys in
    elim (cases_Bool (y.id == a.id)) [
      | inl same ↦ rw same (omega (arith, new, old))
      | inr other ↦ elim (cases_Bool (nat_lt y.id a.id)) [
        | inl before ↦
            let rest = waiting_put ys a in
            let kept = waiting_first y (put_row place ys a) in
            rw (other, before) (omega (arith, rest, kept, old))
        | inr after ↦ let front = waiting_first a (y ∷ ys) in rw (other, after) (omega (arith, front))
      ]
    ]

waiting_without : (hs : List Attachment) (g : ℕ) → waiting (without place hs g) ≤ waiting hs
waiting_without [] g = omega arith
waiting_without (y ∷ ys) g =
    let rest = waiting_without ys g in
    let old = waiting_first y ys in
    elim (cases_Bool (y.id == g)) [
      | inl goes ↦ rw goes (omega (arith, rest, old))
      | inr stays ↦ let kept = waiting_first y (without place ys g) in rw stays (omega (arith, rest, old, kept))
    ]

-- those of other machines that may wait
waiting_beside : (hs : List Attachment) (g : ℕ) → waiting (without place hs g) ≡ length (filter (waits_beside g) hs)
waiting_beside [] g = refl
waiting_beside (y ∷ ys) g = elim (cases_Bool (y.id == g)) [
  | inl goes ↦ elim (cases_Bool y.may_wait) [ inl waits ↦ rw (goes, waits) (waiting_beside ys g) | inr other ↦ rw (goes, other) (waiting_beside ys g) ]
  | inr stays ↦ elim (cases_Bool y.may_wait) [
    | inl waits ↦ rw (stays, waits) (ap suc (waiting_beside ys g))
    | inr other ↦ rw (stays, other) (waiting_beside ys g)
  ]
]

-- ---- several go

-- some of the attachments, in their order
abbrev AreFewer : List Attachment → List Attachment → Type 0
AreFewer hs ks = (IsAscending place hs → IsAscending place ks) × (waiting ks ≤ waiting hs)

all_stay : (hs : List Attachment) → AreFewer hs hs
all_stay hs = (λ h. h, omega arith)

fewer_still : (hs ks ls : List Attachment) → AreFewer hs ks → AreFewer ks ls → AreFewer hs ls
fewer_still hs ks ls p q = (λ h. q.0 (p.0 h), let one = p.1 in let two = q.1 in omega (arith, one, two))

one_goes : (hs : List Attachment) (g : ℕ) → AreFewer hs (without place hs g)
one_goes hs g = (λ h. IsAscending-without place hs g h, waiting_without hs g)

forgotten_fewer : (hs : List Attachment) (keys : List RowKey) → AreFewer hs (forgotten place hs keys)
forgotten_fewer hs [] = all_stay hs
forgotten_fewer hs (gone.Machine g ∷ keys) =
    let ks = without place hs g in
    fewer_still hs ks (forgotten place ks keys) (one_goes hs g) (forgotten_fewer ks keys)
forgotten_fewer hs (gone.User g ∷ keys) = forgotten_fewer hs keys
forgotten_fewer hs (gone.Key g ∷ keys) = forgotten_fewer hs keys
forgotten_fewer hs (gone.Pending g ∷ keys) = forgotten_fewer hs keys

ids_fewer : (hs : List Attachment) (ids : List ℕ) → AreFewer hs (without_all place hs ids)
ids_fewer hs [] = all_stay hs
ids_fewer hs (g ∷ ids) =
    let ks = without place hs g in
    fewer_still hs ks (without_all place ks ids) (one_goes hs g) (ids_fewer ks ids)

change_fewer : (hs : List Attachment) (change : Option Change) → AreFewer hs (left_after place hs change)
change_fewer hs None = all_stay hs
change_fewer hs (Some c) = forgotten_fewer hs c.gone

settled_fewer : (hs : List Attachment) (change : Option Change) (ended offline : List ℕ) → AreFewer hs (sessions_after place hs change ended offline)
settled_fewer hs change ended offline =
    let ks = left_after place hs change in
    let ls = without_all place ks ended in
    fewer_still hs ls (without_all place ls offline) (fewer_still hs ks ls (change_fewer hs change) (ids_fewer ks ended)) (ids_fewer ls offline)

-- ---- an attach

-- a poll may wait if a worker is left
either_waits : (s : State) (d : AttachDecision) → IsEither s d → d.may_wait ≡ is_worker_left s d.id
either_waits s d (inl on) = subst (λ (e : AttachDecision). e.may_wait ≡ is_worker_left s e.id) on.2 refl
either_waits s d (inr begins) = subst (λ (e : AttachDecision). e.may_wait ≡ is_worker_left s e.id) begins.3 refl

few_with : (s : State) (id : ℕ) (b : Bool) → LeaveWorker s → b ≡ is_worker_left s id → waiting (put_row place s.attached (record { id = id; may_wait = b })) ≤ s.settings.workers - 1
few_with s id false h is =
    let put = waiting_put s.attached (record { id = id; may_wait = false }) in
    let few : waiting s.attached ≤ s.settings.workers - 1 = h.few in
    omega (arith, put, few)
few_with s id true h is =
    let a : Attachment = record { id = id; may_wait = true } in
    let others = without place s.attached id in
    let left : length (filter (waits_beside id) s.attached) < s.settings.workers - 1 = ltb-true _ _ (sym is) in
    let beside : waiting others ≡ length (filter (waits_beside id) s.attached) = waiting_beside s.attached id in
    let put : waiting (put_row place others a) ≤ 1 + waiting others = waiting_put others a in
    let same : put_row place s.attached a ≡ put_row place others a = put_row_is_insertion place s.attached a h.rise in
    let few : waiting (put_row place others a) ≤ s.settings.workers - 1 = omega (arith, left, beside, put) in
    subst (λ (hs : List Attachment). waiting hs ≤ s.settings.workers - 1) (sym same) few

attach_leaves : (s : State) (r : Result AttachDecision Refusal) → ((d : AttachDecision) → r ≡ Ok d → IsEither s d) → LeaveWorker s → LeaveWorker (attach_turn s r).state
attach_leaves s (Err e) either h = h
attach_leaves s (Ok d) either h = record {
  rise = IsAscending-put place s.attached (record { id = d.id; may_wait = d.may_wait }) h.rise;
  few = few_with s d.id d.may_wait h (either_waits s d (either d refl));
}

-- ---- steps

fewer_leave : (s t : State) → t.settings ≡ s.settings → AreFewer s.attached t.attached → LeaveWorker s → LeaveWorker t
fewer_leave s t same fewer h =
    let less = fewer.1 in
    let few : waiting s.attached ≤ s.settings.workers - 1 = h.few in
    let now : waiting t.attached ≤ s.settings.workers - 1 = omega (arith, less, few) in
    record {
      rise = fewer.0 h.rise;
      few = subst (λ (f : SettingsFields). waiting t.attached ≤ f.workers - 1) (sym same) now;
    }

outcome_leaves : (s : State) (r : Result (Decision Answer) Refusal) → LeaveWorker s → LeaveWorker (outcome s r).state
outcome_leaves s (Err e) h = h
outcome_leaves s (Ok d) h = fewer_leave s (outcome s (Ok d)).state refl (settled_fewer s.attached d.change d.ended d.offline) h

drain_leaves : (s : State) (o : Option DrainDecision) → LeaveWorker s → LeaveWorker (drain_turn s o).state
drain_leaves s None h = h
drain_leaves s (Some d) h = record { rise = h.rise; few = h.few }

detach_leaves : (s : State) (o : Option ℕ) → LeaveWorker s → LeaveWorker (detach_turn s o).state
detach_leaves s None h = h
detach_leaves s (Some id) h = fewer_leave s (detach_turn s (Some id)).state refl (one_goes s.attached id) h

moment_leaves : (s : State) (m : ℤ) → LeaveWorker s → LeaveWorker (at_moment s m)
moment_leaves s m h = record { rise = h.rise; few = h.few }

step_leaves : (s : State) (e : Event) → LeaveWorker s → LeaveWorker (step s e).state
step_leaves s (event.Ask x m words) h = outcome_leaves (at_moment s m) (decision (at_moment s m) x words) (moment_leaves s m h)
step_leaves s (event.Attach mk node handle seq m words) h =
    attach_leaves (at_moment s m) (attach (at_moment s m) mk node handle seq words) (λ d e. attach_either (at_moment s m) mk node handle seq words d e) (moment_leaves s m h)
step_leaves s (event.Drain mk handle m) h = drain_leaves (at_moment s m) (drain (at_moment s m) mk handle) (moment_leaves s m h)
step_leaves s (event.Detach mk handle m) h = detach_leaves (at_moment s m) (detach (at_moment s m) mk handle) (moment_leaves s m h)

pub replay_leaves : (s : State) (es : List Entry) → LeaveWorker s → LeaveWorker (replay s es)
replay_leaves s [] h = h
replay_leaves s (e ∷ es) h =
    replay_leaves (state_after s e.event e.reply) es
    (after_any LeaveWorker s e.event e.reply (step_leaves s e.event h) (moment_leaves s (moment_of e.event) h))

replay_settings : (s : State) (es : List Entry) → (replay s es).settings ≡ s.settings
replay_settings s [] = refl
replay_settings s (e ∷ es) = replay_settings (state_after s e.event e.reply) es ∙ after_settings s e.event e.reply

-- ---- the opening state

opening_leaves : (settings : SettingsFields) (rows : Rows) (moment : ℤ) → LeaveWorker (opening settings rows moment)
opening_leaves settings rows moment = record { rise = tt; few = omega arith }

pub opened_leave : (settings : SettingsFields) (rows : Rows) (moment : ℤ) (es : List Entry) → waiting_polls (replay (opening settings rows moment) es) ≤ settings.workers - 1
opened_leave settings rows moment es =
    let s = opening settings rows moment in
    let t = replay s es in
    subst (λ (f : SettingsFields). waiting t.attached ≤ f.workers - 1) (replay_settings s es) (replay_leaves s es (opening_leaves settings rows moment)).few
