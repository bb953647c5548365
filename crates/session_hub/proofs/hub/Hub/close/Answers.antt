use Rattle.std.proofs.Common.{◌≡◌, ◌∙◌, ap, sym, subst, Some, ℕ, [], IfSome, length}
use mathlib.Core.Option.{some, some-injective}
use Rattle.session_hub.specs.Lines.{AreLegal, IsReplayOf, Replays, lines_by, times}
use Rattle.session_hub.specs.Rule.{below}
use Rattle.session_hub.specs.Seats.{HubView, SeatView}
use Rattle.tailnet_desk.specs.Crashes.{IsSafeDesk}
use Rattle.tailnet_desk.specs.Seated.{point_of}
use Rattle.session_hub.proofs.Closing.{closes}
use Rattle.session_hub.proofs.hub.Hub.close.Goals as goal

pub unreachable-requires-in_default : goal.unreachable-requires-in_default
unreachable-requires-in_default g c =
    let at = point_of g.K.Keeper.told g.K.Keeper.faults g.K.Keeper.calls in
    let safe = IsSafeDesk g.K.Keeper.told g.K.Keeper.is_clean g.K.Keeper.may_leave in
    let v = c.seat.inside.place.me.0 in
    let seats = c.word.ensures ∙ ap some (c.if-word-count.false ∙ c.seat.invariant.3) in
    let k = closes (Replays at safe) c.self.inside.table.shared.key.value _ v _ _ (ap (λ z. z.0.stage) c.seat.invariant.0) c.close_with-closed.ensures.values.2 seats in
    let held : c.take-held.result ≡ Some k.desk = some-injective _ _ (sym c.take-held.ensures.value ∙ k.there) in
    let none = c.in_default.is in
    absurd cc

pub returns-clause-stands : goal.returns-clause-stands
returns-clause-stands g c =
    let at = point_of g.K.Keeper.told g.K.Keeper.faults g.K.Keeper.calls in
    let safe = IsSafeDesk g.K.Keeper.told g.K.Keeper.is_clean g.K.Keeper.may_leave in
    let v = c.seat.inside.place.me.0 in
    let seats = c.word.ensures ∙ ap some (c.if-word-count.false ∙ c.seat.invariant.3) in
    let k = closes (Replays at safe) c.self.inside.table.shared.key.value _ v _ _ (ap (λ z. z.0.stage) c.seat.invariant.0) c.close_with-closed.ensures.values.2 seats in
    let held : c.take-held.result ≡ Some k.desk = some-injective _ _ (sym c.take-held.ensures.value ∙ k.there) in
    let is = c.in-Some-held.is in
    let same_desk : c.in-Some-held.desk ≡ k.desk = cc in
    subst (λ (z : HubView × SeatView). IfSome z.0.start (λ start. IsReplayOf start z.1.seen (at c.in-Some-held.desk))) (λ i. ((c.self.view_is i).view, c.seat.view_is i))
    (subst (λ d. IsReplayOf (at c.self.inside.table.shared.key.value) v.seen (at d)) (sym same_desk) k.stands.replays)

pub returns-clause-safe : goal.returns-clause-safe
returns-clause-safe g c =
    let at = point_of g.K.Keeper.told g.K.Keeper.faults g.K.Keeper.calls in
    let safe = IsSafeDesk g.K.Keeper.told g.K.Keeper.is_clean g.K.Keeper.may_leave in
    let v = c.seat.inside.place.me.0 in
    let seats = c.word.ensures ∙ ap some (c.if-word-count.false ∙ c.seat.invariant.3) in
    let k = closes (Replays at safe) c.self.inside.table.shared.key.value _ v _ _ (ap (λ z. z.0.stage) c.seat.invariant.0) c.close_with-closed.ensures.values.2 seats in
    let held : c.take-held.result ≡ Some k.desk = some-injective _ _ (sym c.take-held.ensures.value ∙ k.there) in
    let is = c.in-Some-held.is in
    let same_desk : c.in-Some-held.desk ≡ k.desk = cc in
    subst (λ z. safe z → safe c.in-Some-held.desk) (ap (λ z. z.desk) c.self.view_is)
    (λ h. subst safe (sym same_desk) (k.stands.stays h))

pub returns-clause-legal : goal.returns-clause-legal
returns-clause-legal g c =
    let at = point_of g.K.Keeper.told g.K.Keeper.faults g.K.Keeper.calls in
    let safe = IsSafeDesk g.K.Keeper.told g.K.Keeper.is_clean g.K.Keeper.may_leave in
    let v = c.seat.inside.place.me.0 in
    let seats = c.word.ensures ∙ ap some (c.if-word-count.false ∙ c.seat.invariant.3) in
    let k = closes (Replays at safe) c.self.inside.table.shared.key.value _ v _ _ (ap (λ z. z.0.stage) c.seat.invariant.0) c.close_with-closed.ensures.values.2 seats in
    subst (λ (z : HubView × SeatView). AreLegal z.0.start z.1.seen) (λ i. ((c.self.view_is i).view, c.seat.view_is i)) k.stands.replays.legal

pub returns-clause-named : goal.returns-clause-named
returns-clause-named g c =
    let at = point_of g.K.Keeper.told g.K.Keeper.faults g.K.Keeper.calls in
    let safe = IsSafeDesk g.K.Keeper.told g.K.Keeper.is_clean g.K.Keeper.may_leave in
    let v = c.seat.inside.place.me.0 in
    let seats = c.word.ensures ∙ ap some (c.if-word-count.false ∙ c.seat.invariant.3) in
    let k = closes (Replays at safe) c.self.inside.table.shared.key.value _ v _ _ (ap (λ z. z.0.stage) c.seat.invariant.0) c.close_with-closed.ensures.values.2 seats in
    subst (λ (z : SeatView). (n : ℕ) → times n z.names ≡ 0 → lines_by n z.seen ≡ []) c.seat.view_is k.named

pub returns-clause-numbered : goal.returns-clause-numbered
returns-clause-numbered g c =
    let at = point_of g.K.Keeper.told g.K.Keeper.faults g.K.Keeper.calls in
    let safe = IsSafeDesk g.K.Keeper.told g.K.Keeper.is_clean g.K.Keeper.may_leave in
    let v = c.seat.inside.place.me.0 in
    let seats = c.word.ensures ∙ ap some (c.if-word-count.false ∙ c.seat.invariant.3) in
    let k = closes (Replays at safe) c.self.inside.table.shared.key.value _ v _ _ (ap (λ z. z.0.stage) c.seat.invariant.0) c.close_with-closed.ensures.values.2 seats in
    subst (λ (z : SeatView). (n : ℕ) → times n z.names ≡ below n (length z.names)) c.seat.view_is k.numbered
