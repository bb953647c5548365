-- Chains of turns, and the legal histories that they are.
use Rattle.std.proofs.Common.{List, [], ◌∷◌, ◌++◌, IsSome, refl, ap, sym, ◌∙◌, subst}
use Rattle.desk_state.specs.State.{State}
use Rattle.row_keeper.specs.Before.{ToldBefore}
use Rattle.tailnet_desk.specs.History.{Legal, replay}
use Rattle.tailnet_desk.specs.Chains.{Turned, Chain, IsHistory}
use Rattle.tailnet_desk.specs.Seated.{Point}
use Rattle.tailnet_desk.specs.Turns.{IsTurn}
use Rattle.tailnet_desk.specs.declared.entry.Event.{Event}
use Rattle.tailnet_desk.specs.declared.entry.Entry.{Entry}
use Rattle.tailnet_desk.specs.declared.reply.Reply.{Reply}

pub Chain-append : {S : Type 0} (turn : S → Event → Reply → S → Type 0) (s : S) (xs ys : List Turned) (m t : S) → Chain turn s xs m → Chain turn m ys t → Chain turn s (xs ++ ys) t
Chain-append {S} turn s [] ys m t p q = subst (λ (u : S). Chain turn u ys t) (sym p) q
Chain-append turn s (x ∷ xs) ys m t p q = (p.0, p.1, Chain-append turn p.0 xs ys m t p.2 q)

-- a chain seen otherwise
pub Chain-map : {S R : Type 0} (turn : S → Event → Reply → S → Type 0) (turn' : R → Event → Reply → R → Type 0) (f : S → R)
    → ((s : S) (e : Event) (reply : Reply) (t : S) → turn s e reply t → turn' (f s) e reply (f t))
    → (s : S) (xs : List Turned) (t : S) → Chain turn s xs t → Chain turn' (f s) xs (f t)
Chain-map turn turn' f each s [] t p = ap f p
Chain-map turn turn' f each s (x ∷ xs) t p = (f p.0, each s x.event x.reply p.0 p.1, Chain-map turn turn' f each p.0 xs t p.2)

-- calls one after another are a legal history
pub history_of : (p : Point) (xs : List Turned) (q : Point) → Chain IsTurn p xs q → IsHistory p xs q
history_of p [] q c = record {
  entries = [];
  turns_are = refl;
  legal = tt;
  state = ap (λ (r : Point). r.state) (sym c);
  count = ap (λ (r : Point). r.keeping.faults) (sym c);
}
history_of p (x ∷ xs) q c =
    let m = c.0 in
    let call = c.1.call in
    let rest = history_of m xs q c.2 in
    let entry : Entry = record { event = x.event; reply = x.reply; before = p.keeping.faults; after = m.keeping.faults } in
    record {
      entries = entry ∷ rest.entries;
      turns_are = ap (λ ts. x ∷ ts) rest.turns_are;
      legal = (refl, call.short, call.reply_is, call.later, subst (λ (s : State). Legal s m.keeping.faults rest.entries) call.state rest.legal);
      state = rest.state ∙ ap (λ s. replay s rest.entries) call.state;
      count = rest.count;
    }

-- where rows are told after the last turn, they were told before the first
pub told_before_turns : (p : Point) (xs : List Turned) (q : Point) → Chain IsTurn p xs q → ToldBefore p.keeping.told q.keeping.told
told_before_turns p [] q c tells = subst (λ (r : Point). IsSome r.keeping.told) (sym c) tells
told_before_turns p (x ∷ xs) q c tells = c.1.before (told_before_turns c.0 xs q c.2 tells)
