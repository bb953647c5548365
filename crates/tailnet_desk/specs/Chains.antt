-- Events and their replies, one after another.
use Rattle.std.specs.Prelude.{◌≡◌, List, [], ◌∷◌, map}
use Rattle.tailnet_desk.specs.History.{Legal, replay, count_at_end}
use Rattle.tailnet_desk.specs.Seated.{Point}
use Rattle.tailnet_desk.specs.declared.entry.Event.{Event}
use Rattle.tailnet_desk.specs.declared.entry.Entry.{Entry}
use Rattle.tailnet_desk.specs.declared.reply.Reply.{Reply}

-- an event and its reply
pub record Turned : Type 0 where
  pub event : Event
  pub reply : Reply

-- these turns lead from one to the other, each by that relation
abbrev pub Chain : {S : Type 0} → (S → Event → Reply → S → Type 0) → S → List Turned → S → Type 0
Chain turn s [] t = s ≡ t
Chain {S} turn s (x ∷ xs) t = (m : S) × turn s x.event x.reply m × Chain turn m xs t

abbrev pub turned_of : Entry → Turned
turned_of entry = record { event = entry.event; reply = entry.reply }

-- A legal history of these turns leads from one to the other.
pub record IsHistory (p : Point) (turns : List Turned) (q : Point) : Type 0 where
  pub entries : List Entry
  pub turns_are : map turned_of entries ≡ turns
  pub legal : Legal p.state p.keeping.faults entries
  pub state : q.state ≡ replay p.state entries
  pub count : q.keeping.faults ≡ count_at_end p.keeping.faults entries
