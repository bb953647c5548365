-- The same connection, seen otherwise.
use Rattle.std.proofs.Common.{◌≡◌, ◌+◌, ℕ, ℤ, Option, List, length, ◌∙◌}
use Rattle.tailnet_desk.proofs.Histories.{Chain-map}
use Rattle.tailnet_desk.specs.declared.entry.Event.{Event}
use Rattle.tailnet_desk.specs.declared.reply.Reply.{Reply}
use Rattle.desk_front.specs.declared.front_settings.FrontSettings.{FrontSettings}
use Rattle.connections.specs.Exchanges.{turns_of}
use Rattle.connections.specs.Connection.{IsConnection, Told, Ends}
use Rattle.connections.specs.Tellings.{TurnsTook}
use Rattle.connections.proofs.Tellings.{same_moments}
use Rattle.exit_status.specs.declared.closed.Closed.{Closed}
use Rattle.exit_status.specs.declared.closed.Closed.TheVariants.{End, Early, ReadFault, WriteFault, NoMemory}

abbrev pub with_answers : Told → (ℕ → Option ℤ) → Told
with_answers t f = record { left = t.left; read_faults = t.read_faults; giving = record { held = t.giving.held; write_faults = t.giving.write_faults; answers = f; words = t.giving.words; word_faults = t.giving.word_faults } }

pub ends_from : (closed : Closed) (xs : _) (rest extra written : List ℕ) (mid new : Told) (f : ℕ → Option ℤ) → Ends closed xs rest extra written mid new → Ends closed xs rest extra written (with_answers mid f) new
ends_from End xs rest extra written mid new f e = e
ends_from Early xs rest extra written mid new f e = e
ends_from ReadFault xs rest extra written mid new f e = e
ends_from WriteFault xs rest extra written mid new f e = e
ends_from NoMemory xs rest extra written mid new f e = e

-- the same answers of the clock, told otherwise
abbrev pub serves_from : {S : Type 0} (turn : S → Event → Reply → S → Type 0) (given : FrontSettings) (more : ℕ) (closed : Closed) (limit : ℕ) (held : List ℕ) (mid new : Told) (s t : S) (f : ℕ → Option ℤ) → ((k : ℕ) → mid.giving.answers k ≡ f k) → IsConnection turn given more closed limit held mid new s t
    → IsConnection turn given more closed limit held (with_answers mid f) new s t
serves_from turn given more closed limit held mid new s t f same serves =
    let ts = turns_of serves.exchanges in
    record {
      exchanges = serves.exchanges;
      read = serves.read;
      rest = serves.rest;
      extra = serves.extra;
      written = serves.written;
      from_source = serves.from_source;
      bytes_read = serves.bytes_read;
      each = serves.each;
      chain = serves.chain;
      took = record { moments = same_moments mid.giving.answers f ts same serves.took.moments; clock = λ k. serves.took.clock k ∙ same (k + length ts); words = serves.took.words; entropy = serves.took.entropy; word_faults = serves.took.word_faults };
      extra_is = serves.extra_is;
      front = serves.front;
      to_sink = serves.to_sink;
      reads_later = serves.reads_later;
      writes_later = serves.writes_later;
      ending = ends_from closed serves.exchanges serves.rest serves.extra serves.written mid new f serves.ending;
    }

-- the same connection, its turns seen otherwise
pub serves_map : {S R : Type 0} (turn : S → Event → Reply → S → Type 0) (turn' : R → Event → Reply → R → Type 0) (given : FrontSettings) (more : ℕ) (f : S → R) → ((s : S) (e : Event) (reply : Reply) (t : S) → turn s e reply t → turn' (f s) e reply (f t))
    → (closed : Closed) (limit : ℕ) (held : List ℕ) (old new : Told) (s t : S) → IsConnection turn given more closed limit held old new s t → IsConnection turn' given more closed limit held old new (f s) (f t)
serves_map turn turn' given more f each closed limit held old new s t serves = record {
  exchanges = serves.exchanges;
  read = serves.read;
  rest = serves.rest;
  extra = serves.extra;
  written = serves.written;
  from_source = serves.from_source;
  bytes_read = serves.bytes_read;
  each = serves.each;
  chain = Chain-map turn turn' f each s (turns_of serves.exchanges) t serves.chain;
  took = serves.took;
  extra_is = serves.extra_is;
  front = serves.front;
  to_sink = serves.to_sink;
  reads_later = serves.reads_later;
  writes_later = serves.writes_later;
  ending = serves.ending;
}
