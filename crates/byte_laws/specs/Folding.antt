-- What a client folds of the bytes that it reads.
use Rattle.std.specs.Prelude.{◌≡◌, ℕ, Bool, false, List, [], ◌∷◌, ◌++◌, map, Option}
use Rattle.std.specs.List.{AllByRecursion}
use Rattle.tailcfg.specs.declared.response.Response.{Response}
use Rattle.fresh_maps.specs.Frames.{frame_of}
use Rattle.fresh_maps.specs.declared.view.View.{View}
use Rattle.map_delta.specs.Fold.{fold_all}
use Rattle.http_front.specs.Streams.{stream_of}
use Rattle.wire_laws.specs.Frames.{AreFramed}
use Rattle.tailnet_desk.specs.Chains.{Turned, turned_of}
use Rattle.tailnet_desk.specs.declared.entry.Entry.{Entry}
use Rattle.tailnet_desk.specs.declared.reply.Reply.{Reply}
use Rattle.tailnet_desk.specs.declared.reply.Reply.TheVariants.{Attached, Detached, Done, Ended, Frames, Lost, Refused}
use Rattle.tailnet_laws.specs.Followed.{views_at}
use Rattle.desk_front.specs.Wanted.{wanted_of}
use Rattle.desk_front.specs.declared.front_settings.FrontSettings.{FrontSettings}
use Rattle.desk_front.specs.declared.poll.Poll.{Poll}
use Rattle.desk_front.specs.declared.want.Wanted.TheVariants as wants
use Rattle.connections.specs.Carried.{greetings}
use Rattle.connections.specs.Exchanges.{Exchange, IsExchange}
use Rattle.byte_laws.specs.Answers.{IsStreamed}
use Rattle.byte_laws.specs.Orderly.{IsTurnOrderly}

-- the poll is attached under this handle, and its session goes on or begins
abbrev pub IsAttachedAs : List ℕ → Bool → Reply → Type 0
IsAttachedAs handle resumed (Done answer) = ⊥
IsAttachedAs handle resumed (Attached other seq again may_wait) = (other ≡ handle) × (again ≡ resumed)
IsAttachedAs handle resumed (Frames responses) = ⊥
IsAttachedAs handle resumed Ended = ⊥
IsAttachedAs handle resumed Detached = ⊥
IsAttachedAs handle resumed (Refused refusal) = ⊥
IsAttachedAs handle resumed (Lost loss) = ⊥

abbrev pub BeginsUnder : List ℕ → Bool → List Turned → Type 0
BeginsUnder handle resumed [] = ⊥
BeginsUnder handle resumed (attach ∷ later) = IsAttachedAs handle resumed attach.reply

-- What the client of a handle has after the entries of a poll, as laws on histories say it, is what it had before, with
-- the responses folded that it reads of the poll's bytes behind the greeting, if there is one.
abbrev pub ClientsFoldWhatTheyRead : Type 0
ClientsFoldWhatTheyRead = (given : FrontSettings) (more : ℕ) (last : Bool) (x : Exchange) (p : Poll) (handle : List ℕ) (resumed : Bool) (es : List Entry) (views : List ℕ → Option View) (read : List Response)
    → IsExchange given more last x → AllByRecursion IsTurnOrderly x.turns → wanted_of given x.request ≡ wants.Poll p → x.broken ≡ false → IsStreamed x.turns
    → BeginsUnder handle resumed x.turns → map turned_of es ≡ x.turns
    → AreFramed (greetings handle resumed ++ read) → x.bytes ≡ stream_of (map frame_of (greetings handle resumed ++ read))
    → views_at views es handle ≡ fold_all (views handle) read
