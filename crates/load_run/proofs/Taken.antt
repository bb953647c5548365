-- One request of a load: served, heard, counted, and learnt from.
use Rattle.std.proofs.Common.{◌≡◌, ◌+◌, ℕ, ℤ, Bool, true, false, Option, Some, List, [], ◌∷◌, refl, ap, sym, ◌∙◌, subst}
use Rattle.desk_front.specs.declared.front_settings.FrontSettings.{FrontSettings}
use Rattle.tailnet_desk.specs.Seated.{Point}
use Rattle.connections.specs.Tellings.{MomentsTold}
use Rattle.load_run.specs.Counting.{counted, is_busy_answer}
use Rattle.load_run.specs.Hearing.{hear_turns}
use Rattle.load_run.specs.Knowing.{with_known}
use Rattle.load_run.specs.Messages.{task_message}
use Rattle.load_run.specs.Outside as outside
use Rattle.load_run.specs.Running.{IsNextRequest, IsTaskTaken, LoadTaking}
use Rattle.load_run.specs.Served.{IsServed}
use Rattle.load_run.specs.Steps.{Begins, Stand, known_after, next_heard, next_known, next_task}
use Rattle.load_run.specs.Tasks.{moment_at, source_after}
use Rattle.load_run.specs.Watching.{IsWatchedTurn, Watched}
use Rattle.load_run.specs.declared.counts.Counts.{Counts}
use Rattle.load_run.specs.declared.heard.Heard.{Heard}
use Rattle.load_run.specs.declared.task.LoadPlan.{LoadPlan}
use Rattle.load_run.proofs.Stepping.{answered_of}
use Rattle.load_run.proofs.Watching.{desk_turns, turns_fed, turns_heard}

-- the desk and what was heard, of the parts that a request changes
abbrev pub watched_in : LoadTaking → Watched
watched_in t = record { point = t.point; heard = t.heard }

-- a request that was served, and to which memory wasn't refused
pub taken : (given : FrontSettings) (message : List ℕ) (moment : ℤ) (old new : LoadTaking) (bytes : List ℕ) (stated : ℤ) (held : Option (List ℕ)) → stated ≡ moment → held ≡ Some bytes
    → IsServed IsWatchedTurn given message stated old.words new.words held (watched_in old) (watched_in new)
    → new.heard.starved ≡ false → is_busy_answer bytes ≡ false → new.counts ≡ counted old.counts bytes → new.counts.ok + new.counts.refused ≡ old.counts.ok + old.counts.refused + 1
    → IsTaskTaken given message moment old new
taken given message moment old new bytes stated held at_moment holds served fed answered counts sum =
    let x = served.exchange in
    let told : Some bytes ≡ Some x.bytes = sym holds ∙ served.answer_is in
    let same : bytes ≡ x.bytes = cc in
    record {
      exchange = x;
      request = served.request;
      answered = answered_of given x served.is (ap is_busy_answer (sym same) ∙ answered);
      unbroken = served.unbroken;
      memory = turns_fed (watched_in old) x.turns (watched_in new) served.chain fed;
      moments = subst (λ (m : ℤ). MomentsTold (outside.still m) x.turns) at_moment served.moments;
      words = served.words;
      all_drawn = served.all_drawn;
      words_on = served.words_on;
      chain = desk_turns (watched_in old) x.turns (watched_in new) served.chain;
      heard = turns_heard (watched_in old) x.turns (watched_in new) served.chain fed;
      fed = fed;
      counts = counts ∙ ap (counted old.counts) same;
      sum = sum;
    }

-- where a load stands that heard and counted this
abbrev pub stand_with : LoadPlan → Stand → Heard → ℕ → Counts → Point → Stand
stand_with plan s heard words counts point = record {
  number = s.number + 1;
  source = source_after plan s.number s.source;
  roll = with_known s.roll (next_task plan s).machine (known_after (next_task plan s) (next_known plan s) heard);
  words = words;
  counts = counts;
  frames = heard.frames;
  point = point;
}

-- it is the next step of the load
pub stepped : (plan : LoadPlan) (given : FrontSettings) (s : Stand) (starved : Bool) (message : List ℕ) (heard : Heard) (words : ℕ) (counts : Counts) (point : Point) → starved ≡ false → message ≡ task_message (next_task plan s) (next_known plan s)
    → IsTaskTaken given message (moment_at plan s.number)
    (record { point = s.point; heard = record { handle = (next_known plan s).handle; seq = (next_known plan s).seq; frames = s.frames; starved = starved }; words = s.words; counts = s.counts })
    (record { point = point; heard = heard; words = words; counts = counts })
    → IsNextRequest plan given s (stand_with plan s heard words counts point)
stepped plan given s starved message heard words counts point fed made t =
    let x = t.exchange in
    let task = next_task plan s in
    let known = next_known plan s in
    let heard_is : heard ≡ next_heard plan s x.turns =
    t.heard ∙ ap (λ (b : Bool). hear_turns (record { handle = known.handle; seq = known.seq; frames = s.frames; starved = b }) x.turns) fed in
    record {
      exchange = x;
      step = record {
        request = subst (λ (m : List ℕ). Begins m x.request) made t.request;
        answered = t.answered;
        unbroken = t.unbroken;
        memory = t.memory;
        moments = t.moments;
        words = t.words;
        all_drawn = t.all_drawn;
        words_on = t.words_on;
        chain = t.chain;
        next = ap (λ (h : Heard). stand_with plan s h words counts point) heard_is ∙ ap (λ (c : Counts). stand_with plan s (next_heard plan s x.turns) words c point) t.counts;
      };
    }
