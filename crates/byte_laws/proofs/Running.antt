-- What answers tell, on connections and in runs.
use Rattle.std.proofs.Common.{◌≡◌, ◌==◌, ◌-◌, ◌+◌, ℕ, List, [], ◌∷◌, ◌++◌, map, Option, sym, subst, inl, inr}
use Rattle.std.specs.Prelude.{Contains}
use Rattle.std.specs.List.{AllByRecursion, flat_map}
use Rattle.settings.specs.Settings.{AreSettings}
use Rattle.net_rows.specs.Sound.{AreSound}
use Rattle.net_rows.proofs.Members.{cut_member, no_member}
use Rattle.desk_state.specs.State.{State}
use Rattle.tailnet_desk.specs.Chains.{IsHistory, Turned, turned_of}
use Rattle.tailnet_desk.specs.History.{Legal}
use Rattle.tailnet_desk.specs.Opening.{opening}
use Rattle.tailnet_desk.specs.Seated.{Point}
use Rattle.tailnet_desk.specs.declared.entry.Entry.{Entry}
use Rattle.tailnet_desk.proofs.Histories.{history_of}
use Rattle.session_hub.specs.declared.known.Line.{Line}
use Rattle.session_hub.specs.Lines.{AreLegal, LegalFrom, entries_of, lines_by}
use Rattle.desk_front.specs.Wanted.{front_settings}
use Rattle.desk_front.specs.declared.front_settings.FrontSettings.{FrontSettings}
use Rattle.connections.specs.Exchanges.{AreExchanges, Exchange, turns_of}
use Rattle.tailnet_serve.specs.Runs.{turns_by}
use Rattle.tailnet_serve.specs.Service.{AreShifts, Shift, limits_of}
use Rattle.tailnet_serve.specs.Visits.{Visit}
use Rattle.tailnet_serve.specs.declared.worker.WorkLimits.{WorkLimits}
use Rattle.tailnet_serve.proofs.SeatRuns.{run_chain}
use Rattle.byte_laws.specs.Orderly.{IsReplyOrderly, IsTurnOrderly}
use Rattle.byte_laws.specs.Runs.{AreAnswersReadBack, DeskIsReadBack, PipeIsReadBack, SeatIsReadBack, ServeIsReadBack}
use Rattle.byte_laws.proofs.Lists.{all_behind, all_filter, all_front, all_map, all_mapped, all_part}
use Rattle.byte_laws.proofs.Orders.{legal_orderly}
use Rattle.byte_laws.proofs.Reading.{answer_read_back}

-- ---- exchanges whose turns are in order

pub exchanges_read_back : (given : FrontSettings) (more limit : ℕ) (xs : List Exchange) → AreExchanges given more limit xs → AllByRecursion IsTurnOrderly (turns_of xs) → AreAnswersReadBack given xs
exchanges_read_back given more limit [] each orderly = tt
exchanges_read_back given more limit (x ∷ xs) each orderly = (
  answer_read_back given more (limit == 1) x each.1 (all_front IsTurnOrderly x.turns (turns_of xs) orderly),
  exchanges_read_back given more (limit - 1) xs each.3 (all_behind IsTurnOrderly x.turns (turns_of xs) orderly),
)

-- ---- histories

-- the turns of a legal history
turns_orderly : (s : State) (count : ℕ) (es : List Entry) → AreSettings s.settings → AreSound s.rows → Legal s count es → AllByRecursion IsTurnOrderly (map turned_of es)
turns_orderly s count es hold sound legal = all_map IsTurnOrderly turned_of es (legal_orderly s count es hold sound legal)

history_orderly : (p q : Point) (turns : List Turned) → AreSettings p.state.settings → AreSound p.state.rows → IsHistory p turns q → AllByRecursion IsTurnOrderly turns
history_orderly p q turns hold sound h =
    subst (AllByRecursion IsTurnOrderly) h.turns_are (turns_orderly p.state p.keeping.faults h.entries hold sound h.legal)

-- those under a name
named_orderly : (start : Point) (lines : List Line) (name : ℕ) → AreSettings start.state.settings → AreSound start.state.rows → LegalFrom start lines
    → AllByRecursion IsTurnOrderly (turns_by name lines)
named_orderly start lines name hold sound legal =
    let own = λ (l : Line). IsReplyOrderly l.entry.event l.entry.reply in
    let each : AllByRecursion own lines = all_mapped (λ (e : Entry). IsReplyOrderly e.event e.reply) (λ (l : Line). l.entry) lines
    (legal_orderly start.state start.keeping.faults (entries_of lines) hold sound legal) in
    all_map IsTurnOrderly (λ (l : Line). turned_of l.entry) (lines_by name lines) (all_filter own (λ (l : Line). l.by == name) lines each)

-- ---- connections

pub desk_read_back : DeskIsReadBack
desk_read_back given more limit held closed before after p q talk sound =
    exchanges_read_back given more limit talk.exchanges talk.each
    (history_orderly p q (turns_of talk.exchanges) sound.settings sound.rows (history_of p (turns_of talk.exchanges) q talk.chain))

pub seat_read_back : SeatIsReadBack
seat_read_back given more limit held closed before after old new start talk starts legal sound =
    let turns = turns_of talk.exchanges in
    let run = run_chain old turns new talk.chain in
    let seen : LegalFrom start new.seen = subst (λ s. AreLegal s new.seen) starts (run.legal (subst (λ s. AreLegal s old.seen) (sym starts) legal)) in
    let all : AllByRecursion IsTurnOrderly (turns_by old.name old.seen ++ turns) =
    subst (AllByRecursion IsTurnOrderly) run.own (named_orderly start new.seen old.name sound.settings sound.rows seen) in
    exchanges_read_back given more limit talk.exchanges talk.each (all_behind IsTurnOrderly (turns_by old.name old.seen) turns all)

-- ---- runs

pub pipe_read_back : PipeIsReadBack
pipe_read_back closing settings seed old new run =
    let start : Point = record { state = opening settings.tailnet run.rows run.moment; keeping = run.keeping } in
    let turns = turns_of run.serves.exchanges in
    exchanges_read_back (front_settings settings.server) 0 settings.server.requests run.serves.exchanges run.serves.each
    (all_behind IsTurnOrderly run.seeding turns (history_orderly start run.final (run.seeding ++ turns) run.rules run.sound run.history))

-- one of the shifts is as each
shift_of : (given : FrontSettings) (limits : WorkLimits) (told : Option (List (List (List ℕ)))) (start : _) (history : List Line) (place : ℕ) (ws : List Shift) (w : Shift)
    → AreShifts given limits told start history place ws → Contains ws w → turns_by w.name history ≡ flat_map (λ (v : Visit). v.turns) w.visits
shift_of given limits told start history place [] w each inside = absurd (no_member w inside)
shift_of given limits told start history place (u ∷ us) w each inside =
    elim (cut_member u us w inside) [
      | inl e ↦ rw e each.0.own
      | inr rest ↦ shift_of given limits told start history (place + 1) us w each.1 rest
    ]

pub serve_read_back : ServeIsReadBack
serve_read_back failed starved settings old new run w w_inside v v_inside visit =
    let start : Point = record { state = opening settings.tailnet run.rows run.moment; keeping = run.keeping } in
    let own = shift_of (front_settings settings.server) (limits_of settings.server) _ _ run.history 0 run.shifts w run.shared.each w_inside in
    let all : AllByRecursion IsTurnOrderly (flat_map (λ (v : Visit). v.turns) w.visits) =
    subst (AllByRecursion IsTurnOrderly) own (named_orderly start run.history w.name run.rules run.sound run.legal.legal) in
    let mine : AllByRecursion IsTurnOrderly v.turns = all_part IsTurnOrderly (λ (u : Visit). u.turns) w.visits v all v_inside in
    exchanges_read_back (front_settings settings.server) settings.server.poll_turns settings.server.requests visit.serves.exchanges visit.serves.each
    (subst (AllByRecursion IsTurnOrderly) visit.turns_are mine)
