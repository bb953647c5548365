-- A run in whose way nothing stands ends well.
use Rattle.std.proofs.Common.{◌≡◌, ◌∙◌, ◌⊎◌, ◌||◌, ◌==◌, ◌-◌, ℕ, Bool, Option, None, Some, List, [], ◌∷◌, ◌++◌, inl, inr, refl, ap, sym, subst, arith, true, false, Ok}
use Rattle.std.specs.Prelude.{IfSome, IsSome}
use Rattle.std.specs.List.{AllByRecursion}
use Rattle.std.specs.Option.{option_or}
use Rattle.std.proofs.lemmas.Bool.Decides.{nat_tests}
use Rattle.std.proofs.lemmas.List.{append-nil}
use Rattle.std.proofs.lemmas.Bool.{cases_Bool}
use Rattle.io_edge.specs.Edge.{IsWhereTold, and_then_left}
use Rattle.net_rows.specs.declared.change.Kind.{Kind}
use Rattle.net_rows.specs.declared.rows.Rows.{Rows}
use Rattle.http_front.specs.Requests.{Leads, Splits, at_end, cut, bad}
use Rattle.http_front.specs.declared.request.Request.{Request}
use Rattle.http_front.proofs.Streams.{Leads-append, Leads_first, Splits_unique}
use Rattle.http_front.proofs.Refusals.{Splits-append_bad}
use Rattle.desk_front.specs.Wanted.{front_settings, wanted_of}
use Rattle.server_settings.specs.declared.file_settings.FileSettings.{FileSettings}
use Rattle.tail_words.specs.SettingsText.{settings_of}
use Rattle.desk_front.specs.declared.want.Wanted.{Wanted}
use Rattle.desk_front.specs.declared.want.Wanted.TheVariants as wants
use Rattle.tailnet_desk.specs.Opening.{unread_policy}
use Rattle.tailnet_desk.specs.declared.entry.Event.{Event}
use Rattle.tailnet_desk.specs.declared.reply.Reply.{Reply}
use Rattle.desk_front.specs.declared.front_settings.FrontSettings.{FrontSettings}
use Rattle.tailnet_commands.specs.Complete.{IsAccepted, IsClear, IsComplete, IsOpenable}
use Rattle.connections.specs.Exchanges.{Exchange, IsExchange, AreExchanges, IsAnswered, requests_of, end_of, ended_by}
use Rattle.tailnet_commands.specs.Pipe.{Piped}
use Rattle.tailnet_commands.specs.ToldRows.{RefusesToldRows, ServesToldRows}
use Rattle.tailnet_commands.specs.Run.{IsOpeningFault, IsUnopened}
use Rattle.exit_status.specs.Statuses.{status_of}
use Rattle.tailnet_commands.specs.Outside.{Outside}
use Rattle.connections.specs.Connection.{IsConnection, Told, IsEarly}
use Rattle.exit_status.specs.declared.closed.Closed.{Closed}
use Rattle.exit_status.specs.declared.closed.Closed.TheVariants as closed
use Rattle.exit_status.specs.declared.ended.Ended.{Ended}
use Rattle.exit_status.specs.declared.ended.Ended.TheVariants as ended
use Rattle.exit_status.specs.declared.status.Status.{Status}
use Rattle.exit_status.specs.declared.status.Status.TheVariants as status

-- an answer that leaves the connection to its request doesn't end it early
pub not_early : (close : Bool) → ended_by close ≡ Some closed.Early → ⊥
not_early true e = cc
not_early false e = cc

-- only a fault ends a connection early
pub answered_late : (given : FrontSettings) (more : ℕ) (close : Bool) (w : Wanted) (x : Exchange) → IsAccepted w → IsAnswered given more close w x.turns x.bytes x.ended x.broken
    → x.ended ≡ Some closed.Early → ⊥
answered_late given more close (wants.Ask ask) x ok a e = not_early close (sym a.4 ∙ e)
answered_late given more close (wants.Poll p) x ok a e = not_early close (sym a.1 ∙ e)
answered_late given more close (wants.Fault body) x ok a e = ok
answered_late given more close (wants.Answer status body) x ok a e = not_early close (sym a.2 ∙ e)

-- one exchange of an accepted request doesn't end its connection early
pub late_one : (given : FrontSettings) (more : ℕ) (last : Bool) (x : Exchange) → IsAccepted (wanted_of given x.request) → IsExchange given more last x → x.ended ≡ Some closed.Early → ⊥
late_one given more last x ok (inl u) e = not_early (x.request.close || last) (sym u.2 ∙ e)
late_one given more last x ok (inr a) e = answered_late given more (x.request.close || last) (wanted_of given x.request) x ok a e

pub or_early : (a b : Option Closed) → option_or a b ≡ Some closed.Early → (a ≡ Some closed.Early) ⊎ (b ≡ Some closed.Early)
or_early None b e = inr e
or_early (Some c) b e = inl e

-- accepted requests don't end a connection early
pub late : (given : FrontSettings) (further limit : ℕ) (xs : List Exchange) (more : List Request) → AllByRecursion (λ r. IsAccepted (wanted_of given r)) (requests_of xs ++ more) → AreExchanges given further limit xs → end_of xs ≡ Some closed.Early → ⊥
late given further limit [] more ok each e = cc
late given further limit (x ∷ xs) more ok each e = elim (or_early x.ended (end_of xs) e) [
  | inl h ↦ late_one given further (limit == 1) x ok.0 each.1 h
  | inr h ↦ late given further (limit - 1) xs more ok.1 each.3 h
]

-- what is left of an input that is told
pub rest_of : (old new : Option (List ℕ)) (read input : List ℕ) → old ≡ and_then_left read new → old ≡ Some input → (left : List ℕ) × (new ≡ Some left) × (input ≡ read ++ left)
rest_of old None read input e i = absurd (let h : None ≡ Some input = sym e ∙ i in cc)
rest_of old (Some left) read input e i = (left, refl, let h : Some input ≡ Some (read ++ left) = sym i ∙ e in cc)

-- bytes that are read as whole requests and the end have no cut or refused rest
pub tail_never : (rest left : List ℕ) (others : List Request) (extra : List ℕ) (told : Option (List ℕ)) → told ≡ Some left → Splits (rest ++ left) others at_end → IsEarly rest extra told → ⊥
tail_never rest left others extra told is splits (inl (tail, gone, none)) =
    let nothing : [] ≡ left = rw is at gone in
    let here : Splits rest others at_end = subst (λ b. Splits b others at_end) (ap (λ l. rest ++ l) (sym nothing) ∙ append-nil rest) splits in
    let same = Splits_unique rest others [] at_end cut here (rest, refl, tail) in
    let clash : at_end ≡ cut = same.1 in cc
tail_never rest left others extra told is splits (inr (fault, tail, answered)) =
    let same = Splits_unique (rest ++ left) others [] at_end (bad fault) splits (Splits-append_bad rest left [] fault (rest, refl, tail)) in
    let clash : at_end ≡ bad fault = same.1 in cc

-- a connection over accepted whole requests doesn't end early
pub never_early : {S : Type 0} (turn : S → Event → Reply → S → Type 0) (given : FrontSettings) (further limit : ℕ) (old new : Told) (s t : S) (input : List ℕ) (requests : List Request)
    → Leads input requests [] → AllByRecursion (λ r. IsAccepted (wanted_of given r)) requests → old.left ≡ Some input → IsConnection turn given further closed.Early limit [] old new s t → ⊥
never_early turn given further limit old new s t input requests whole ok is serves =
    let r = rest_of old.left new.left serves.read input serves.from_source is in
    let leads = subst (λ b. Leads b (requests_of serves.exchanges) (serves.rest ++ r.0)) (sym r.2) (Leads-append serves.read (requests_of serves.exchanges) serves.rest r.0 serves.bytes_read) in
    let first = Leads_first input (requests_of serves.exchanges) requests (serves.rest ++ r.0) at_end leads ([], whole, refl) in
    elim serves.ending.1 [
      | inl h ↦ late given further limit serves.exchanges first.0 (subst (λ rs. AllByRecursion (λ r. IsAccepted (wanted_of given r)) rs) first.1 ok) serves.each h
      | inr h ↦ tail_never serves.rest r.0 first.0 serves.extra new.left r.1 first.2 h.1
    ]

-- rows that are told at the end are those that were told before, and so is their damage
pub before_unopened : (kind : Kind) (id : ℕ) (before now : Option Rows) → IfSome before (λ r. IsWhereTold r now) → IsSome now → IsUnopened kind id now → IsUnopened kind id before
before_unopened kind id None now kept told damaged = tt
before_unopened kind id (Some x) None kept told damaged = absurd (cc)
before_unopened kind id (Some x) (Some y) kept told damaged = subst (λ r. unread_policy r ≡ Some (record { kind = kind; id = id })) (sym kept) damaged

-- where nothing keeps a desk from being opened, a run that served no connection lacked memory
pub starved_unopened : (e : Ended) (name : List ℕ) (seed : Option (List ℕ)) (old new : Outside) → IsOpeningFault e → Piped e name seed old new → IsOpenable name old new → status_of e ≡ status.NoMemory
starved_unopened (ended.Closed closing) name seed old new fault p c = absurd fault
starved_unopened (ended.Settings rule key) name seed old new fault p c = absurd (let broken = (rw c.file_is at p.1).1 in let kept = c.settings_are in cc)
starved_unopened ended.TooLarge name seed old new fault p c = absurd (let large = rw c.file_is at p.1 in omega (arith, large, c.small))
starved_unopened ended.FileFault name seed old new fault p c = absurd (c.no_file_fault p.1)
starved_unopened ended.KeeperFault name seed old new fault p c = absurd (c.no_keeper_fault p.2)
starved_unopened (ended.Damaged kind id) name seed old new fault p c =
    absurd (let damaged = rw c.rows_are at (before_unopened kind id old.rows new.rows p.0.rows c.rows_stay p.2) in let sound = c.opened in cc)
starved_unopened ended.NoMemory name seed old new fault p c = refl

-- the same of a run in whose way nothing stands, by how it ended
pub complete_of : (e : Ended) (name : List ℕ) (seed : Option (List ℕ)) (old new : Outside) → Piped e name seed old new → IsClear name old new → (status_of e ≡ status.Ok) ⊎ (status_of e ≡ status.NoMemory)
complete_of (ended.Closed closed.End) name seed old new p c = inl refl
complete_of (ended.Closed closed.Early) name seed old new p c = absurd (
    let told : settings_of c.openable.text ≡ Ok p.settings = (rw c.openable.file_is at p.settings_are).1 in
    let is = c.openable.settings_are in
    let same : c.openable.settings ≡ p.settings = cc in
    never_early _ (front_settings p.settings.server) _ _ _ new.told _ _ c.input c.requests c.whole
    (subst (λ (f : FileSettings). AllByRecursion (λ r. IsAccepted (wanted_of (front_settings f.server) r)) c.requests) same c.accepted) c.input_is p.talk.serves)
complete_of (ended.Closed closed.ReadFault) name seed old new p c = absurd (c.no_read_fault p.talk.serves.ending.3)
complete_of (ended.Closed closed.WriteFault) name seed old new p c = absurd (c.no_write_fault p.talk.serves.ending.1)
complete_of (ended.Closed closed.NoMemory) name seed old new p c = inr refl
complete_of (ended.Settings rule key) name seed old new p c = inr (starved_unopened (ended.Settings rule key) name seed old new tt p c.openable)
complete_of ended.TooLarge name seed old new p c = inr (starved_unopened ended.TooLarge name seed old new tt p c.openable)
complete_of ended.FileFault name seed old new p c = inr (starved_unopened ended.FileFault name seed old new tt p c.openable)
complete_of ended.KeeperFault name seed old new p c = inr (starved_unopened ended.KeeperFault name seed old new tt p c.openable)
complete_of (ended.Damaged kind id) name seed old new p c = inr (starved_unopened (ended.Damaged kind id) name seed old new tt p c.openable)
complete_of ended.NoMemory name seed old new p c = inr refl

pub complete : IsComplete
complete s name seed old new o c =
    subst (λ (x : Status). (x ≡ status.Ok) ⊎ (x ≡ status.NoMemory)) (sym o.status_is) (complete_of o.ended name seed old new o.piped c)

pub serves_told : ServesToldRows
serves_told closing name seed old new told p = p.talk.rows_told told

pub refuses_told : RefusesToldRows
refuses_told kind id name seed old new told p = before_unopened kind id old.rows new.rows p.0.rows told p.2
