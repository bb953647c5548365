-- A run of `serve` over settings.
use Rattle.std.proofs.Common.{◌≡◌, ◌≤◌, ℕ, ℤ, Bool, Option, None, Some, List, map, refl, sym, ap, ◌∙◌, subst, arith, inl, inr}
use Rattle.std.specs.Prelude.{IfSome}
use Rattle.io_edge.specs.Door.{IsToldOfEach, Opening}
use Rattle.io_edge.specs.Edge.{IsWhereTold, Rose, StillTells}
use Rattle.io_edge.specs.declared.faults.EdgeFault.{EdgeFault}
use Rattle.io_edge.specs.declared.faults.EdgeFault.TheVariants.{Failed, NoMemory}
use Rattle.net_rows.proofs.Sounds.{sound_of}
use Rattle.row_keeper.proofs.Told.{told_before}
use Rattle.server_settings.specs.declared.file_settings.FileSettings.{FileSettings}
use Rattle.tailnet_desk.specs.Opening.{opening}
use Rattle.tailnet_desk.specs.Seated.{IsInForce, Point}
use Rattle.tailnet_desk.proofs.SoundHistories.{legal_in_force, legal_sound}
use Rattle.desk_state.specs.State.{State}
use Rattle.net_rows.specs.Sound.{AreSound}
use Rattle.tailnet_laws.proofs.Following.{opening_followed}
use Rattle.desk_front.specs.Wanted.{front_settings}
use Rattle.desk_front.specs.declared.front_settings.FrontSettings.{FrontSettings}
use Rattle.session_hub.specs.Lines.{IsReplayOf, entries_of}
use Rattle.tailnet_commands.specs.Opened.{IsDeskFault, IsDeskOpened, OpenerTold}
use Rattle.tailnet_commands.specs.Pipe.{AreSettingsOf, IsUnread}
use Rattle.tailnet_commands.specs.Run.{IsOpeningFault, IsUnbegun, Untouched}
use Rattle.tailnet_commands.proofs.PipeLemmas.{ran_piped, unread_piped}
use Rattle.exit_status.specs.declared.ended.Ended.{Ended}
use Rattle.exit_status.specs.declared.ended.Ended.TheVariants as ended
use Rattle.tailnet_serve.proofs.Closing.{map_map}
use Rattle.tailnet_serve.specs.declared.serve_end.ServeEnd.{ServeEnd}
use Rattle.tailnet_serve.specs.declared.serve_end.ServeEnd.TheVariants as end
use Rattle.tailnet_commands.specs.Outside.{DoorsTold, Outside}
use Rattle.tailnet_commands.proofs.OpenedLemmas.{opener_in}
use Rattle.tailnet_serve.specs.Crews.{IsSplitDrawing}
use Rattle.tailnet_serve.specs.Serve.{IsUnserved, ServeDone, ServeRan}
use Rattle.tailnet_serve.specs.Service.{AreAskedFor, IsDeskClosed, IsDeskServed, IsEndAtDoors, IsEndWithOutfits, Service, Shift, end_of_outfits, left_drawing, limits_of}
use Rattle.tailnet_serve.specs.Visits.{Drawing}
use Rattle.tailnet_serve.specs.Works.{DoorTold}
use Rattle.tailnet_serve.specs.declared.worker.WorkLimits.{WorkLimits}

-- rows that were told stay so while an object still tells
still_rows : {A : Type 0} (a k b : Option A) → IfSome a (λ rows. IsWhereTold rows k) → StillTells k b → IfSome a (λ rows. IsWhereTold rows b)
still_rows None k b h s = tt
still_rows (Some x) k None h s = tt
still_rows (Some x) None (Some y) h s = absurd (let bad : None ≡ Some y = s in cc)
still_rows {A} (Some x) (Some z) (Some y) h s = let e : Some z ≡ Some y = s in let same : z ≡ y = cc in h ∙ same

-- a drawing that was split after the clock's first answer
pub split_after : (old : Outside) (one given : Drawing) (answers : (k : ℕ) → one.answers k ≡ (left_drawing old).answers k) (words : (k : ℕ) → one.words k ≡ old.told.giving.words k) → IsSplitDrawing one given → IsSplitDrawing (left_drawing old) given
split_after old one given answers words (tells, fresh) = (record { answers = λ k. tells.answers k ∙ answers k; words = λ k. tells.words k ∙ words k }, fresh)

module _ (settings : FileSettings) (old new : Outside) (mid : OpenerTold) (after : ℕ → Option ℤ) (p : Point) (opened : IsDeskOpened settings (opener_in old) mid old.told.giving.answers after p) where
  abbrev at_opening : Point
  at_opening = record { state = opening settings.tailnet p.state.rows opened.moment; keeping = p.keeping }

  is_opening : p ≡ at_opening
  is_opening = λ i. record { state = opened.state i; keeping = p.keeping }

  pub unserved : IsDeskClosed p mid (opener_in new) → ((k : ℕ) → new.told.giving.words k ≡ old.told.giving.words k) → IsUnserved settings old new
  unserved closed words = record {
    asked = closed.asked ∙ opened.asked;
    rows = still_rows old.rows p.keeping.told new.rows opened.kept closed.told;
    words = words;
  }

  -- the workers have served the desk
  pub service : (failed starved : Bool) (doors : DoorsTold) (word_faults : ℕ) → old.told.giving.word_faults ≤ word_faults → AreAskedFor (record { address = settings.server.listen; count = settings.tailnet.workers }) old.doors doors → old.doors.faults ≤ doors.faults
      → IsDeskServed (front_settings settings.server) (limits_of settings.server) old.doors.coming (left_drawing old) failed starved settings.tailnet.workers p mid (opener_in new) doors new.doors word_faults new.told.giving.word_faults → Service failed starved settings old new
  service failed starved doors word_faults words_later asked doors_later s =
      let m = s.manned in
      let stands : IsReplayOf p m.history s.final = subst (λ z. IfSome z (λ begin. IsReplayOf begin m.history s.final)) s.starts m.stands in
      let legal = subst (λ (z : Point). IsReplayOf z m.history s.final) is_opening stands in
      let coming = subst (λ z. IsToldOfEach z new.doors.coming) (ap (map (λ (d : DoorTold). d.coming)) m.left_is ∙ map_map (λ (w : Shift). w.door_after) (λ (d : DoorTold). d.coming) m.shifts) s.doors_left in
      let finished = subst (λ z. IsToldOfEach z new.doors.finished) (ap (map (λ (d : DoorTold). d.finished)) m.left_is ∙ map_map (λ (w : Shift). w.door_after) (λ (d : DoorTold). d.finished) m.shifts) s.doors_finished in
      let sound = sound_of p.state.rows opened.whole in
      record {
        rules = opened.rules;
        rows = p.state.rows;
        sound = sound;
        asked = s.asked ∙ opened.asked;
        rows_told = λ tells. opened.rows_told (stands.before (told_before s.final.keeping.told new.rows s.given_back tells));
        moment = opened.moment;
        moment_told = opened.moment_told;
        keeping = p.keeping;
        final = s.final;
        history = m.history;
        legal = legal;
        followed = opening_followed settings.tailnet p.state.rows opened.moment p.keeping.faults (entries_of m.history) opened.rules opened.whole legal.legal;
        shifts = m.shifts;
        number = m.number;
        shared = m.shared;
        failed_is = m.failed_is;
        starved_is = m.starved_is;
        doors_asked = s.doors_asked ∙ asked;
        doors_left = coming;
        doors_finished = finished;
        doors_rose = λ f. omega (arith, s.doors_later f, doors_later);
        words_rose = omega (arith, m.words_rose, words_later);
        in_force = subst (λ (z : State). IsInForce z.rows z.policy) (sym legal.state) (legal_in_force (opening settings.tailnet p.state.rows opened.moment) p.keeping.faults (entries_of m.history) opened.rules opened.whole refl legal.legal);
        final_sound = subst (λ (z : State). AreSound z.rows) (sym legal.state) (legal_sound (opening settings.tailnet p.state.rows opened.moment) p.keeping.faults (entries_of m.history) opened.rules sound legal.legal);
        final_rows = s.rows;
        rose = omega (arith, s.rose, opened.later);
      }

-- ---- the command

-- a run over the file's settings
pub ran_done : (e : ServeEnd) (name : List ℕ) (settings : FileSettings) (old new : Outside) → AreSettingsOf (old.files name) settings → ServeRan e settings old new → ServeDone e name old new
ran_done (end.Unopened e) name settings old new are (fault, ran, doors) = (fault, ran_piped name None old new e settings are ran, doors)
ran_done end.EntropyFault name settings old new are ran = record { settings = settings; settings_are = are; ran = ran }
ran_done end.DoorFault name settings old new are ran = record { settings = settings; settings_are = are; ran = ran }
ran_done end.NoMemory name settings old new are ran = record { settings = settings; settings_are = are; ran = ran }
ran_done (end.Served failed starved) name settings old new are ran = record { settings = settings; settings_are = are; ran = ran }

unread_fault : (e : Ended) (file : Option (Option (List ℕ))) (before now : ℕ) → IsUnread e file before now → IsOpeningFault e
unread_fault (ended.Settings rule key) file before now u = tt
unread_fault ended.TooLarge file before now u = tt
unread_fault ended.FileFault file before now u = tt
unread_fault ended.NoMemory file before now u = tt
unread_fault (ended.Closed closing) file before now u = absurd u
unread_fault ended.KeeperFault file before now u = absurd u
unread_fault (ended.Damaged kind id) file before now u = absurd u

-- no settings, and nothing else was done
pub unread_done : (e : Ended) (name : List ℕ) (old new : Outside) → IsUnread e (old.files name) old.file_faults new.file_faults → Untouched old new → IsUnbegun old new → new.doors ≡ old.doors → ServeDone (end.Unopened e) name old new
unread_done e name old new u quiet unbegun doors =
    (unread_fault e (old.files name) old.file_faults new.file_faults u, unread_piped name None old new e u quiet unbegun, doors)

-- a desk that didn't open is a fault
pub desk_fault : (e : Ended) (settings : FileSettings) (old new : OpenerTold) → IsDeskFault e settings old new → IsOpeningFault e
desk_fault ended.KeeperFault settings old new f = tt
desk_fault (ended.Damaged kind id) settings old new f = tt
desk_fault ended.NoMemory settings old new f = tt
desk_fault (ended.Closed closing) settings old new f = absurd f
desk_fault (ended.Settings rule key) settings old new f = absurd f
desk_fault ended.TooLarge settings old new f = absurd f
desk_fault ended.FileFault settings old new f = absurd f

-- what came of serving with outfits, as a run
pub served_ran : (e : ServeEnd) (settings : FileSettings) (old new : Outside) (mid : OpenerTold) (after : ℕ → Option ℤ) (p : Point) (word_faults : ℕ) → IsDeskOpened settings (opener_in old) mid old.told.giving.answers after p
    → old.told.giving.word_faults ≤ word_faults → ((k : ℕ) → new.told.giving.words k ≡ old.told.giving.words k)
    → IsEndWithOutfits e (record { address = settings.server.listen; count = settings.tailnet.workers }) (front_settings settings.server) (limits_of settings.server) (left_drawing old) p mid (opener_in new) old.doors new.doors word_faults new.told.giving.word_faults
    → ServeRan e settings old new
served_ran (end.Unopened e) settings old new mid after p word_faults opened later words h = absurd h
served_ran end.EntropyFault settings old new mid after p word_faults opened later words h = absurd h
served_ran end.DoorFault settings old new mid after p word_faults opened later words (closed, asked, rose) = (unserved settings old new mid after p opened closed words, asked, rose)
served_ran end.NoMemory settings old new mid after p word_faults opened later words (closed, either) = (unserved settings old new mid after p opened closed words, either)
served_ran (end.Served failed starved) settings old new mid after p word_faults opened later words (doors, asked, doors_later, served) =
    service settings old new mid after p opened failed starved doors word_faults later asked doors_later served

-- no outfits: the desk was closed again
pub outfits_ran : (f : EdgeFault) (settings : FileSettings) (old new : Outside) (mid : OpenerTold) (after : ℕ → Option ℤ) (p : Point) → IsDeskOpened settings (opener_in old) mid old.told.giving.answers after p → IsDeskClosed p mid (opener_in new)
    → ((k : ℕ) → new.told.giving.words k ≡ old.told.giving.words k) → new.doors ≡ old.doors → (f ≡ Failed → Rose old.told.giving.word_faults new.told.giving.word_faults) → ServeRan (end_of_outfits f) settings old new
outfits_ran Failed settings old new mid after p opened closed words doors rose = (unserved settings old new mid after p opened closed words, doors, rose refl)
outfits_ran NoMemory settings old new mid after p opened closed words doors rose =
    (unserved settings old new mid after p opened closed words, inl (ap (λ (d : DoorsTold). d.asked) doors))

-- what came of serving at doors that were opened for this
pub served_at : (e : ServeEnd) (wanted : Opening) (given : FrontSettings) (limits : WorkLimits) (start : Drawing) (p : Point) (opener opener_after : OpenerTold) (doors opened doors_after : DoorsTold) (workers before after : ℕ) → workers ≡ wanted.count
    → AreAskedFor wanted doors opened → doors.faults ≤ opened.faults → IsEndAtDoors e given limits doors.coming start workers p opener opener_after opened doors_after before after
    → IsEndWithOutfits e wanted given limits start p opener opener_after doors doors_after before after
served_at (end.Unopened e) wanted given limits start p opener opener_after doors opened doors_after workers before after number asked later h = absurd h
served_at end.EntropyFault wanted given limits start p opener opener_after doors opened doors_after workers before after number asked later h = absurd h
served_at end.DoorFault wanted given limits start p opener opener_after doors opened doors_after workers before after number asked later h = absurd h
served_at end.NoMemory wanted given limits start p opener opener_after doors opened doors_after workers before after number asked later (closed, same) = (closed, inr (same ∙ asked))
served_at (end.Served failed starved) wanted given limits start p opener opener_after doors opened doors_after workers before after number asked later served =
    (opened, asked, later, subst (λ n. IsDeskServed given limits doors.coming start failed starved n p opener opener_after opened doors_after before after) number served)
