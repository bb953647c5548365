-- The steps of a turn, one after another.
use Rattle.std.proofs.Common.{◌≡◌, ℕ, ◌<◌, Option, Some, None, IsSome, List, [], ◌∷◌, ◌++◌, length, refl, sym, ap, ◌∙◌, subst}
use Rattle.atomic_table.specs.Table.{Me, rest}
use Rattle.atomic_table.specs.Seated.{TableId}
use Rattle.tailnet_desk.specs.declared.entry.Event.{Event}
use Rattle.tailnet_desk.specs.declared.reply.Reply.{Reply}
use Rattle.session_hub.specs.declared.known.Line.{Line}
use Rattle.session_hub.specs.declared.known.Stage.TheVariants.{Waits, InTurn}
use Rattle.session_hub.specs.declared.known.Known.{Known}
use Rattle.std.specs.Option.{option_map}
use Rattle.tailnet_desk.specs.Seated.{Point}
use Rattle.session_hub.specs.Lines.{AreLegal, LegalFrom, times}
use Rattle.session_hub.specs.Plays.{GetsDesk, HasDesk, MayEnter, idle, no_portion, ticket_of, with_stage}
use Rattle.session_hub.specs.Seats.{IsSeatTurn}

pub some_of : {D : Type 0} (o : Option D) → IsSome o → (d : D) × (o ≡ Some d)
some_of None p = absurd cc
some_of (Some d) p = (d, refl)

-- a seat at rest has a start
pub rests : {D : Type 0} (me : Me (Option D) (Known D)) → me ≡ (idle me.0.start me.0.seen me.0.names, []) → IsSome me.0.start → (d : D) × (me ≡ (idle (Some d) me.0.seen me.0.names, []))
rests me e p = let d = some_of me.0.start p in (d.0, e ∙ ap (λ o. (idle o me.0.seen me.0.names, [])) d.1)

-- what a seat at rest keeps
abbrev pub AtRest : {D : Type 0} → (D → Point) → Me (Option D) (Known D) → ℕ → ℕ → Type 0
AtRest at me name count =
    (me ≡ (idle me.0.start me.0.seen me.0.names, [])) × IsSome me.0.start × (0 < times name me.0.names) × (count ≡ length me.0.names)
    × AreLegal (option_map at me.0.start) me.0.seen

pub rested : {D : Type 0} (at : D → Point) (me : Me (Option D) (Known D)) (start : D) (seen : List Line) (names : List ℕ) (name count : ℕ)
    → me ≡ (idle (Some start) seen names, []) → 0 < times name names → count ≡ length names → LegalFrom (at start) seen → AtRest at me name count
rested {D} at me start seen names name count e p q legal = subst (λ (m : Me (Option D) (Known D)). AtRest at m name count) (sym e) (refl, refl, p, q, legal)

module _ {D : Type 0} (reaches : D → List Line → D → Type 0) where
  abbrev first_slot : List (ℕ × Option D) → Option D
  first_slot [] = None
  first_slot (x ∷ xs) = x.1

  pub took : (me mid after : Me (Option D) (Known D)) (x : Option D) (d : D) → GetsDesk reaches me mid → mid.1 ≡ (0, x) ∷ rest mid.1 → x ≡ Some d → after ≡ (mid.0, (0, None) ∷ rest mid.1) → HasDesk reaches me d after
  took me mid after x d g found is after_is =
      let slots : mid.1 ≡ (0, Some g.desk) ∷ me.1 = ap (λ (z : Me (Option D) (Known D)). z.1) g.after_is in
      let held : x ≡ Some g.desk = ap first_slot (sym found ∙ slots) in
      let same_desk : g.desk ≡ d = cc in
      record {
        between = g.between;
        after_is = after_is ∙ (λ i. ((g.after_is i).0, (0, None) ∷ rest (slots i)));
        others = g.others;
        stands = λ start s. subst (λ z. reaches start (me.0.seen ++ g.between) z) same_desk (g.stands start s);
      }

  -- the seat's view while it is in turn
  in_turn : (start : D) (old drawn taken : Me (Option D) (Known D)) (desk : D) (t : ℕ) → old ≡ (idle (Some start) old.0.seen old.0.names, []) → drawn ≡ (with_stage old.0 old.0.seen (Waits t), old.1)
      → (g : HasDesk reaches drawn desk taken) → taken ≡ (record { start = Some start; seen = old.0.seen ++ g.between; names = old.0.names; stage = InTurn t; left = no_portion; right = no_portion }, (0, None) ∷ [])
  in_turn start old drawn taken desk t idle_is drawn_is g = g.after_is
      ∙ ap (λ (m : Me (Option D) (Known D)). (with_stage m.0 (m.0.seen ++ g.between) (InTurn (ticket_of m.0.stage)), (0, None) ∷ m.1)) drawn_is
      ∙ ap (λ (m : Me (Option D) (Known D)). (with_stage m.0 (old.0.seen ++ g.between) (InTurn t), (0, None) ∷ m.1)) idle_is

  module _ (start : D) (old drawn taken : Me (Option D) (Known D)) (desk desk_after : D) (t : ℕ) (line : Line)
      (idle_is : old ≡ (idle (Some start) old.0.seen old.0.names, [])) (drawn_is : drawn ≡ (with_stage old.0 old.0.seen (Waits t), old.1)) (g : HasDesk reaches drawn desk taken)
      (named : 0 < times line.by old.0.names) (entry : (ls : List Line) → reaches start ls desk → reaches start (ls ++ line ∷ []) desk_after) where
    taken_is : taken ≡ (record { start = Some start; seen = old.0.seen ++ g.between; names = old.0.names; stage = InTurn t; left = no_portion; right = no_portion }, (0, None) ∷ [])
    taken_is = in_turn start old drawn taken desk t idle_is drawn_is g

    drawn_seen : drawn.0.seen ≡ old.0.seen
    drawn_seen = ap (λ (m : Me (Option D) (Known D)). m.0.seen) drawn_is

    starts : drawn.0.start ≡ Some start
    starts = ap (λ (m : Me (Option D) (Known D)). m.0.start) drawn_is ∙ ap (λ (m : Me (Option D) (Known D)). m.0.start) idle_is

    pub entry_there : reaches start ((old.0.seen ++ g.between) ++ line ∷ []) desk_after
    entry_there = entry (old.0.seen ++ g.between) (subst (λ z. reaches start (z ++ g.between) desk) drawn_seen (g.stands start starts))

    pub may_enter : MayEnter reaches taken line desk_after
    may_enter = record {
      ticket = t;
      start = start;
      stage = ap (λ (m : Me (Option D) (Known D)). m.0.stage) taken_is;
      starts = ap (λ (m : Me (Option D) (Known D)). m.0.start) taken_is;
      named = subst (λ z. 0 < times line.by z) (sym (ap (λ (m : Me (Option D) (Known D)). m.0.names) taken_is)) named;
      entry = subst (λ z. reaches start (z ++ line ∷ []) desk_after) (sym (ap (λ (m : Me (Option D) (Known D)). m.0.seen) taken_is)) entry_there;
      out = ap (λ (m : Me (Option D) (Known D)). m.1) taken_is;
    }

    -- the seat after its turn
    pub after_is : (after : Me (Option D) (Known D)) → after ≡ (idle taken.0.start (taken.0.seen ++ line ∷ []) taken.0.names, []) → after ≡ (idle (Some start) ((old.0.seen ++ g.between) ++ line ∷ []) old.0.names, [])
    after_is after e = e ∙ ap (λ (m : Me (Option D) (Known D)). (idle m.0.start (m.0.seen ++ line ∷ []) m.0.names, [])) taken_is

    pub turned : (at : D → Point) → ((ls : List Line) → reaches start ls desk_after → LegalFrom (at start) ls) → (after : Me (Option D) (Known D)) (z y : TableId) (event : Event) (reply : Reply) → after ≡ (idle taken.0.start (taken.0.seen ++ line ∷ []) taken.0.names, []) → y ≡ z → line.entry.event ≡ event → line.entry.reply ≡ reply
        → IsSeatTurn (record { hub = record { table = z; start = option_map at old.0.start }; name = line.by; names = old.0.names; seen = old.0.seen }) (record { hub = record { table = y; start = option_map at after.0.start }; name = line.by; names = after.0.names; seen = after.0.seen }) event reply
    turned at is_legal after z y event reply e same event_is reply_is =
        let a = after_is after e in
        let seen_is : after.0.seen ≡ (old.0.seen ++ g.between) ++ line ∷ [] = ap (λ (m : Me (Option D) (Known D)). m.0.seen) a in
        let start_after : after.0.start ≡ Some start = ap (λ (m : Me (Option D) (Known D)). m.0.start) a in
        let start_old : old.0.start ≡ Some start = ap (λ (m : Me (Option D) (Known D)). m.0.start) idle_is in
        let names_is : after.0.names ≡ old.0.names = ap (λ (m : Me (Option D) (Known D)). m.0.names) a in
        record {
          between = g.between;
          line = line;
          new_is = λ i. record { hub = record { table = same i; start = option_map at ((start_after ∙ sym start_old) i) }; name = line.by; names = names_is i; seen = seen_is i };
          legal = subst (λ (z : Option D × List Line). AreLegal (option_map at z.0) z.1) (λ i. (sym start_old i, sym seen_is i)) (is_legal ((old.0.seen ++ g.between) ++ line ∷ []) entry_there);
          by = refl;
          event_is = event_is;
          reply_is = reply_is;
          named = named;
          others = λ n p. g.others n (subst (λ z. 0 < times n z) (sym (ap (λ (m : Me (Option D) (Known D)). m.0.names) drawn_is)) p);
        }
