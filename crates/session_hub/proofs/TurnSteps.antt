-- Each step of a turn keeps the rule.
use Rattle.std.proofs.Common.{◌≡◌, ◌≢◌, ℕ, zero, suc, ◌+◌, ◌%◌, ◌^◌, ◌<◌, ◌==◌, Option, Some, None, List, [], ◌∷◌, ◌++◌, length, set, slice_index, slice_set, refl, sym, ap, ◌∙◌, subst, arith, append_assoc, length-append}
use Rattle.std.proofs.lemmas.List.{append-nil}
use mathlib.Core.Option.{some, none, some-injective, some-ne-none}
use mathlib.Core.Logic.{dite}
use native.Mathlib.Decide.{ℕ_discrete}
use prog.Atomic.{either}
use lib.ListN.{get_elem?}
use Rattle.atomic_table.specs.Table.{State as Table, Me, step, Act, keeps, takes, gives, Allows, Valid, stepped, carried_after, opening}
use Rattle.atomic_table.proofs.Lists.{set_again, set_else, exchanged}
use Rattle.session_hub.specs.declared.known.Line.{Line}
use Rattle.session_hub.specs.declared.known.Stage.{Stage}
use Rattle.session_hub.specs.declared.known.Stage.TheVariants.{Idle, Waits, InTurn}
use Rattle.session_hub.specs.declared.known.Portion.{Portion}
use Rattle.session_hub.specs.declared.known.Known.{Known}
use Rattle.session_hub.specs.Lines.{equals, lines_by, times}
use Rattle.session_hub.specs.Rule.{Fits, FitsPortion, FitsStage, HubHolds, IsHome, below, holds_ticket, total}
use Rattle.session_hub.specs.Plays.{DrawsTicket, EntersLine, FindsTurn, first_seat, idle, no_portion, ticket_of, with_stage}
use Rattle.session_hub.proofs.Counting.{total_one, total_two, same_here, same_else, below_yes, below_no, below_one, below_more, below_suc}
use Rattle.session_hub.proofs.Histories.{lines_by_snoc, between_none}
use Rattle.session_hub.proofs.Changes.{changed}

pub still_there : {A : Type 0} (l : List A) (i : ℕ) (a b : A) → get_elem? l i ≡ some a → get_elem? (set l i b) i ≡ some b
still_there [] i a b e = absurd (some-ne-none a (sym e))
still_there (x ∷ xs) zero a b e = refl
still_there (x ∷ xs) (suc i) a b e = still_there xs i a b e

pub set_index : (l : List ℕ) (i : ℕ) → set l i (slice_index l i) ≡ l
set_index [] i = refl
set_index (x ∷ xs) zero = refl
set_index (x ∷ xs) (suc i) = ap (λ z. x ∷ z) (set_index xs i)

pub no_portion_fits : (log : List Line) (names : List ℕ) → FitsPortion log names no_portion
no_portion_fits log names = record { begins = (log, refl); own = λ n p. absurd (omega arith); within = λ n p. absurd (omega arith) }

module _ {D : Type 0} (reaches : D → List Line → D → Type 0) (start : D) where
  -- a step of a seat that is not in turn leaves the slot as it is
  pub home_same : (log : List Line) (views : List (Known D)) (id : ℕ) (v w : Known D) → get_elem? views id ≡ some v → ((t : ℕ) → v.stage ≡ InTurn t → w.stage ≡ InTurn t)
      → (h : mathlib.Core.Option.Option (Option D)) → IsHome reaches start log views h → IsHome reaches start log (set views id w) h
  home_same log views id v w here turn none (j, u, t, there, is) = dite (ℕ_discrete j id)
      (λ e. let same_view : v ≡ u = some-injective v u (sym here ∙ ap (get_elem? views) (sym e) ∙ there) in
      (id, w, t, still_there views id v w here, turn t (ap (λ (z : Known D). z.stage) same_view ∙ is)))
      (λ ne. (j, u, t, set_else views id j w ne ∙ there, is))
  home_same log views id v w here turn (some None) h = h
  home_same log views id v w here turn (some (Some d)) h = h

  pub unchanged : (s : Table (Option D) (Known D)) → HubHolds reaches start s → (id : ℕ) (v : Known D) (i : ℕ) → get_elem? s.views id ≡ some v
      → HubHolds reaches start (record { words = slice_set s.words i (slice_index s.words i); homes = s.homes; views = slice_set s.views id v })
  unchanged s k id v i here = subst (λ (z : List ℕ × List (Known D)). HubHolds reaches start (record { words = z.0; homes = s.homes; views = z.1 })) (λ j. (sym (set_index s.words i) j, sym (set_again s.views id v here) j)) k

  pub draws : (id slots : ℕ) (me : Me (Option D) (Known D)) (old : ℕ) → me.0.stage ≡ Idle → 0 < length me.0.names → old < 2 ^ 63
      → Allows (HubHolds reaches start) slots id me 1 (λ n. either (n == old) (old + 1) n) (DrawsTicket (step slots 1 old (old + 1) none) me)
  draws id slots me old is_idle named small s k len here fits =
      let n : ℕ = slice_index s.words 1 in
      let n_is : n ≡ k.ticket = ap (λ (ws : List ℕ). slice_index ws 1) k.words in
      exchanged n old (old + 1)
      (λ m. (w : Known D) × (a : Act (Option D)) × Valid s.homes me.1 a × HubHolds reaches start (stepped s 1 m id me.1 w a) × DrawsTicket (step slots 1 old (old + 1) none) me n (w, carried_after me.1 a))
      (λ e.
      let f = k.fits id me.0 here in
      let w : Known D = with_stage me.0 me.0.seen (Waits n) in
      let old_is : k.ticket ≡ old = sym n_is ∙ e in (
        w,
        keeps,
        tt,
        changed reaches start s k id me.0 w here (slice_set s.words 1 (old + 1)) s.homes k.history (old + 1) k.seats
            (ap (λ (ws : List ℕ). slice_set ws 1 (old + 1)) k.words)
            (let a = k.ahead in omega arith) (omega arith) k.seats_small k.named
            (λ j u ne there. k.fits j u there)
            (record { started = f.started; seen = f.seen; own = f.own; stage = named; left = f.left; right = f.right })
            (λ t. let a : holds_ticket t me.0.stage ≡ 0 = ap (holds_ticket t) is_idle in let b = below_suc t old in let c : below t k.ticket ≡ below t old = ap (below t) old_is in let d : equals t n ≡ equals t old = ap (equals t) e in omega arith)
            (λ x. refl) refl
            (k.homes.0, k.homes.1, home_same k.history s.views id me.0 w here (λ t turn. absurd cc) k.homes.0 k.homes.2),
        ((λ _. refl), (λ ne. absurd (ne e))),
      ))
      (λ ne. (me.0, keeps, tt, unchanged s k id me.0 1 here, ((λ e. absurd (ne e)), (λ _. refl))))

  -- two seats don't hold one ticket
  one_holder : (s : Table (Option D) (Known D)) (k : HubHolds reaches start s) (i j : ℕ) (v u : Known D) (t : ℕ) → i ≢ j → get_elem? s.views i ≡ some v → get_elem? s.views j ≡ some u
      → holds_ticket t v.stage ≡ 1 → holds_ticket t u.stage ≡ 1 → ⊥
  one_holder s k i j v u t ne a b p q = let two = total_two (λ (x : Known D). holds_ticket t x.stage) s.views i j v u ne a b in let all = k.tickets t in let one = below_one t k.ticket in absurd (omega arith)

  turn_holds : (u : Known D) (t : ℕ) → u.stage ≡ InTurn t → holds_ticket t u.stage ≡ 1
  turn_holds u t e = ap (holds_ticket t) e ∙ same_here t

  waits_holds : (u : Known D) (t : ℕ) → u.stage ≡ Waits t → holds_ticket t u.stage ≡ 1
  waits_holds u t e = ap (holds_ticket t) e ∙ same_here t

  pub turn_fits : (log : List Line) (u : Known D) (t : ℕ) → u.stage ≡ InTurn t → FitsStage log u u.stage → (0 < length u.names) × (t ≡ length log) × (u.seen ≡ log)
  turn_fits log u t e f = subst (FitsStage log u) e f

  pub serves : (id slots : ℕ) (me : Me (Option D) (Known D)) (t : ℕ) → me.0.stage ≡ Waits t
      → Allows (HubHolds reaches start) slots id me 0 (λ n. n) (FindsTurn reaches (step slots 0 0 0 none) me)
  serves id slots me t waits s k len here fits = dite (ℕ_discrete n t)
      (λ e. in_turn e k.homes.0 k.homes.1 k.homes.2)
      (λ ne. (me.0, keeps, tt, unchanged s k id me.0 0 here, ((λ e. absurd (ne (e ∙ ap ticket_of waits))), (λ _. refl))))
    where
      n : ℕ
      n = slice_index s.words 0

      n_is : n ≡ length k.history
      n_is = ap (λ (ws : List ℕ). slice_index ws 0) k.words

      f : Fits start k.history me.0
      f = k.fits id me.0 here

      in_turn : n ≡ t → (h : mathlib.Core.Option.Option (Option D)) → s.homes ≡ h ∷ [] → IsHome reaches start k.history s.views h
          → (w : Known D) × (a : Act (Option D)) × Valid s.homes me.1 a × HubHolds reaches start (stepped s 0 n id me.1 w a) × FindsTurn reaches (step slots 0 0 0 none) me n (w, carried_after me.1 a)
      in_turn e none hs (j, u, t', there, is) =
          let fit = turn_fits k.history u t' is (k.fits j u there).stage in
          let same_ticket : t' ≡ t = fit.1 ∙ sym n_is ∙ e in
          dite (ℕ_discrete j id)
          (λ (eq : j ≡ id). let same_view : me.0 ≡ u = some-injective me.0 u (sym here ∙ ap (get_elem? s.views) (sym eq) ∙ there) in let clash : Waits t ≡ InTurn t' = sym waits ∙ ap (λ (z : Known D). z.stage) same_view ∙ is in absurd cc)
          (λ ne. absurd (one_holder s k j id u me.0 t ne there here (subst (λ x. holds_ticket x u.stage ≡ 1) same_ticket (turn_holds u t' is)) (waits_holds me.0 t waits)))
      in_turn e (some None) hs h = absurd h
      in_turn e (some (Some d)) hs h =
          let between : List Line = f.seen.0 in
          let w : Known D = with_stage me.0 (me.0.seen ++ between) (InTurn (ticket_of me.0.stage)) in
          let turn_is : ticket_of me.0.stage ≡ t = ap ticket_of waits in
          let seen_is : me.0.seen ++ between ≡ k.history = sym f.seen.1 in
          let named : 0 < length me.0.names = subst (FitsStage k.history me.0) waits f.stage in (
            w,
            takes 0 (Some d),
            ap (λ (z : List (mathlib.Core.Option.Option (Option D))). get_elem? z 0) hs,
            changed reaches start s k id me.0 w here (slice_set s.words 0 n) (slice_set s.homes 0 none) k.history k.ticket k.seats
                (set_index s.words 0 ∙ k.words) k.ahead k.ticket_small k.seats_small k.named
                (λ j u ne there. k.fits j u there)
                (record { started = f.started; seen = ([], sym seen_is ∙ sym (append-nil (me.0.seen ++ between))); own = λ x p. ap (lines_by x) seen_is; stage = (named, turn_is ∙ sym e ∙ n_is, seen_is); left = f.left; right = f.right })
                (λ x. let a : holds_ticket x me.0.stage ≡ equals x t = ap (holds_ticket x) waits in let b : equals x (ticket_of me.0.stage) ≡ equals x t = ap (equals x) turn_is in omega arith)
                (λ x. refl) refl
                (none, ap (λ (z : List (mathlib.Core.Option.Option (Option D))). slice_set z 0 none) hs, (id, w, ticket_of me.0.stage, still_there s.views id me.0 w here, refl)),
            (
              (λ _. record {
                between = between;
                desk = d;
                after_is = refl;
                others = λ x p. between_none x me.0.seen between (f.own x p ∙ ap (lines_by x) (sym seen_is));
                stands = λ first is. subst (λ (z : D × List Line). reaches z.0 z.1 d) (λ i. (sym (f.started first is) i, sym seen_is i)) h;
              }),
              (λ ne. absurd (ne (e ∙ sym turn_is))),
            ),
          )

  -- two seats don't answer for one name
  pub one_owner : (s : Table (Option D) (Known D)) (k : HubHolds reaches start s) (i j : ℕ) (v u : Known D) (n : ℕ) → i ≢ j → get_elem? s.views i ≡ some v → get_elem? s.views j ≡ some u
      → 0 < times n v.names → 0 < times n u.names → ⊥
  one_owner s k i j v u n ne a b p q = let two = total_two (λ (x : Known D). times n x.names) s.views i j v u ne a b in let all = k.names n in let one = below_one n k.seats in absurd (omega arith)

  longer_fits : (s : Table (Option D) (Known D)) (k : HubHolds reaches start s) (id : ℕ) (v : Known D) (l : Line) → get_elem? s.views id ≡ some v → v.stage ≡ InTurn (length k.history) → 0 < times l.by v.names
      → (j : ℕ) (u : Known D) → j ≢ id → get_elem? s.views j ≡ some u → Fits start (k.history ++ l ∷ []) u
  longer_fits s k id v l here turn named j u ne there =
      let f = k.fits j u there in
      record {
        started = f.started;
        seen = (f.seen.0 ++ l ∷ [], ap (λ z. z ++ l ∷ []) f.seen.1 ∙ append_assoc u.seen f.seen.0 (l ∷ []));
        own = λ n p. f.own n p ∙ sym (lines_by_snoc n k.history l (not_own n p));
        stage = go u.stage refl f.stage;
        left = part u.left f.left;
        right = part u.right f.right;
      }
    where
      not_own : (n : ℕ) → 0 < times n u.names → l.by ≢ n
      not_own n p e = one_owner s k j id u v n ne there here p (subst (λ x. 0 < times x v.names) e named)

      part : (p : Portion) → FitsPortion k.history u.names p → FitsPortion (k.history ++ l ∷ []) u.names p
      part p fit = record {
        begins = (fit.begins.0 ++ l ∷ [], ap (λ z. z ++ l ∷ []) fit.begins.1 ∙ append_assoc p.seen fit.begins.0 (l ∷ []));
        own = λ n q. fit.own n q ∙ sym (lines_by_snoc n k.history l (not_own n (fit.within n q)));
        within = fit.within;
      }

      go : (st : Stage) → u.stage ≡ st → FitsStage k.history u st → FitsStage (k.history ++ l ∷ []) u st
      go Idle e p = tt
      go (Waits t) e p = p
      go (InTurn t) e p = absurd (one_holder s k j id u v t ne there here (turn_holds u t e) (subst (λ x. holds_ticket t v.stage ≡ 1) (p.1) (subst (λ x. holds_ticket x v.stage ≡ 1) (sym p.1) (turn_holds v (length k.history) turn))))

  pub enters : (id slots : ℕ) (v : Known D) (d first : D) (line : Line) (t : ℕ) → v.stage ≡ InTurn t → v.start ≡ Some first → 0 < times line.by v.names
      → reaches first (v.seen ++ line ∷ []) d
      → Allows (HubHolds reaches start) slots id (v, (0, Some d) ∷ []) 0 (λ n. (n + 1) % 2 ^ 64) (EntersLine line (step slots 0 1 0 none) (v, (0, Some d) ∷ []))
  enters id slots v d first line t turn started named entry s k len here fits =
      let n : ℕ = slice_index s.words 0 in
      let n_is : n ≡ length k.history = ap (λ (ws : List ℕ). slice_index ws 0) k.words in
      let f = k.fits id v here in
      let fit = turn_fits k.history v t turn f.stage in
      let turn' : v.stage ≡ InTurn (length k.history) = turn ∙ ap InTurn fit.1 in
      let first_is : first ≡ start = f.started first started in
      let entry' : reaches start (k.history ++ line ∷ []) d = subst (λ (z : D × List Line). reaches z.0 (z.1 ++ line ∷ []) d) (λ i. (first_is i, fit.2 i)) entry in
      let inside : length k.history < k.ticket = (let one = total_one (λ (x : Known D). holds_ticket (length k.history) x.stage) s.views id v here in let mine = turn_holds v (length k.history) turn' in let all = k.tickets (length k.history) in below_more (length k.history) k.ticket (omega arith)) in
      let more : length (k.history ++ line ∷ []) ≡ length k.history + 1 = length-append k.history (line ∷ []) in
      let small = k.ticket_small in
      let word : (n + 1) % 2 ^ 64 ≡ length (k.history ++ line ∷ []) = (let lt : n + 1 < 2 ^ 64 = omega arith in omega arith) in
      let log' : List Line = k.history ++ line ∷ [] in
      let w : Known D = idle v.start (v.seen ++ line ∷ []) v.names in
      let seen_is : v.seen ++ line ∷ [] ≡ log' = ap (λ z. z ++ line ∷ []) fit.2 in (
        w,
        gives,
        tt,
        changed reaches start s k id v w here (slice_set s.words 0 ((n + 1) % 2 ^ 64)) (slice_set s.homes 0 (some (Some d))) log' k.ticket k.seats
            (ap (λ (ws : List ℕ). slice_set ws 0 ((n + 1) % 2 ^ 64)) k.words ∙ ap (λ m. m ∷ k.ticket ∷ k.seats ∷ []) word)
            (omega arith) k.ticket_small k.seats_small
            (λ x p. lines_by_snoc x k.history line (λ e. absurd (let one = total_one (λ (z : Known D). times line.by z.names) s.views id v here in let all = k.names line.by in let lt = below_more line.by k.seats (omega arith) in omega arith)) ∙ k.named x p)
            (longer_fits s k id v line here turn' named)
            (record {
              started = f.started;
              seen = ([], sym seen_is ∙ sym (append-nil (v.seen ++ line ∷ [])));
              own = λ x p. ap (lines_by x) seen_is;
              stage = tt;
              left = no_portion_fits log' v.names;
              right = no_portion_fits log' v.names;
            })
            (λ x. let a : holds_ticket x v.stage ≡ equals x (length k.history) = ap (holds_ticket x) turn' in let b = below_suc x (length k.history) in let c : below x (length log') ≡ below x (length k.history + 1) = ap (below x) more in omega arith)
            (λ x. refl) refl
            (some (Some d), ap (λ (z : List (mathlib.Core.Option.Option (Option D))). slice_set z 0 (some (Some d))) k.homes.1, entry'),
        refl,
      )

  -- the hub as it is made
  pub opens : reaches start [] start → HubHolds reaches start (opening (0 ∷ 0 ∷ 1 ∷ []) (Some start ∷ []) (first_seat start))
  opens begun = record {
    history = [];
    ticket = 0;
    seats = 1;
    words = refl;
    ahead = omega arith;
    ticket_small = omega arith;
    seats_small = omega arith;
    named = λ n p. refl;
    fits = λ j v e. only j v e;
    tickets = λ t. let a = below_no t 0 (omega arith) in omega arith;
    names = λ n. names_are n;
    whole = refl;
    homes = (some (Some start), refl, begun);
  }
    where
      only : (j : ℕ) (v : Known D) → get_elem? (first_seat start ∷ []) j ≡ some v → Fits start [] v
      only zero v e = subst (Fits start []) (some-injective (first_seat start) v e) (record {
        started = λ d is. cc;
        seen = ([], refl);
        own = λ n p. refl;
        stage = tt;
        left = no_portion_fits [] (0 ∷ []);
        right = no_portion_fits [] (0 ∷ []);
      })
      only (suc j) v e = absurd (some-ne-none v (sym e))

      names_are : (n : ℕ) → total (λ (v : Known D). times n v.names) (first_seat start ∷ []) ≡ below n 1
      names_are zero = let a = below_yes 0 1 (omega arith) in let b = same_here 0 in omega arith
      names_are (suc n) = let a = below_no (suc n) 1 (omega arith) in let b = same_else (suc n) 0 (λ e. omega arith) in omega arith
