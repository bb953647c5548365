-- The steps by which seats are named, split and joined keep the rule.
use Rattle.std.proofs.Common.{◌≡◌, ◌≢◌, ℕ, zero, suc, ◌+◌, ◌^◌, ◌<◌, ◌≤◌, ◌==◌, ◌⊎◌, Bool, true, false, Option, Some, None, List, [], ◌∷◌, ◌++◌, length, set, nat_lt, slice_index, slice_set, refl, sym, ap, ◌∙◌, subst, inl, inr, ⊎_elim, arith, if◌then◌else◌}
use Rattle.std.proofs.lemmas.Bool.Decides.{nat_tests}
use mathlib.Core.Option.{some, none, some-injective, some-ne-none}
use mathlib.Core.Logic.{dite}
use native.Mathlib.Decide.{ℕ_discrete}
use prog.Atomic.{either}
use lib.ListN.{get_elem?}
use Rattle.atomic_table.specs.Table.{Me, Step, step, Act, keeps, Allows, Splits, Joins, Valid, stepped, carried_after}
use Rattle.atomic_table.proofs.Lists.{at_set, at_snoc, at_longer, set_else, exchanged}
use Rattle.session_hub.specs.declared.known.Line.{Line}
use Rattle.session_hub.specs.declared.known.Stage.TheVariants.{Idle}
use Rattle.session_hub.specs.declared.known.Portion.{Portion}
use Rattle.session_hub.specs.declared.known.Known.{Known}
use Rattle.tailnet_desk.specs.Seated.{Point}
use Rattle.session_hub.specs.Lines.{AreLegal, StartsWith, equals, lines_by, longer, times}
use Rattle.session_hub.specs.Rule.{Fits, FitsPortion, FitsStage, HubHolds, IsHome, below, holds_ticket}
use Rattle.session_hub.specs.Plays.{Compares, DrawsName, HasPortion, Merges, first_name, gone, idle, merged, newcomer, other_names, remaining}
use Rattle.session_hub.proofs.Counting.{total_one, total_set, total_snoc, same_else, below_no, below_one, below_suc, times-append}
use Rattle.session_hub.proofs.Histories.{front_none, begins, own_longer}
use Rattle.session_hub.proofs.Changes.{changed}
use Rattle.session_hub.proofs.TurnSteps.{set_index, no_portion_fits, home_same, unchanged}

longer_begins : (a b log : List Line) → StartsWith log a → StartsWith log b → StartsWith log (longer a b)
longer_begins a b log f g = go (nat_lt (length a) (length b))
  where
    go : (t : Bool) → StartsWith log (if t then b else a)
    go true = g
    go false = f

pub longer_legal : (start : Option Point) (a b : List Line) → AreLegal start a → AreLegal start b → AreLegal start (longer a b)
longer_legal start a b f g = go (nat_lt (length a) (length b))
  where
    go : (t : Bool) → AreLegal start (if t then b else a)
    go true = g
    go false = f

-- a beginning that has all lines of a name: a longer one has them too
longer_one : (n : ℕ) (a b log : List Line) → StartsWith log a → StartsWith log b → length a ≤ length b → lines_by n a ≡ lines_by n log → lines_by n b ≡ lines_by n log
longer_one n a b log f g le own =
    let m = begins a b f.0 g.0 (sym f.1 ∙ g.1) le in
    let log_is : log ≡ (a ++ m.0) ++ g.0 = g.1 ∙ ap (λ z. z ++ g.0) m.1 in
    ap (lines_by n) m.1 ∙ own_longer n a m.0 g.0 (own ∙ ap (lines_by n) log_is) ∙ ap (lines_by n) (sym log_is)

longer_own : (n : ℕ) (a b log : List Line) → StartsWith log a → StartsWith log b → (lines_by n a ≡ lines_by n log) ⊎ (lines_by n b ≡ lines_by n log) → lines_by n (longer a b) ≡ lines_by n log
longer_own n a b log f g own = go (nat_lt (length a) (length b)) refl
  where
    go : (t : Bool) → nat_lt (length a) (length b) ≡ t → lines_by n (if t then b else a) ≡ lines_by n log
    go true e = let le : length a ≤ length b = grind (arith, nat_tests) in ⊎_elim (λ p. longer_one n a b log f g le p) (λ p. p) own
    go false e = let le : length b ≤ length a = grind (arith, nat_tests) in ⊎_elim (λ p. p) (λ p. longer_one n b a log g f le p) own

longer_lengths : (a b : List Line) → (length a ≤ length (longer a b)) × (length b ≤ length (longer a b))
longer_lengths a b = go (nat_lt (length a) (length b)) refl
  where
    go : (t : Bool) → nat_lt (length a) (length b) ≡ t → (length a ≤ length (if t then b else a)) × (length b ≤ length (if t then b else a))
    go true e = (grind (arith, nat_tests), grind (arith, nat_tests))
    go false e = (grind (arith, nat_tests), grind (arith, nat_tests))

module _ {D : Type 0} (reaches : D → List Line → D → Type 0) (start : D) where
  pub names : (id slots : ℕ) (me : Me (Option D) (Known D)) (old : ℕ) → me.0.stage ≡ Idle → old < 2 ^ 63
      → Allows (HubHolds reaches start) slots id me 2 (λ n. either (n == old) (old + 1) n) (DrawsName (step slots 2 old (old + 1) none) me)
  names id slots me old is_idle small s k len here fits =
      let n : ℕ = slice_index s.words 2 in
      let n_is : n ≡ k.seats = ap (λ (ws : List ℕ). slice_index ws 2) k.words in
      exchanged n old (old + 1)
      (λ m. (w : Known D) × (a : Act (Option D)) × Valid s.homes me.1 a × HubHolds reaches start (stepped s 2 m id me.1 w a) × DrawsName (step slots 2 old (old + 1) none) me n (w, carried_after me.1 a))
      (λ e.
      let f = k.fits id me.0 here in
      let w : Known D = idle me.0.start me.0.seen (n ∷ me.0.names) in
      let seats_is : k.seats ≡ old = sym n_is ∙ e in
      let free : times n me.0.names ≡ 0 =
      let a = total_one (λ (z : Known D). times n z.names) s.views id me.0 here in let b = k.names n in let d = below_no n k.seats (omega arith) in omega arith in (
        w,
        keeps,
        tt,
        changed reaches start s k id me.0 w here (slice_set s.words 2 (old + 1)) s.homes k.history k.ticket (old + 1)
            (ap (λ (ws : List ℕ). slice_set ws 2 (old + 1)) k.words)
            k.ahead k.ticket_small (omega arith) (λ x p. k.named x (omega arith))
            (λ j u ne there. k.fits j u there)
            (record {
              started = f.started;
              seen = f.seen;
              own = λ x p. dite (ℕ_discrete x n)
                  (λ eq. let none : lines_by x k.history ≡ [] = k.named x (omega arith) in front_none x me.0.seen f.seen.0 (ap (lines_by x) (sym f.seen.1) ∙ none) ∙ sym none)
                  (λ ne. f.own x (let z = same_else x n ne in omega arith));
              stage = tt;
              left = no_portion_fits k.history (n ∷ me.0.names);
              right = no_portion_fits k.history (n ∷ me.0.names);
            })
            (λ t. let a : holds_ticket t me.0.stage ≡ 0 = ap (holds_ticket t) is_idle in omega arith)
            (λ x. let b = below_suc x old in let c : below x k.seats ≡ below x old = ap (below x) seats_is in let d : equals x n ≡ equals x old = ap (equals x) e in omega arith)
            (omega arith)
            (k.homes.0, k.homes.1, home_same reaches start k.history s.views id me.0 w here (λ t turn. absurd cc) k.homes.0 k.homes.2),
        ((λ _. (refl, free)), (λ ne. absurd (ne e))),
      ))
      (λ ne. (me.0, keeps, tt, unchanged reaches start s k id me.0 2 here, ((λ e. absurd (ne e)), (λ _. refl))))

  -- both names of a list's first and of its others
  parted : (n : ℕ) (ns : List ℕ) → times n (other_names ns) + times n (first_name ns) ≡ times n ns
  parted n [] = refl
  parted n (x ∷ xs) = omega arith

  parted_length : (ns : List ℕ) → length (other_names ns) + length (first_name ns) ≡ length ns
  parted_length [] = refl
  parted_length (x ∷ xs) = omega arith

  home_longer : (log : List Line) (views : List (Known D)) (w : Known D) (h : mathlib.Core.Option.Option (Option D)) → IsHome reaches start log views h → IsHome reaches start log (views ++ w ∷ []) h
  home_longer log views w none (j, u, t, there, is) = (j, u, t, at_longer views (w ∷ []) j u there, is)
  home_longer log views w (some None) h = h
  home_longer log views w (some (Some d)) h = h

  pub splits : (id : ℕ) (v : Known D) → v.stage ≡ Idle → Splits (HubHolds reaches start) id v (remaining v) (newcomer v)
  splits id v is_idle s k here = record {
    history = k.history;
    ticket = k.ticket;
    seats = k.seats;
    words = k.words;
    ahead = k.ahead;
    ticket_small = k.ticket_small;
    seats_small = k.seats_small;
    named = k.named;
    fits = λ j u e. ⊎_elim
        (λ (was : get_elem? (set s.views id (remaining v)) j ≡ some u). ⊎_elim
        (λ (r : (j ≡ id) × (remaining v ≡ u)). subst (Fits start k.history) r.1 remaining_fits)
        (λ (r : (j ≢ id) × (get_elem? s.views j ≡ some u)). k.fits j u r.1)
        (at_set s.views id j (remaining v) u was))
        (λ (is : newcomer v ≡ u). subst (Fits start k.history) is newcomer_fits)
        (at_snoc (set s.views id (remaining v)) (newcomer v) u j e);
    tickets = λ t.
        let a = total_snoc (λ (x : Known D). holds_ticket t x.stage) (set s.views id (remaining v)) (newcomer v) in
        let b = total_set (λ (x : Known D). holds_ticket t x.stage) s.views id v (remaining v) here in
        let c = k.tickets t in let d : holds_ticket t v.stage ≡ 0 = ap (holds_ticket t) is_idle in omega arith;
    names = λ n.
        let a = total_snoc (λ (x : Known D). times n x.names) (set s.views id (remaining v)) (newcomer v) in
        let b = total_set (λ (x : Known D). times n x.names) s.views id v (remaining v) here in
        let c = k.names n in let d = parted n v.names in omega arith;
    whole =
        let a = total_snoc (λ (x : Known D). length x.names) (set s.views id (remaining v)) (newcomer v) in
        let b = total_set (λ (x : Known D). length x.names) s.views id v (remaining v) here in
        let c = k.whole in let d = parted_length v.names in omega arith;
    homes = (
      k.homes.0,
      k.homes.1,
      home_longer k.history (set s.views id (remaining v)) (newcomer v) k.homes.0
          (home_same reaches start k.history s.views id v (remaining v) here (λ t turn. absurd cc) k.homes.0 k.homes.2),
    );
  }
    where
      f : Fits start k.history v
      f = k.fits id v here

      remaining_fits : Fits start k.history (remaining v)
      remaining_fits = record {
        started = f.started;
        seen = f.seen;
        own = λ n p. f.own n (let d = parted n v.names in omega arith);
        stage = tt;
        left = no_portion_fits k.history (other_names v.names);
        right = no_portion_fits k.history (other_names v.names);
      }

      newcomer_fits : Fits start k.history (newcomer v)
      newcomer_fits = record {
        started = f.started;
        seen = f.seen;
        own = λ n p. f.own n (let d = parted n v.names in omega arith);
        stage = tt;
        left = no_portion_fits k.history (first_name v.names);
        right = no_portion_fits k.history (first_name v.names);
      }

  pub joins : (id other : ℕ) (v w : Known D) → v.stage ≡ Idle → w.stage ≡ Idle → Joins (HubHolds reaches start) id v other w (merged v w) gone
  joins id other v w idle_v idle_w s k here apart there' = record {
    history = k.history;
    ticket = k.ticket;
    seats = k.seats;
    words = k.words;
    ahead = k.ahead;
    ticket_small = k.ticket_small;
    seats_small = k.seats_small;
    named = k.named;
    fits = λ j u e. ⊎_elim
        (λ (t : (j ≡ other) × (gone ≡ u)). subst (Fits start k.history) t.1 gone_fits)
        (λ (t : (j ≢ other) × (get_elem? (set s.views id (merged v w)) j ≡ some u)). ⊎_elim
        (λ (r : (j ≡ id) × (merged v w ≡ u)). subst (Fits start k.history) r.1 merged_fits)
        (λ (r : (j ≢ id) × (get_elem? s.views j ≡ some u)). k.fits j u r.1)
        (at_set s.views id j (merged v w) u t.1))
        (at_set (set s.views id (merged v w)) other j gone u e);
    tickets = λ t.
        let a = total_set (λ (x : Known D). holds_ticket t x.stage) s.views id v (merged v w) here in
        let b = total_set (λ (x : Known D). holds_ticket t x.stage) (set s.views id (merged v w)) other w gone there' in
        let c = k.tickets t in let d : holds_ticket t w.stage ≡ 0 = ap (holds_ticket t) idle_w in omega arith;
    names = λ n.
        let a = total_set (λ (x : Known D). times n x.names) s.views id v (merged v w) here in
        let b = total_set (λ (x : Known D). times n x.names) (set s.views id (merged v w)) other w gone there' in
        let c = k.names n in let d = times-append n v.names w.names in omega arith;
    whole =
        let a = total_set (λ (x : Known D). length x.names) s.views id v (merged v w) here in
        let b = total_set (λ (x : Known D). length x.names) (set s.views id (merged v w)) other w gone there' in
        let c = k.whole in let d = Rattle.std.proofs.Common.length-append v.names w.names in omega arith;
    homes = (
      k.homes.0,
      k.homes.1,
      home_same reaches start k.history (set s.views id (merged v w)) other w gone there' (λ t turn. absurd cc) k.homes.0
          (home_same reaches start k.history s.views id v (merged v w) here (λ t turn. turn) k.homes.0 k.homes.2),
    );
  }
    where
      there : get_elem? s.views other ≡ some w
      there = sym (set_else s.views id other (merged v w) apart) ∙ there'

      f : Fits start k.history v
      f = k.fits id v here

      g : Fits start k.history w
      g = k.fits other w there

      gone_fits : Fits start k.history gone
      gone_fits = record {
        started = λ d e. absurd cc;
        seen = (k.history, refl);
        own = λ n p. absurd (omega arith);
        stage = tt;
        left = no_portion_fits k.history [];
        right = no_portion_fits k.history [];
      }

      some_names : (n : ℕ) → 0 < times n (v.names ++ w.names) → (0 < times n v.names) ⊎ (0 < times n w.names)
      some_names n p = let d = times-append n v.names w.names in dite (ℕ_discrete (times n v.names) 0) (λ e. inr (omega arith)) (λ ne. inl (omega arith))

      merged_fits : Fits start k.history (merged v w)
      merged_fits = record {
        started = f.started;
        seen = longer_begins v.seen w.seen k.history f.seen g.seen;
        own = λ n p. longer_own n v.seen w.seen k.history f.seen g.seen (⊎_elim (λ q. inl (f.own n q)) (λ q. inr (g.own n q)) (some_names n p));
        stage = subst (FitsStage k.history (merged v w)) (sym idle_v) tt;
        left = record { begins = f.seen; own = f.own; within = λ n p. let d = times-append n v.names w.names in omega arith };
        right = record { begins = g.seen; own = g.own; within = λ n p. let d = times-append n v.names w.names in omega arith };
      }

  pub compares : (id slots : ℕ) (me : Me (Option D) (Known D)) → me.0.stage ≡ Idle → Allows (HubHolds reaches start) slots id me 0 (λ n. n) (Compares (step slots 0 0 0 none) me)
  compares id slots me is_idle s k len here fits = (
    w,
    keeps,
    tt,
    changed reaches start s k id me.0 w here (slice_set s.words 0 n) s.homes k.history k.ticket k.seats
        (set_index s.words 0 ∙ k.words) k.ahead k.ticket_small k.seats_small k.named
        (λ j u ne there. k.fits j u there)
        (record { started = f.started; seen = f.seen; own = f.own; stage = tt; left = no_portion_fits k.history me.0.names; right = no_portion_fits k.history me.0.names })
        (λ t. let a : holds_ticket t me.0.stage ≡ 0 = ap (holds_ticket t) is_idle in omega arith)
        (λ x. refl) refl
        (k.homes.0, k.homes.1, home_same reaches start k.history s.views id me.0 w here (λ t turn. absurd cc) k.homes.0 k.homes.2),
    record {
      after_is = refl;
      left = has me.0.left f.left;
      right = has me.0.right f.right;
      apart = λ x. let a = total_one (λ (z : Known D). times x z.names) s.views id me.0 here in let b = k.names x in let c = below_one x k.seats in omega arith;
      few = let a = total_one (λ (z : Known D). length z.names) s.views id me.0 here in let b = k.whole in let c = k.seats_small in omega arith;
    },
  )
    where
      n : ℕ
      n = slice_index s.words 0

      f : Fits start k.history me.0
      f = k.fits id me.0 here

      w : Known D
      w = idle me.0.start me.0.seen me.0.names

      has : (p : Portion) → FitsPortion k.history me.0.names p → HasPortion me.0.seen p
      has p fit = (
        (λ le. begins p.seen me.0.seen fit.begins.0 f.seen.0 (sym fit.begins.1 ∙ f.seen.1) le),
        (λ x q. f.own x (fit.within x q) ∙ sym (fit.own x q)),
      )

module _ {D : Type 0} where
  -- a join and a comparison
  pub told : (me mid after : Me (Option D) (Known D)) (w : Known D) (s : Step (Option D)) (n : ℕ) → mid ≡ (merged me.0 w, me.1) → Compares s mid n after → Merges me.0 w after.0 × (after.1 ≡ me.1)
  told me mid after w s n mid_is c =
      let d : Compares s (merged me.0 w, me.1) n after = subst (λ z. Compares s z n after) mid_is c in
      let view_is : after.0 ≡ idle me.0.start (longer me.0.seen w.seen) (me.0.names ++ w.names) = ap (λ (m : Me (Option D) (Known D)). m.0) d.after_is in
      let seen_is : after.0.seen ≡ longer me.0.seen w.seen = ap (λ (m : Me (Option D) (Known D)). m.0.seen) d.after_is in
      let lens = longer_lengths me.0.seen w.seen in (
        record {
          view = view_is;
          left = subst (λ z. StartsWith z me.0.seen) (sym seen_is) (d.left.0 lens.0);
          right = subst (λ z. StartsWith z w.seen) (sym seen_is) (d.right.0 lens.1);
          left_own = λ x p. ap (lines_by x) seen_is ∙ d.left.1 x p;
          right_own = λ x p. ap (lines_by x) seen_is ∙ d.right.1 x p;
          apart = λ x. let a = d.apart x in let b = times-append x me.0.names w.names in omega arith;
          few = let a = d.few in let b = Rattle.std.proofs.Common.length-append me.0.names w.names in omega arith;
        },
        ap (λ (m : Me (Option D) (Known D)). m.1) d.after_is,
      )
