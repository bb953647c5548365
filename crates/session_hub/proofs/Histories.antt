-- Histories with one line more, and their beginnings.
use Rattle.std.proofs.Common.{◌≡◌, ◌≢◌, ℕ, ◌≤◌, ◌==◌, Bool, false, Option, List, [], ◌∷◌, ◌++◌, length, refl, sym, ap, ◌∙◌, subst, arith, append_assoc, if◌then◌else◌}
use Rattle.std.proofs.lemmas.List.Elements.{filter-append}
use Rattle.std.proofs.lemmas.List.{append-nil, append_cancel_left}
use Rattle.std.proofs.lemmas.Bool.Decides.{nat_tests}
use Rattle.net_rows.specs.declared.rows.Rows.{Rows}
use Rattle.tailnet_desk.specs.Crashes.{IsKeptTurn, IsSafeDesk}
use Rattle.tailnet_desk.specs.History.{IsCall, IsReply, Legal, count_at_end, replay, state_after}
use Rattle.tailnet_desk.specs.Seated.{Point, Seated, point_of}
use Rattle.tailnet_desk.specs.Turns.{IsTurn}
use Rattle.tailnet_desk.specs.declared.entry.Entry.{Entry}
use Rattle.tailnet_desk.proofs.KeptTurns.{turn_safe}
use Rattle.session_hub.specs.declared.known.Line.{Line}
use Rattle.session_hub.specs.Lines.{IsReplayOf, Replays, entries_of, lines_by}

-- one entry more, which starts where the others end
legal_then : (s : _) (n : ℕ) (ls : List Line) (l : Line) → Legal s n (entries_of ls)
    → Legal (replay s (entries_of ls)) (count_at_end n (entries_of ls)) (l.entry ∷ []) → Legal s n (entries_of (ls ++ l ∷ []))
legal_then s n [] l p q = q
legal_then s n (x ∷ xs) l p q = (p.0, p.1, p.2, p.3, legal_then (state_after s x.entry.event x.entry.reply) x.entry.after xs l p.4 q)

replay_then : (s : _) (ls : List Line) (l : Line) → replay s (entries_of (ls ++ l ∷ [])) ≡ state_after (replay s (entries_of ls)) l.entry.event l.entry.reply
replay_then s [] l = refl
replay_then s (x ∷ xs) l = replay_then (state_after s x.entry.event x.entry.reply) xs l

count_then : (n : ℕ) (ls : List Line) (l : Line) → count_at_end n (entries_of (ls ++ l ∷ [])) ≡ l.entry.after
count_then n [] l = refl
count_then n (x ∷ xs) l = count_then x.entry.after xs l

-- a call is a legal history of one entry
called : (t : _) (m : ℕ) (now after : Point) (e : Entry) → now.state ≡ t → now.keeping.faults ≡ m → e.before ≡ now.keeping.faults → e.after ≡ after.keeping.faults
    → IsCall now.state now.keeping.faults e.event e.reply after.state after.keeping.faults → Legal t m (e ∷ [])
called t m now after e state_is count_is before ends call =
    let reply' : IsReply now.state e.event now.keeping.faults e.after e.reply = subst (λ (k : ℕ). IsReply now.state e.event now.keeping.faults k e.reply) (sym ends) call.reply_is in
    let later' : now.keeping.faults ≤ e.after = subst (λ (k : ℕ). now.keeping.faults ≤ k) (sym ends) call.later in
    (before ∙ count_is, call.short, subst (λ n. IsReply t e.event n e.after e.reply) count_is (subst (λ s. IsReply s e.event now.keeping.faults e.after e.reply) state_is reply'), subst (λ (k : ℕ). k ≤ e.after) count_is later', tt)

-- A desk that stands at the end of a history makes a call: the line of it joins the history.
replay_more : (start now after : Point) (ls : List Line) (l : Line) → l.entry.before ≡ now.keeping.faults → l.entry.after ≡ after.keeping.faults
    → IsTurn now l.entry.event l.entry.reply after → IsReplayOf start ls now → IsReplayOf start (ls ++ l ∷ []) after
replay_more start now after ls l before ends turn r =
    let call = turn.call in
    let one = called (replay start.state (entries_of ls)) (count_at_end start.keeping.faults (entries_of ls)) now after l.entry r.state r.count before ends call in
    record {
      legal = legal_then start.state start.keeping.faults ls l r.legal one;
      state = call.state ∙ ap (λ s. state_after s l.entry.event l.entry.reply) r.state ∙ sym (replay_then start.state ls l);
      count = sym ends ∙ sym (count_then start.keeping.faults ls l);
      before = λ tells. r.before (turn.before tells);
    }

-- the same of a desk over a keeper; and where it was safe it stays so
pub replays_more : {K : Type 0} (told : K → Option Rows) (faults calls : K → ℕ) (is_clean : K → Bool) (may_leave : K → Option Rows → Type 0) (start now after : Seated K) (ls : List Line) (l : Line)
    → l.entry.before ≡ faults now.keeper → l.entry.after ≡ faults after.keeper → IsKeptTurn told faults calls is_clean may_leave now l.entry.event l.entry.reply after
    → Replays (point_of told faults calls) (IsSafeDesk told is_clean may_leave) start ls now → Replays (point_of told faults calls) (IsSafeDesk told is_clean may_leave) start (ls ++ l ∷ []) after
replays_more told faults calls is_clean may_leave start now after ls l before ends kept r = record {
  replays = replay_more (point_of told faults calls start) (point_of told faults calls now) (point_of told faults calls after) ls l before ends kept.turn r.replays;
  stays = λ safe. turn_safe told faults calls is_clean may_leave now l.entry.event l.entry.reply after kept (r.stays safe);
}

pub lines_by_snoc : (n : ℕ) (ls : List Line) (l : Line) → l.by ≢ n → lines_by n (ls ++ l ∷ []) ≡ lines_by n ls
lines_by_snoc n ls l ne = filter-append (λ (x : Line). x.by == n) ls (l ∷ []) ∙ ap (λ t. lines_by n ls ++ t) (alone (l.by == n) (grind (arith, nat_tests))) ∙ append-nil (lines_by n ls)
  where
    alone : (b : Bool) → b ≡ false → (if b then l ∷ [] else []) ≡ []
    alone b e = rw e refl

-- of two lines of one history the shorter begins the longer
pub begins : {A : Type 0} (a b r t : List A) → a ++ r ≡ b ++ t → length a ≤ length b → (m : List A) × (b ≡ a ++ m)
begins [] b r t e le = (b, refl)
begins (x ∷ xs) [] r t e le = absurd (omega arith)
begins (x ∷ xs) (y ∷ ys) r t e le = let h : x ≡ y = cc in let k : xs ++ r ≡ ys ++ t = cc in let rest = begins xs ys r t k (omega arith) in (rest.0, λ i. sym h i ∷ rest.1 i)

empty_front : {A : Type 0} (xs ys : List A) → xs ++ ys ≡ [] → xs ≡ []
empty_front [] ys e = refl
empty_front (x ∷ xs) ys e = absurd cc

pub lines_by-append : (n : ℕ) (xs ys : List Line) → lines_by n (xs ++ ys) ≡ lines_by n xs ++ lines_by n ys
lines_by-append n xs ys = filter-append (λ (x : Line). x.by == n) xs ys

-- what comes after a beginning that has all lines of a name has none
pub between_none : (n : ℕ) (seen rest : List Line) → lines_by n seen ≡ lines_by n (seen ++ rest) → lines_by n rest ≡ []
between_none n seen rest e = append_cancel_left (lines_by n seen) (lines_by n rest) [] (sym (lines_by-append n seen rest) ∙ sym e ∙ sym (append-nil (lines_by n seen)))

pub front_none : (n : ℕ) (seen rest : List Line) → lines_by n (seen ++ rest) ≡ [] → lines_by n seen ≡ []
front_none n seen rest e = empty_front (lines_by n seen) (lines_by n rest) (sym (lines_by-append n seen rest) ∙ e)

pub back_none : (n : ℕ) (seen rest : List Line) → lines_by n (seen ++ rest) ≡ [] → lines_by n rest ≡ []
back_none n seen rest e = empty_back (lines_by n seen) (lines_by n rest) (sym (lines_by-append n seen rest) ∙ e)
  where
    empty_back : {A : Type 0} (xs ys : List A) → xs ++ ys ≡ [] → ys ≡ []
    empty_back [] ys e = e
    empty_back (x ∷ xs) ys e = absurd cc

pub own_longer : (n : ℕ) (a m t : List Line) → lines_by n a ≡ lines_by n ((a ++ m) ++ t) → lines_by n (a ++ m) ≡ lines_by n ((a ++ m) ++ t)
own_longer n a m t e =
    let none : lines_by n (m ++ t) ≡ [] = between_none n a (m ++ t) (e ∙ ap (lines_by n) (append_assoc a m t)) in
    let some_none : lines_by n m ≡ [] = front_none n m t none in
    lines_by-append n a m ∙ ap (λ z. lines_by n a ++ z) some_none ∙ append-nil (lines_by n a) ∙ e
