-- Turns of a seat, one after another.
use Rattle.std.proofs.Common.{◌≡◌, ℕ, ◌==◌, Bool, true, List, [], ◌∷◌, ◌++◌, map, refl, sym, ap, ◌∙◌, subst, arith, append_assoc, if◌then◌else◌}
use Rattle.std.proofs.lemmas.List.{append-nil}
use Rattle.std.proofs.lemmas.List.Elements.{filter-append}
use Rattle.std.proofs.lemmas.Bool.Decides.{nat_tests}
use Rattle.tailnet_desk.specs.Chains.{Chain, Turned, turned_of}
use Rattle.tailnet_desk.specs.declared.entry.Event.{Event}
use Rattle.tailnet_desk.specs.declared.reply.Reply.{Reply}
use Rattle.session_hub.specs.declared.known.Line.{Line}
use Rattle.session_hub.specs.Lines.{AreLegal, lines_by}
use Rattle.session_hub.specs.Seats.{IsSeatTurn, SeatView, with_seen}
use Rattle.tailnet_serve.specs.Runs.{IsSeatRun, IsSeatStep, turns_by}

map-append : {A B : Type 0} (f : A → B) (xs ys : List A) → map f (xs ++ ys) ≡ map f xs ++ map f ys
map-append f [] ys = refl
map-append f (x ∷ xs) ys = ap (λ z. f x ∷ z) (map-append f xs ys)

abbrev turned_in : Line → Turned
turned_in l = turned_of l.entry

lines_by-append : (n : ℕ) (xs ys : List Line) → lines_by n (xs ++ ys) ≡ lines_by n xs ++ lines_by n ys
lines_by-append n xs ys = filter-append (λ (l : Line). l.by == n) xs ys

alone : (n : ℕ) (l : Line) → l.by ≡ n → lines_by n (l ∷ []) ≡ l ∷ []
alone n l e = go (l.by == n) (grind (arith, nat_tests))
  where
    go : (b : Bool) → b ≡ true → (if b then l ∷ [] else []) ≡ l ∷ []
    go b t = ap (λ z. if z then l ∷ [] else []) t

lines_turn : (n : ℕ) (seen between : List Line) (l : Line) → l.by ≡ n → lines_by n between ≡ [] → lines_by n ((seen ++ between) ++ l ∷ []) ≡ lines_by n seen ++ l ∷ []
lines_turn n seen between l by none =
    lines_by-append n (seen ++ between) (l ∷ [])
    ∙ ap (λ z. z ++ lines_by n (l ∷ [])) (lines_by-append n seen between ∙ ap (λ z. lines_by n seen ++ z) none ∙ append-nil (lines_by n seen))
    ∙ ap (λ z. lines_by n seen ++ z) (alone n l by)

pub run_none : (a : SeatView) → IsSeatRun a a []
run_none a = record { new_is = refl; more = ([], sym (append-nil a.seen)); own = sym (append-nil (turns_by a.name a.seen)); legal = λ h. h }

-- one run after another
pub run_append : (a b t : SeatView) (xs ys : List Turned) → IsSeatRun a b xs → IsSeatRun b t ys → IsSeatRun a t (xs ++ ys)
run_append a b t xs ys one two =
    let name_is : b.name ≡ a.name = ap (λ (z : SeatView). z.name) one.new_is in
    let start_is : b.hub.start ≡ a.hub.start = ap (λ (z : SeatView). z.hub.start) one.new_is in
    record {
      new_is = two.new_is ∙ ap (λ z. with_seen z t.seen) one.new_is;
      more = (one.more.0 ++ two.more.0, two.more.1 ∙ ap (λ z. z ++ two.more.0) one.more.1 ∙ append_assoc a.seen one.more.0 two.more.0);
      own = ap (λ n. turns_by n t.seen) (sym name_is) ∙ two.own ∙ ap (λ n. turns_by n b.seen ++ ys) name_is ∙ ap (λ z. z ++ ys) one.own ∙ append_assoc (turns_by a.name a.seen) xs ys;
      legal = λ h. subst (λ z. AreLegal z t.seen) start_is (two.legal (subst (λ z. AreLegal z b.seen) (sym start_is) (one.legal h)));
    }

-- a turn is a run
run_once : (a b : SeatView) (x : Turned) → IsSeatTurn a b x.event x.reply → IsSeatRun a b (x ∷ [])
run_once a b x turn =
    let seen_is : b.seen ≡ (a.seen ++ turn.between) ++ turn.line ∷ [] = ap (λ (z : SeatView). z.seen) turn.new_is in
    let turned : turned_in turn.line ≡ x = λ i. record { event = turn.event_is i; reply = turn.reply_is i } in
    record {
      new_is = turn.new_is ∙ ap (with_seen a) (sym seen_is);
      more = (turn.between ++ turn.line ∷ [], seen_is ∙ append_assoc a.seen turn.between (turn.line ∷ []));
      own = ap (turns_by a.name) seen_is
          ∙ ap (map turned_in) (lines_turn a.name a.seen turn.between turn.line turn.by (turn.others a.name turn.named))
          ∙ map-append turned_in (lines_by a.name a.seen) (turn.line ∷ [])
          ∙ ap (λ z. turns_by a.name a.seen ++ z ∷ []) turned;
      legal = λ h. turn.legal;
    }

-- so is a chain of turns
pub run_chain : (a : SeatView) (xs : List Turned) (b : SeatView) → Chain IsSeatStep a xs b → IsSeatRun a b xs
run_chain a [] b c = subst (λ z. IsSeatRun a z []) c (run_none a)
run_chain a (x ∷ xs) b (m, turn, rest) = run_append a m b (x ∷ []) xs (run_once a m x turn) (run_chain m xs b rest)

-- what a chain of turns leaves as it was
pub chain_same : {S A : Type 0} (turn : S → Event → Reply → S → Type 0) (f : S → A) → ((s : S) (e : Event) (r : Reply) (t : S) → turn s e r t → f t ≡ f s) → (s : S) (xs : List Turned) (t : S) → Chain turn s xs t → f t ≡ f s
chain_same turn f each s [] t c = sym (ap f c)
chain_same turn f each s (x ∷ xs) t (m, turned, rest) = chain_same turn f each m xs t rest ∙ each s x.event x.reply m turned
