-- How a step that changes one view keeps the rule.
use Rattle.std.proofs.Common.{◌≡◌, ◌≢◌, ℕ, ◌+◌, ◌^◌, ◌≤◌, Option, List, [], ◌∷◌, length, set, subst, ⊎_elim, arith}
use mathlib.Core.Option.{some, none}
use lib.ListN.{get_elem?}
use Rattle.atomic_table.specs.Table.{State as Table}
use Rattle.atomic_table.proofs.Lists.{at_set}
use Rattle.session_hub.specs.declared.known.Line.{Line}
use Rattle.session_hub.specs.declared.known.Known.{Known}
use Rattle.session_hub.specs.Lines.{lines_by, times}
use Rattle.session_hub.specs.Rule.{Fits, HubHolds, IsHome, below, holds_ticket}
use Rattle.session_hub.proofs.Counting.{total_set}

module _ {D : Type 0} (reaches : D → List Line → D → Type 0) (start : D) (s : Table (Option D) (Known D)) (k : HubHolds reaches start s) (id : ℕ) (v w : Known D) (here : get_elem? s.views id ≡ some v) where
  pub changed : (words : List ℕ) (homes : List (mathlib.Core.Option.Option (Option D))) (log : List Line) (ticket seats : ℕ)
      → words ≡ length log ∷ ticket ∷ seats ∷ []
      → length log ≤ ticket → ticket ≤ 2 ^ 63 → seats ≤ 2 ^ 63
      → ((n : ℕ) → seats ≤ n → lines_by n log ≡ [])
      → ((j : ℕ) (u : Known D) → j ≢ id → get_elem? s.views j ≡ some u → Fits start log u)
      → Fits start log w
      → ((t : ℕ) → (holds_ticket t w.stage + below t (length log)) + below t k.ticket ≡ (holds_ticket t v.stage + below t (length k.history)) + below t ticket)
      → ((n : ℕ) → times n w.names + below n k.seats ≡ times n v.names + below n seats)
      → length w.names + k.seats ≡ length v.names + seats
      → (h : mathlib.Core.Option.Option (Option D)) × (homes ≡ h ∷ []) × IsHome reaches start log (set s.views id w) h
      → HubHolds reaches start (record { words = words; homes = homes; views = set s.views id w })
  changed words homes log ticket seats words_is ahead ticket_small seats_small named others mine tickets names whole home = record {
    history = log;
    ticket = ticket;
    seats = seats;
    words = words_is;
    ahead = ahead;
    ticket_small = ticket_small;
    seats_small = seats_small;
    named = named;
    fits = λ j u e. ⊎_elim (λ (t : (j ≡ id) × (w ≡ u)). subst (λ (z : Known D). Fits start log z) t.1 mine) (λ (t : (j ≢ id) × (get_elem? s.views j ≡ some u)). others j u t.0 t.1) (at_set s.views id j w u e);
    tickets = λ t. let a = total_set (λ (x : Known D). holds_ticket t x.stage) s.views id v w here in let b = k.tickets t in let c = tickets t in omega arith;
    names = λ n. let a = total_set (λ (x : Known D). times n x.names) s.views id v w here in let b = k.names n in let c = names n in omega arith;
    whole = let a = total_set (λ (x : Known D). length x.names) s.views id v w here in let b = k.whole in omega arith;
    homes = home;
  }
