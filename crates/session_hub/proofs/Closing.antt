-- A table that is closed by the seat that has all names.
use Rattle.std.proofs.Common.{◌≡◌, ◌≢◌, ℕ, ◌<◌, ◌==◌, Bool, true, false, Option, Some, None, List, [], ◌∷◌, ◌++◌, length, refl, sym, ap, ◌∙◌, subst, arith, if◌then◌else◌}
use Rattle.std.proofs.lemmas.List.{append-nil}
use Rattle.std.proofs.lemmas.Bool.Decides.{nat_tests}
use mathlib.Core.Option.{some, none, some-injective}
use mathlib.Core.Logic.{dite}
use native.Mathlib.Decide.{ℕ_discrete}
use lib.ListN.{get_elem?}
use Rattle.atomic_table.specs.Table.{State as Table, Final, Seen}
use Rattle.session_hub.specs.declared.known.Line.{Line}
use Rattle.session_hub.specs.declared.known.Stage.TheVariants.{Idle, InTurn}
use Rattle.session_hub.specs.declared.known.Known.{Known}
use Rattle.session_hub.specs.Lines.{lines_by, times}
use Rattle.session_hub.specs.Rule.{HubHolds, IsHome, below}
use Rattle.session_hub.specs.Plays.{Closes}
use Rattle.session_hub.proofs.Counting.{total_two, total_only, times_some, below_over}
use Rattle.session_hub.proofs.Histories.{between_none}
use Rattle.session_hub.proofs.TurnSteps.{turn_fits}

here_first : (l : Line) (r : List Line) → lines_by l.by (l ∷ r) ≡ [] → ⊥
here_first l r e = go (l.by == l.by) (grind (arith, nat_tests)) e
  where
    go : (b : Bool) → b ≡ true → (if b then l ∷ lines_by l.by r else lines_by l.by r) ≡ [] → ⊥
    go true t p = absurd cc
    go false t p = absurd cc

module _ {D : Type 0} (reaches : D → List Line → D → Type 0) (start : D) (id : ℕ) (v : Known D) (is_idle : v.stage ≡ Idle) (s : Table (Option D) (Known D)) (k : HubHolds reaches start s) (here : get_elem? s.views id ≡ some v) (all : length v.names ≡ k.seats) where
  nameless : (j : ℕ) (u : Known D) → j ≢ id → get_elem? s.views j ≡ some u → length u.names ≡ 0
  nameless j u ne there = let a = total_two (λ (z : Known D). length z.names) s.views j id u v ne there here in let b = k.whole in omega arith

  mine_alone : (n : ℕ) → times n v.names ≡ below n k.seats
  mine_alone n = sym (total_only (λ (z : Known D). times n z.names) s.views id v here (λ j u ne there. let a = nameless j u ne there in none_of n u a)) ∙ k.names n
    where
      none_of : (n : ℕ) (u : Known D) → length u.names ≡ 0 → times n u.names ≡ 0
      none_of n u e = dite (ℕ_discrete (times n u.names) 0) (λ p. p) (λ p. absurd (let q = times_some n u.names (omega arith) in omega arith))

  no_more : (rest : List Line) → k.history ≡ v.seen ++ rest → rest ≡ []
  no_more [] e = refl
  no_more (l ∷ r) e =
      let f = k.fits id v here in
      let named : 0 < times l.by v.names = dite (ℕ_discrete (times l.by v.names) 0)
      (λ z. absurd (here_first l r (let over = below_over l.by k.seats (sym (mine_alone l.by) ∙ z) in let none = k.named l.by over in Rattle.session_hub.proofs.Histories.back_none l.by v.seen (l ∷ r) (ap (lines_by l.by) (sym e) ∙ none))))
      (λ ne. omega arith) in
      absurd (here_first l r (between_none l.by v.seen (l ∷ r) (f.own l.by named ∙ ap (lines_by l.by) e)))

  whole_seen : v.seen ≡ k.history
  whole_seen = let f = k.fits id v here in sym (append-nil v.seen) ∙ ap (λ z. v.seen ++ z) (sym (no_more f.seen.0 f.seen.1)) ∙ sym f.seen.1

  pub closed : (slots : List (Option D)) → ((j : ℕ) (y : Option D) → get_elem? s.homes j ≡ some (some y) → get_elem? slots j ≡ some y) → Closes reaches start v slots
  closed slots values = home k.homes.0 k.homes.1 k.homes.2
    where
      home : (h : mathlib.Core.Option.Option (Option D)) → s.homes ≡ h ∷ [] → IsHome reaches start k.history s.views h → Closes reaches start v slots
      home none hs (j, u, t, there, is) =
          let fit = turn_fits reaches start k.history u t is (k.fits j u there).stage in
          dite (ℕ_discrete j id)
          (λ (eq : j ≡ id). let same_view : v ≡ u = some-injective v u (sym here ∙ ap (get_elem? s.views) (sym eq) ∙ there) in let clash : Idle ≡ InTurn t = sym is_idle ∙ ap (λ (z : Known D). z.stage) same_view ∙ is in absurd cc)
          (λ ne. absurd (let a = nameless j u ne there in let b = fit.0 in omega arith))
      home (some None) hs h = absurd h
      home (some (Some d)) hs h = record {
        desk = d;
        there = values 0 (Some d) (ap (λ (z : List (mathlib.Core.Option.Option (Option D))). get_elem? z 0) hs);
        stands = subst (λ z. reaches start z d) (sym whole_seen) h;
        named = λ n z. ap (lines_by n) whole_seen ∙ k.named n (below_over n k.seats (sym (mine_alone n) ∙ z));
        numbered = λ n. mine_alone n ∙ ap (below n) (sym all);
      }

module _ {D : Type 0} (reaches : D → List Line → D → Type 0) (start : D) where
  pub closes : (id : ℕ) (v : Known D) (words : List ℕ) (slots : List (Option D)) → v.stage ≡ Idle → Final (Seen (HubHolds reaches start) id v) words slots → get_elem? words 2 ≡ some (length v.names) → Closes reaches start v slots
  closes id v words slots is_idle (s, (k, here), words_are, len, values) seats =
      closed reaches start id v is_idle s k here (some-injective (length v.names) k.seats (sym seats ∙ ap (λ (z : List ℕ). get_elem? z 2) (sym words_are ∙ k.words))) slots values
