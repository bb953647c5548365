-- What is left of profiles, and what comes.
use Rattle.std.proofs.Common.{◌≡◌, ℕ, Bool, List, [], inl, inr, sym, ◌∙◌, ap, refl, filter, if◌then◌else◌}
use Rattle.std.specs.Prelude.{Option, Some, None, is_some}
use Rattle.std.specs.Option.{option_or}
use Rattle.std.proofs.lemmas.Bool.{cases_Bool}
use Rattle.net_rows.specs.Shelf.{IsAscending, row_at}
use Rattle.net_rows.proofs.RowAt.{same_rows}
use Rattle.tailcfg.specs.declared.profile.Profile.{Profile}
use Rattle.peer_view.proofs.ListLemmas.{ascending_filter}
use Rattle.same_maps.specs.Nodes.{same_profile}
use Rattle.same_maps.proofs.NodeLemmas.{profile_itself, profiles_equal}
use Rattle.map_delta.specs.Delta.{is_new_profile, new_profiles}
use Rattle.map_delta.specs.Puts.{profile_id, put_rows}
use Rattle.map_delta.proofs.IdLaws.{ascending_put_rows, kept, row_at-filter, row_at-filter_ids, row_at-put_rows, row_at_id}

pub new_at : (old new : List Profile) → IsAscending profile_id new → (k : ℕ) → row_at profile_id (new_profiles old new) k ≡ kept (is_new_profile (row_at profile_id old k)) (row_at profile_id new k)
new_at old new h k =
    row_at-filter profile_id (λ b. is_new_profile (row_at profile_id old b.id) b) new k h ∙ go (row_at profile_id new k) (row_at_id profile_id new k)
  where
    go : (o : Option Profile) → ((r : Profile) → o ≡ Some r → r.id ≡ k) → kept (λ b. is_new_profile (row_at profile_id old b.id) b) o ≡ kept (is_new_profile (row_at profile_id old k)) o
    go None at = refl
    go (Some b) at = let e : b.id ≡ k = at b refl in rw e refl

-- those of owners, after new and changed ones came
pub profiles_are : (old new : List Profile) (own : ℕ → Bool) → IsAscending profile_id old → IsAscending profile_id new
    → ((k : ℕ) → is_some (row_at profile_id new k) ≡ own k) → filter (λ p. own p.id) (put_rows profile_id old (new_profiles old new)) ≡ new
profiles_are old new own ho hn owners =
    same_rows profile_id (filter (λ p. own p.id) (put_rows profile_id old (new_profiles old new))) new
    (ascending_filter profile_id (λ p. own p.id) (put_rows profile_id old (new_profiles old new)) (ascending_put_rows profile_id old (new_profiles old new) ho))
    hn
    (λ k. row_at-filter_ids profile_id own (put_rows profile_id old (new_profiles old new)) k
    ∙ rw (
      sym (owners k),
      row_at-put_rows profile_id old (new_profiles old new) k (ascending_filter profile_id (λ b. is_new_profile (row_at profile_id old b.id) b) new hn),
      new_at old new hn k,
    ) (go (row_at profile_id old k) (row_at profile_id new k)))
  where
    go : (o n : Option Profile) → (if is_some n then option_or (kept (is_new_profile o) n) o else None) ≡ n
    go None None = refl
    go None (Some b) = refl
    go (Some a) None = refl
    go (Some a) (Some b) = elim (cases_Bool (same_profile a b)) [
      | inl same ↦ rw same (ap Some (profiles_equal a b same))
      | inr other ↦ rw other refl
    ]

-- those of owners alone are all of them
pub profiles_stay : (ps : List Profile) (own : ℕ → Bool) → IsAscending profile_id ps → ((k : ℕ) → is_some (row_at profile_id ps k) ≡ own k) → filter (λ p. own p.id) ps ≡ ps
profiles_stay ps own h owners =
    same_rows profile_id (filter (λ p. own p.id) ps) ps (ascending_filter profile_id (λ p. own p.id) ps h) h
    (λ k. row_at-filter_ids profile_id own ps k ∙ rw (sym (owners k)) (go (row_at profile_id ps k)))
  where
    go : (n : Option Profile) → (if is_some n then n else None) ≡ n
    go None = refl
    go (Some b) = refl

-- put among none they are themselves
pub put_among_none : (ps : List Profile) → IsAscending profile_id ps → put_rows profile_id [] ps ≡ ps
put_among_none ps h =
    same_rows profile_id (put_rows profile_id [] ps) ps (ascending_put_rows profile_id [] ps tt) h
    (λ k. row_at-put_rows profile_id [] ps k h ∙ go (row_at profile_id ps k))
  where
    go : (o : Option Profile) → option_or o None ≡ o
    go None = refl
    go (Some x) = refl

pub nothing_new : (ps : List Profile) → IsAscending profile_id ps → new_profiles ps ps ≡ []
nothing_new ps h =
    same_rows profile_id (new_profiles ps ps) [] (ascending_filter profile_id (λ b. is_new_profile (row_at profile_id ps b.id) b) ps h) tt
    (λ k. new_at ps ps h k ∙ go (row_at profile_id ps k))
  where
    go : (o : Option Profile) → kept (is_new_profile o) o ≡ None
    go None = refl
    go (Some a) = rw (profile_itself a) refl
