-- One more owner is one more user or one more group.
use Rattle.std.proofs.Common.{◌≡◌, ℕ, List, [], ◌∷◌, ◌++◌, ap, sym, ◌∙◌, append-nil}
use Rattle.std.specs.List.{filter_map}
use Rattle.std.proofs.lemmas.List.Elements.{filter_map-append}
use Rattle.policy_doc.specs.declared.owner.Owner.{Owner}
use Rattle.policy_doc.specs.declared.owner.Owner.TheVariants as owner
use Rattle.policy_doc.specs.Entries.{owner_group, owner_user}

pub users_more : (done : List Owner) (o : Owner) (login : List ℕ) (old new : List (List ℕ)) → o ≡ owner.User login → old ≡ filter_map owner_user done → new ≡ old ++ login ∷ [] → new ≡ filter_map owner_user (done ++ o ∷ [])
users_more done o login old new is so_far more =
    more ∙ ap (λ xs. xs ++ login ∷ []) so_far ∙ sym (filter_map-append owner_user done (o ∷ []) ∙ ap (λ x. filter_map owner_user done ++ filter_map owner_user (x ∷ [])) is)

pub users_same : (done : List Owner) (o : Owner) (name : List ℕ) (old : List (List ℕ)) → o ≡ owner.Group name → old ≡ filter_map owner_user done → old ≡ filter_map owner_user (done ++ o ∷ [])
users_same done o name old is so_far =
    so_far ∙ sym (filter_map-append owner_user done (o ∷ []) ∙ ap (λ x. filter_map owner_user done ++ filter_map owner_user (x ∷ [])) is ∙ append-nil _)

pub groups_more : (done : List Owner) (o : Owner) (name : List ℕ) (old new : List (List ℕ)) → o ≡ owner.Group name → old ≡ filter_map owner_group done → new ≡ old ++ name ∷ [] → new ≡ filter_map owner_group (done ++ o ∷ [])
groups_more done o name old new is so_far more =
    more ∙ ap (λ xs. xs ++ name ∷ []) so_far ∙ sym (filter_map-append owner_group done (o ∷ []) ∙ ap (λ x. filter_map owner_group done ++ filter_map owner_group (x ∷ [])) is)

pub groups_same : (done : List Owner) (o : Owner) (login : List ℕ) (old : List (List ℕ)) → o ≡ owner.User login → old ≡ filter_map owner_group done → old ≡ filter_map owner_group (done ++ o ∷ [])
groups_same done o login old is so_far =
    so_far ∙ sym (filter_map-append owner_group done (o ∷ []) ∙ ap (λ x. filter_map owner_group done ++ filter_map owner_group (x ∷ [])) is ∙ append-nil _)
