-- Pieces are read only behind bytes that want more.
use Rattle.std.proofs.Common.{◌≡◌, ◌∙◌, ◌⊎◌, ℕ, ◌<◌, ◌≤◌, List, [], ◌∷◌, ◌++◌, length, refl, ap, subst, inl, inr, arith, append-nil}
use Rattle.http_front.specs.Requests.{IsTail, IsUnfinished, cut}
use Rattle.http_front.specs.Taking.{IsNeeded, WantsMore, piece_limit}

needed_of : (held all front piece : List ℕ) → all ≡ front ++ piece → length piece ≤ piece_limit → WantsMore (held ++ front) → IsNeeded held all
needed_of held [] front piece is few wants = tt
needed_of held (byte ∷ more) front piece is few wants = (front, piece, is, few, wants)

-- one more piece
pub needed_more : (held now read piece : List ℕ) → now ≡ held ++ read → length piece ≤ piece_limit → WantsMore now → IsNeeded held (read ++ piece)
needed_more held now read piece is few wants = needed_of held (read ++ piece) read piece refl few (subst WantsMore is wants)

-- what wants more after bytes were read wanted more before
pub wants_first : {X : Type 0} (held now read : List ℕ) → now ≡ held ++ read → ((read ≡ []) × X) ⊎ WantsMore held → WantsMore now → WantsMore held
wants_first held now read is (inl none) wants = subst WantsMore (is ∙ ap (λ r. held ++ r) none.0 ∙ append-nil held) wants
wants_first held now read is (inr first) wants = first

pub idle_still : {A X Y : Type 0} → (A × X) ⊎ Y → X ⊎ Y
idle_still (inl p) = inl p.1
idle_still (inr y) = inr y

some_of : (xs : List ℕ) → (xs ≡ [] → ⊥) → 0 < length xs
some_of [] none = absurd (none refl)
some_of (x ∷ xs) none = omega arith

-- the input ended within a request
pub is_cut : (bytes now : List ℕ) → now ≡ bytes → (now ≡ [] → ⊥) → WantsMore now → IsTail bytes cut
is_cut bytes now same some wants = let long = some_of now some in (subst (λ b. 0 < length b) same long, subst IsUnfinished same (wants.0 long))
