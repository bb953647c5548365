-- What is heard of a connection that broke off.
use Rattle.std.proofs.Common.{◌≡◌, ℕ, true, false, Option, None, Some, List, [], ◌∷◌, ◌++◌, inl, inr, refl, sym, ap, ◌∙◌, append_assoc}
use Rattle.connections.specs.Exchanges.{Exchange, AreUnbroken, answers_of}
use Rattle.exit_status.specs.Pieces.{IsPrefix}
use Rattle.connections.specs.Connection.{IsBrokenOff, IsExtra}
use Rattle.connections.specs.Polls.{heard_of}
use Rattle.exit_status.specs.declared.closed.Closed.{Closed}

not_none : (xs : List Exchange) (y : Exchange) (ys : List Exchange) → (xs ++ y ∷ ys) ≡ [] → ⊥
not_none [] y ys e = cc
not_none (x ∷ xs) y ys e = cc

-- an answer was written, and behind it a front of what was left
behind : (bytes tail written front : List ℕ) → written ≡ bytes ++ tail → IsPrefix front tail → IsPrefix (bytes ++ front) written
behind bytes tail written front e p = (p.0, e ∙ ap (λ t. bytes ++ t) p.1 ∙ sym (append_assoc bytes front p.0))

-- behind exchanges stands another: their answers were written whole
pub heard : (xs : List Exchange) (y : Exchange) (ys : List Exchange) (extra written : List ℕ) → IsBrokenOff (xs ++ y ∷ ys) extra written → IsPrefix (answers_of xs) written
heard [] y ys extra written h = (written, refl)
heard (x ∷ xs) y ys extra written (inl h) = absurd (not_none xs y ys h.1)
heard (x ∷ xs) y ys extra written (inr h) = behind x.bytes h.0 written (answers_of xs) h.2 (heard xs y ys extra h.0 h.3)

-- behind them stands a refusal: their answers were written whole
pub heard_before_refusal : (xs : List Exchange) (b : ℕ) (bs written : List ℕ) → IsBrokenOff xs (b ∷ bs) written → IsPrefix (answers_of xs) written
heard_before_refusal [] b bs written h = (written, refl)
heard_before_refusal (x ∷ xs) b bs written (inl h) = absurd (let e : (b ∷ bs) ≡ [] = h.2 in cc)
heard_before_refusal (x ∷ xs) b bs written (inr h) = behind x.bytes h.0 written (answers_of xs) h.2 (heard_before_refusal xs b bs h.0 h.3)

-- no writing broke off before the last
pub unbroken : (xs : List Exchange) (y : Exchange) (ys : List Exchange) (extra written : List ℕ) → IsBrokenOff (xs ++ y ∷ ys) extra written → AreUnbroken xs
unbroken [] y ys extra written h = tt
unbroken (x ∷ xs) y ys extra written (inl h) = absurd (not_none xs y ys h.1)
unbroken (x ∷ xs) y ys extra written (inr h) = (h.1, unbroken xs y ys extra h.0 h.3)

nothing_of : (xs ys : List ℕ) → [] ≡ xs ++ ys → xs ≡ []
nothing_of [] ys e = refl
nothing_of (x ∷ xs) ys e = absurd (cc)

-- nothing was written: one request was served at most, but for those whose answers are empty
pub nothing_heard : (xs : List Exchange) (y : Exchange) (ys : List Exchange) (extra : List ℕ) → IsBrokenOff (xs ++ y ∷ ys) extra [] → answers_of xs ≡ []
nothing_heard xs y ys extra h = let p = heard xs y ys extra [] h in nothing_of (answers_of xs) p.0 p.1

-- an exchange ended the connection: nothing is answered behind it
pub ended_quiet : (c : Closed) (rest extra : List ℕ) → IsExtra (Some c) rest extra → extra ≡ []
ended_quiet c rest extra (inl e) = e
ended_quiet c rest extra (inr h) = absurd (let e : Some c ≡ None = h.0 in cc)

-- of an answer that broke off, all was written that a poll was replied before its last drain
pub heard_before_last : (x : Exchange) (extra written : List ℕ) → IsBrokenOff (x ∷ []) extra written → x.broken ≡ true → IsPrefix (heard_of x.turns) written
heard_before_last x extra written (inl h) broken = h.4
heard_before_last x extra written (inr h) broken = absurd (let clash : true ≡ false = sym broken ∙ h.1 in cc)
