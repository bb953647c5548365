use Rattle.std.proofs.Common.{◌≡◌, ◌<◌, ℕ, false, true, arith, ap, inl, inr, refl}
use Rattle.std.specs.Prelude.{Option, Some, None}
use Rattle.std.proofs.lemmas.Bool.{both_ways, cases_lt, eq-eqb, or_left}
use Rattle.port_sets.specs.Protocols.{IsProtos, has_member}
use Rattle.filter_compile.proofs.protocols.only_proto.Goals as goal

-- none of the usual ones, and no other than the greatest
left_over : (protos : Option ℕ) → IsProtos protos → ((k : ℕ) → k < 255 → has_member protos k ≡ false) → Some 255 ≡ protos
left_over None sound none = absurd (both_ways true (none 1 (omega arith)) refl)
left_over (Some p) sound none =
    elim (cases_lt p 255) [
      | inl less ↦ absurd (both_ways (has_member (Some p) p) (none p less) (or_left _ _ (eq-eqb p p refl)))
      | inr more ↦ (let most = sound.1 in let same : 255 ≡ p = omega arith in ap Some same)
    ]

pub returns : goal.returns
returns c = record { value = left_over c.args.protos.now c.holds.ensures.sound (λ k h. let end = c.loop-proto-test.false in c.loop-proto.invariant k (omega arith)) }
