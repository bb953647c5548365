use Rattle.std.proofs.Common.{◌≡◌, ◌-◌, ◌^◌, ℕ, bit_and, ap, ◌∙◌}
use Rattle.std.proofs.lemmas.Nat.{and_mask}
use Rattle.net_addr.specs.Bits.{family_bits}
use Rattle.net_addr.proofs.prefix.host_bits.Goals as goal

pub returns : goal.returns
returns c =
    let n : ℕ = c.args.base.bits in
    let k : ℕ = family_bits c.args.base.v6 - c.args.len in
    let count : c.family_bits.result - c.args.len ≡ k = cc in
    let mask : c.ones.result ≡ 2 ^ k - 1 = c.ones.ensures.value ∙ ap (λ m. 2 ^ m - 1) count in
    record { value = ap (λ x. bit_and x c.ones.result) c.bits.ensures.value ∙ ap (bit_and n) mask ∙ and_mask n k }
