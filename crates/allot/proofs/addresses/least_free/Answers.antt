use Rattle.std.proofs.Common.{◌≡◌, ◌+◌, ◌<◌, ◌≤◌, ◌∙◌, ap, arith, false, inl, inr, sym}
use Rattle.std.proofs.Math.Pow.{pow_pos}
use Rattle.net_addr.specs.Bits.{Address, size_of}
use Rattle.allot.proofs.AddressLemmas.{free_at, free_bits, is_address_at, free_at-is, free_at-not, free_address-found, free_address-none, last_not_free}
use Rattle.allot.proofs.SearchLemmas.{LeadsOn-found, LeadsOn-next, LeadsOn-end}
use Rattle.allot.proofs.addresses.least_free.Goals.{then-may_be_given+in-Some, else-may_be_given}
use Rattle.allot.proofs.addresses.least_free.Goals as goal

pub new-addr-requires : goal.new-addr-requires
new-addr-requires c =
    let family : c.is_v6-v6.result ≡ c.args.prefix.now.base.v6 = c.is_v6-v6.ensures.value ∙ ap (λ (a : Address). a.v6) c.base.ensures.value in
    record { in_family = rw family (omega arith) }

pub returns-in-None : goal.returns-in-None
returns-in-None c =
    let p = c.args.prefix.now in
    let machines = c.args.machines.now in
    let is = is_address_at p c.base.result c.new-addr.result c.is_v6-v6.result c.loop-bits.bits c.base.ensures.value c.is_v6-v6.ensures.value c.new-addr.ensures.value in
    let passes = free_at-is p machines c.new-addr.result c.loop-bits.bits is (sym c.may_be_given.ensures.value ∙ c.if-may_be_given.true) (sym c.in-None.ensures.value) in
    let lt : c.loop-bits.bits < p.base.bits + size_of p = omega (arith, c.last-bits-end.ensures.value) in
    record { value = free_address-found p machines c.new-addr.result c.loop-bits.bits is (LeadsOn-found (free_at p machines) _ _ _ c.loop-bits.invariant lt passes) }

pub loop-bits-preserved : goal.loop-bits-preserved
loop-bits-preserved c =
    let p = c.args.prefix.now in
    let machines = c.args.machines.now in
    let is = is_address_at p c.base.result c.new-addr.result c.is_v6-v6.result c.loop-bits.bits c.base.ensures.value c.is_v6-v6.ensures.value c.new-addr.ensures.value in
    let fails : free_at p machines c.loop-bits.bits ≡ false =
    elim c.if-may_be_given.branch [
      | then-may_be_given+in-Some w ↦ free_at-not p machines c.new-addr.result c.loop-bits.bits is (inr (sym w.in-Some.ensures.value))
      | else-may_be_given w ↦ free_at-not p machines c.new-addr.result c.loop-bits.bits is (inl (sym c.may_be_given.ensures.value ∙ w.if-may_be_given.false))
    ] in
    let lt : c.loop-bits.bits < p.base.bits + size_of p = omega (arith, c.last-bits-end.ensures.value) in
    LeadsOn-next (free_at p machines) _ _ (free_bits p machines) c.loop-bits.invariant lt fails

pub returns : goal.returns
returns c =
    let p = c.args.prefix.now in
    let machines = c.args.machines.now in
    let some : 0 < size_of p = pow_pos _ in
    let first : c.bits-bits.result ≡ p.base.bits = c.bits-bits.ensures.value ∙ ap (λ (a : Address). a.bits) c.base-2.ensures.value in
    let order : c.bits-bits.result ≤ c.last-bits-end.result = omega (arith, c.last-bits-end.ensures.value) in
    let last : c.loop-bits.bits + 1 ≡ p.base.bits + size_of p = omega (arith, c.last-bits-end.ensures.value, c.loop-bits.auto.bits-end order) in
    let next = LeadsOn-next (free_at p machines) _ _ (free_bits p machines) c.loop-bits.invariant (omega arith) (last_not_free p machines c.loop-bits.bits last) in
    let none = LeadsOn-end (free_at p machines) _ (free_bits p machines) (rw last at next) in
    record { value = free_address-none p machines none }
