use Rattle.std.proofs.Common.{◌≡◌, ℕ, List, ◌∷◌, ◌-◌, ◌<◌, ◌^◌, length, take, sym, ap, ◌∙◌, true, subst, arith}
use Rattle.std.specs.Fmt.{decimal}
use Rattle.tail_base.specs.Labels.{is_label, numbered_label, trimmed_end}
use Rattle.tail_base.proofs.NumberLemmas.{front_ascii, numbered_is_label, ending_short}
use Rattle.tail_base.proofs.label.Label.numbered.Goals as goal

pub overflow_sub-len : goal.overflow_sub-len
overflow_sub-len c =
    let n : ℕ = c.args.n in
    let small : n < 2 ^ 32 = c.ranges.n.fits in
    let is : c.from_string-ending.result ≡ 45 ∷ decimal n = cc (c.in_ok-format.ensures.ok) in
    omega (arith, c.len.ensures.value, ap length is, ending_short n small)

pub from_ascii-requires : goal.from_ascii-requires
from_ascii-requires c =
    let is : c.trimmed_end-front.result.now ≡ trimmed_end (take (63 - c.len.result) c.args.self.now) = cc in
    record { ascii = rw is (front_ascii (63 - c.len.result) c.args.self.now c.as_slice.ensures.label) }

pub invariant_of-result : goal.invariant_of-result
invariant_of-result c =
    let n : ℕ = c.args.n in
    let small : n < 2 ^ 32 = c.ranges.n.fits in
    let ending : c.from_string-ending.result ≡ 45 ∷ decimal n = cc (c.in_ok-format.ensures.ok) in
    let room : c.len.result ≡ length (45 ∷ decimal n) = c.len.ensures.value ∙ ap length ending in
    let front : c.trimmed_end-front.result.now ≡ trimmed_end (take (63 - length (45 ∷ decimal n)) c.args.self.now) = cc in
    let is : c.push.new.self ≡ numbered_label c.args.self.now n = cc (c.in_ok-push.ensures.ok, c.in_ok-text.ensures.value) in
    subst (λ (text : List ℕ). is_label text ≡ true) (sym is) (numbered_is_label c.args.self.now n small c.as_slice.ensures.label)
