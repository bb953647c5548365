use Rattle.std.proofs.Common.{◌≡◌, ℕ, List, false, drop, sym, ap, ◌∙◌, arith}
use Rattle.std.specs.Prelude.{nat_eq, codes}
use Rattle.std.specs.List.{starts_with}
use Rattle.std.proofs.lemmas.List.{take_rest}
use Rattle.net_addr.proofs.GapLemmas.{gap_next}
use Rattle.net_addr.proofs.group_reader.gap.Goals as goal

pub loop-i-preserved : goal.loop-i-preserved
loop-i-preserved c =
    let text : List ℕ = c.args.text.now in
    let i : ℕ = c.loop-i.i in
    let other : starts_with nat_eq (drop i text) (codes "::") ≡ false =
    sym (ap (λ (xs : List ℕ). starts_with nat_eq xs (codes "::")) (take_rest text i)) ∙ sym c.starts_with.ensures.value ∙ c.if-starts_with.false in
    gap_next text i _ (omega arith) other c.loop-i.invariant
