use Rattle.std.proofs.Common.{◌≡◌, ℕ, List, true, sym, ◌∙◌, arith}
use Rattle.std.specs.List.{between}
use Rattle.tail_base.specs.Labels.{is_label}
use Rattle.settings.proofs.LabelLemmas.{after_byte, after_dot}
use Rattle.settings.proofs.domain.are_labels.Goals as goal
use Rattle.settings.proofs.domain.are_labels.Goals.{then-text-i-eq46+else-not-is_label, else-text-i-eq46}

pub loop-i-preserved : goal.loop-i-preserved
loop-i-preserved c =
    let text : List ℕ = c.args.text.now in
    let start : ℕ = c.loop-i.start in
    let i : ℕ = c.loop-i.i in
    let before = c.loop-i.invariant in
    elim c.if-text-i-eq46.branch [
      | then-text-i-eq46+else-not-is_label w ↦
          let good : is_label (between start i text) ≡ true = sym w.is_label.ensures.value ∙ w.if-not-is_label.false in
          rw w.start-is (omega arith, before.1 ∙ after_dot text start i c.loop-i-test.true w.if-text-i-eq46.true good)
      | else-text-i-eq46 w ↦ rw w.start-is (omega arith, before.1 ∙ after_byte text start i before.0 c.loop-i-test.true w.if-text-i-eq46.false)
    ]
