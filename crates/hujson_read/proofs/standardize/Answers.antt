use Rattle.std.proofs.Common.{◌≡◌, ◌+◌, ℕ, ◌++◌, length, get_or, drop, take, ◌&&◌, false, ◌∙◌, arith, length-append, rules}
use Rattle.std.proofs.lemmas.Bool.Decides.{nat_tests}
use Rattle.std.proofs.lemmas.Grind.{common_steps}
use Rattle.hujson_read.specs.Standard.{is_stray}
use Rattle.hujson_read.specs.Scan.{mode_after, mark_of, is_comma}
use Rattle.hujson_read.proofs.Marking.{standard_of_marks, fault_of_marks}
use Rattle.hujson_read.proofs.Steps.{told_step, fault_step, within_more, length-settled}
use Rattle.hujson_read.proofs.standardize.Goals as goal

pub loop-at-init : goal.loop-at-init
loop-at-init c =
    let text = c.args.text.now in
    record {
      len = search rules;
      within = tt;
      told = rw c.in_ok-out.ensures.items (standard_of_marks text);
      fault = fault_of_marks text;
    }

pub loop-at-preserved : goal.loop-at-preserved
loop-at-preserved c =
    let text = c.args.text.now in
    let at = c.loop-at.at in
    let len : length c.push.new.self.items ≡ at + 1 = grind (arith, length-settled, length-append {A = ℕ}) in
    let seen : c.mark-mark.result ≡ mark_of c.loop-at.mode (get_or text at 0) (get_or text (at + 1) 0) = rw c.byte_at-next.ensures.value at c.mark-mark.ensures.value in
    let mode : c.after-mode.result ≡ mode_after c.loop-at.mode at (get_or text at 0) (get_or text (at + 1) 0) = rw c.byte_at-next.ensures.value at c.after-mode.ensures.value in
    let whole : take c.loop-at.out.len (c.settle.new.out ++ drop (length c.settle.new.out) c.loop-at.out.items) ≡ c.settle.new.out = grind (arith, common_steps) in
    let sound : (is_comma c.mark-mark.result && is_stray c.loop-at.previous) ≡ false = grind (arith, nat_tests) in
    record {
      len = len;
      within = rw c.waiting-waits.ensures.value (within_more c.loop-at.waits c.mark-mark.result c.loop-at.out.items _ at c.loop-at.invariant.within c.loop-at.invariant.len len);
      told = told_step text at _ _ _ _ c.mark-mark.result _ c.settle.new.out _ (omega arith) c.loop-at.invariant.within c.loop-at.invariant.len seen mode c.waiting-waits.ensures.value (rw (c.significant-significant.ensures.value, c.deref_mut.ensures.value) at c.settle.ensures.value) (rw (c.written.ensures.value, whole) at c.in_ok-push.ensures.items) ∙ c.loop-at.invariant.told;
      fault = fault_step text at _ _ _ _ c.mark-mark.result (omega arith) seen mode (rw c.significant-significant.ensures.value at c.or-previous.ensures) sound ∙ c.loop-at.invariant.fault;
    }
