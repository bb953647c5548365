use Rattle.std.proofs.Common.{◌≡◌, ◌≤◌, ℕ, Some, List, length, take, drop, ◌+◌, ◌-◌, ◌++◌, ap, sym, ◌∙◌, arith, length-take, length-drop}
use Rattle.std.proofs.lemmas.Grind.{common_steps}
use Rattle.std.proofs.lemmas.List.{take-append-le, take-append-drop, drop-drop}
use Rattle.memory_edge.specs.declared.link.MemoryLink.{MemoryLink}
use Rattle.memory_edge.proofs.link.MemoryLinkSource.read.Goals as goal

-- what was copied, and then the rest, is what was left
moved : (b z x : List ℕ) (at n : ℕ) → at + n ≤ length b → x ≡ take n (drop at b) → take n (x ++ z) ++ drop (at + n) b ≡ drop at b
moved b z x at n h e =
    let long : length x ≡ n = ap length e ∙ simp (length-take, length-drop) (omega arith) in
    let le : n ≤ length x = omega arith in
    rw (take-append-le n x z le, e, ← drop-drop n at b) (grind (arith, common_steps, take-append-drop))

pub returns-clause-moved : goal.returns-clause-moved
returns-clause-moved c =
    let link = c.fails_next.new.self in
    let n = c.min-n.result in
    let same : link.at + n - link.at ≡ n = omega arith in
    let copied = rw (same, c.as_slice.ensures.value) at c.copy_from_slice.ensures.after in
    let still = ap (λ (l : MemoryLink). drop l.at l.answer) (sym c.fails_next.ensures.same) in
    ap Some (still ∙ sym (moved link.answer _ c.copy_from_slice.new.self link.at n (omega arith) copied))
