use Rattle.std.proofs.Common.{◌≡◌, ◌==◌, ◌+◌, ℕ, List, take, drop, Some, None, sym, ap, ◌∙◌}
use Rattle.std.specs.List.{slice_split}
use Rattle.std.proofs.lemmas.List.{take_rest}
use Rattle.net_addr.specs.declared.parts.Notation.{Notation}
use Rattle.net_addr.specs.Parts.{mark_of, parts_from, parts_of, with_part}
use Rattle.net_addr.proofs.PartLemmas.{next_part, end_part, with_next, with_none}
use Rattle.net_addr.proofs.parts.parts_of.Goals as goal

pub returns-in_err-parts : goal.returns-in_err-parts
returns-in_err-parts c =
    let notation : Notation = c.args.notation in
    let rest : List ℕ = c.loop-at.rest.now in
    let at : ℕ = c.in-Some.at in
    let leads = next_part notation c.loop-at.parts rest c.args.text.now at (sym c.end_of_part.ensures.value ∙ c.in-Some.is) c.loop-at.invariant in
    let none : with_part notation c.loop-at.parts (take at rest) ≡ None = sym c.with_part.ensures.value ∙ c.in_err-parts.was in
    record { value = c.from_residual.ensures ∙ with_none (with_part notation c.loop-at.parts (take at rest)) _ _ none leads }

pub loop-at-preserved : goal.loop-at-preserved
loop-at-preserved c =
    let notation : Notation = c.args.notation in
    let rest : List ℕ = c.loop-at.rest.now in
    let at : ℕ = c.in-Some.at in
    let parts : List ℕ = c.in_ok-parts.parts in
    let leads = next_part notation c.loop-at.parts rest c.args.text.now at (sym c.end_of_part.ensures.value ∙ c.in-Some.is) c.loop-at.invariant in
    let some : with_part notation c.loop-at.parts (take at rest) ≡ Some parts = sym c.with_part.ensures.value ∙ c.in_ok-parts.was in
    let next = with_next (with_part notation c.loop-at.parts (take at rest)) (λ longer. parts_from notation longer (slice_split (λ b. b == mark_of notation) (drop (at + 1) rest))) parts (parts_of notation c.args.text.now) some leads in
    ap (λ (bs : List ℕ). parts_from notation parts (slice_split (λ b. b == mark_of notation) bs)) (take_rest rest (at + 1)) ∙ next

pub returns : goal.returns
returns c =
    let rest : List ℕ = c.loop-at.rest.now in
    record { value = c.with_part-2.ensures.value ∙ end_part c.args.notation c.loop-at.parts rest c.args.text.now (sym c.end_of_part.ensures.value ∙ c.in_default.is) c.loop-at.invariant }
