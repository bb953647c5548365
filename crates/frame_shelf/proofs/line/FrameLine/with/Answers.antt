use Rattle.std.proofs.Common.{ℕ, List, ◌≡◌, ◌≤◌, ◌-◌, refl, ap, sym, subst}
use Rattle.circular_buffer.specs.Buffer.{Buffer, buffer}
use Rattle.tailcfg.specs.declared.response.Response.{Response}
use Rattle.frame_shelf.specs.Shelves.{AreLast, held_with, response_number}
use Rattle.frame_shelf.specs.declared.limits.TheConstants.{LINE_FRAMES}
use Rattle.frame_shelf.proofs.NumberLemmas.{last_with}
use Rattle.frame_shelf.proofs.line.FrameLine.with.Goals as goal

-- what a response was put behind, and what became of it
last_made : (number : ℕ) (held before : List Response) (response : Response) (made : Buffer Response) → response_number response ≡ number → 1 ≤ response_number response
    → AreLast (number - 1) before → held ≡ before → made ≡ buffer (held_with held response) LINE_FRAMES → AreLast number made.items
last_made number held before response made is least last same put =
    let here : AreLast (number - 1) held = subst (λ (xs : List Response). AreLast (number - 1) xs) (sym same) last in
    let first : 1 ≤ number = subst (λ (n : ℕ). 1 ≤ n) is least in
    subst (λ (b : Buffer Response). AreLast number b.items) (sym put) (last_with number held response is first here)

pub invariant_of-result : goal.invariant_of-result
invariant_of-result c = (
  ap (λ (b : Buffer Response). b.capacity) c.in_ok-hold.ensures.ok,
  last_made c.unwrap_or-number.result c.in_ok-responses.responses.items _ c.args.response.now c.hold.new.held (sym c.unwrap_or-number.ensures)
      c.requires.numbered c.held_before.ensures.last (ap (λ (b : Buffer Response). b.items) c.in_ok-responses.ensures.value) c.in_ok-hold.ensures.ok,
)

pub returns-clause-last : goal.returns-clause-last
returns-clause-last c =
    last_made c.unwrap_or-number.result c.in_ok-responses.responses.items _ c.args.response.now c.hold.new.held (sym c.unwrap_or-number.ensures)
    c.requires.numbered c.held_before.ensures.last (ap (λ (b : Buffer Response). b.items) c.in_ok-responses.ensures.value) c.in_ok-hold.ensures.ok
