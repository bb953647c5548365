use Rattle.std.proofs.Common.{◌≡◌, ◌≤◌, ◌-◌, ◌∙◌, ℕ, List, length, ap, arith}
use Rattle.std.specs.Prelude.{nat_le}
use Rattle.std.specs.List.{list_all}
use Rattle.tailcfg.specs.declared.response.Response.{Response}
use Rattle.frame_shelf.specs.Shelves.{AreLast, ShelfLine, has_behind, holds_number, numbers_behind}
use Rattle.frame_shelf.proofs.NumberLemmas.{reached_by_count}
use Rattle.frame_shelf.proofs.line.FrameLine.has_behind.Goals as goal

counted : (number many last : ℕ) (rs : List Response) → AreLast last rs → number ≤ last → many ≡ length rs
    → nat_le (last - number) many ≡ list_all (holds_number rs) (numbers_behind number last)
counted number many last rs are below same =
    ap (λ (n : ℕ). nat_le (last - number) n) same ∙ reached_by_count number last rs are below

pub returns : goal.returns
returns c =
    let line = c.self.inside in
    let below : c.args.number ≤ line.last = omega (arith, ap (λ (l : ShelfLine). l.last) c.self.view_is) in
    record {
      value =
          counted c.args.number c.len.result line.last line.responses.items c.self.invariant.1 below c.len.ensures.len
          ∙ ap (λ (l : ShelfLine). has_behind c.args.number l) c.self.view_is;
    }
