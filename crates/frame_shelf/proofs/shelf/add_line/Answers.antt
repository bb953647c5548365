use Rattle.std.proofs.Common.{List, ap, subst, sym, ◌∙◌}
use Rattle.frame_shelf.specs.Shelves.{IsShelf, ShelfLine, without_surplus}
use Rattle.frame_shelf.proofs.LineLemmas.{shelf_with}
use Rattle.frame_shelf.proofs.shelf.add_line.Goals as goal

pub returns : goal.returns
returns c =
    let added = c.shorten.ensures.value ∙ ap (λ (ls : List ShelfLine). without_surplus ls) c.in_ok-push.ensures.items in
    record {
      ok = added;
      err = tt;
      shelf = subst IsShelf (sym added) (shelf_with c.args.lines.now.items c.args.line c.requires.shelf c.requires.none c.requires.last);
    }
