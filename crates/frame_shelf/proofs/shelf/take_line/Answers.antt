use Rattle.std.proofs.Common.{◌≡◌, ◌<◌, ◌∙◌, List, Some, None, ap, arith, length, subst, sym}
use Rattle.std.specs.List.{position_from}
use Rattle.frame_shelf.specs.Shelves.{IsShelf, ShelfLine, is_line_of, shelf_line}
use Rattle.frame_shelf.proofs.LineLemmas.{find_others, line_gone, line_inside, line_there, no_line, no_line_gone, shelf_without}
use Rattle.frame_shelf.proofs.shelf.take_line.Goals as goal

pub remove-requires : goal.remove-requires
remove-requires c =
    let lines = c.args.lines.now.items in
    let key = c.args.machine.now in
    let found : position_from (is_line_of key) 0 lines ≡ Some c.in-Some.place =
    ap (λ (ls : List ShelfLine). position_from (is_line_of key) 0 ls) (sym c.as_slice.ensures.value) ∙ sym c.in-Some.ensures.value in
    let inside : c.in-Some.place < length lines = line_inside key lines c.in-Some.place c.requires.shelf found in
    omega (arith, c.args.lines.now.ok.0)

pub returns-in-Some : goal.returns-in-Some
returns-in-Some c =
    let lines = c.args.lines.now.items in
    let key = c.args.machine.now in
    let found : position_from (is_line_of key) 0 lines ≡ Some c.in-Some.place =
    ap (λ (ls : List ShelfLine). position_from (is_line_of key) 0 ls) (sym c.as_slice.ensures.value) ∙ sym c.in-Some.ensures.value in
    let rest = c.remove.ensures.items ∙ line_gone key lines c.in-Some.place c.requires.shelf found in
    record {
      line = ap Some c.remove.ensures.value ∙ sym (line_there key lines c.in-Some.place c.remove.result c.requires.shelf found);
      rest = rest;
      shelf = subst IsShelf (sym rest) (shelf_without key lines c.requires.shelf);
      none = ap (λ (ls : List ShelfLine). shelf_line ls key) rest ∙ find_others (is_line_of key) lines;
    }

pub returns-in-None : goal.returns-in-None
returns-in-None c =
    let lines = c.args.lines.now.items in
    let key = c.args.machine.now in
    let none : position_from (is_line_of key) 0 lines ≡ None =
    ap (λ (ls : List ShelfLine). position_from (is_line_of key) 0 ls) (sym c.as_slice.ensures.value) ∙ sym c.in-None.ensures.value in
    record {
      line = sym (no_line key lines none);
      rest = no_line_gone key lines none;
      shelf = c.requires.shelf;
      none = no_line key lines none;
    }
