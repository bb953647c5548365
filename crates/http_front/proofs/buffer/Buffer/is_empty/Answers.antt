use Rattle.std.proofs.Common.{◌≡◌, length, drop, sym, ap, ◌∙◌, arith, length-drop}
use Rattle.std.proofs.lemmas.Bool.{eq-eqb, eqb-true}
use Rattle.std.proofs.lemmas.List.{drop_all}
use Rattle.http_front.proofs.buffer.Buffer.is_empty.Goals as goal

pub returns : goal.returns
returns c =
    let items = c.self.inside.bytes.items in
    let at = c.self.inside.at in
    record {
      value = (
        λ all. (let same : at ≡ c.len.result = eqb-true at c.len.result all in sym c.self.view_is ∙ drop_all at items (omega arith)),
        λ none.
            (let left : length (drop at items) ≡ 0 = ap length (c.self.view_is ∙ none) in
            let same : at ≡ c.len.result = omega (arith, length-drop at items) in
            eq-eqb at c.len.result same),
      );
    }
