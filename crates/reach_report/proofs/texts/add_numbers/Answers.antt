use Rattle.std.proofs.Common.{◌≡◌, ◌<◌, ◌^◌, ◌++◌, ◌∷◌, [], ℕ, List, ap, arith, decimal, ◌∙◌}
use Rattle.csv.specs.Writing.{default_writer, row_text}
use Rattle.reach_report.proofs.TextLemmas.{moved, numbers_record, ok_moved}
use Rattle.reach_report.proofs.texts.add_numbers.Goals as goal

pub returns : goal.returns
returns c =
    let from : c.as_bytes.result.now ≡ decimal c.args.from = c.as_bytes.ensures.value ∙ c.format.ensures.text in
    let to : c.as_bytes-2.result.now ≡ decimal c.args.to = c.as_bytes-2.ensures.value ∙ c.format-2.ensures.text in
    let rule : c.as_bytes-3.result.now ≡ decimal c.args.rule = c.as_bytes-3.ensures.value ∙ c.format-3.ensures.text in
    let from_small : c.args.from < 2 ^ 64 = omega (arith, c.ranges.from.fits) in
    let to_small : c.args.to < 2 ^ 64 = omega (arith, c.ranges.to.fits) in
    let rule_small : c.args.rule < 2 ^ 64 = omega (arith, c.ranges.rule.fits) in
    let text = (λ i. row_text default_writer (from i ∷ to i ∷ rule i ∷ [])) ∙ numbers_record c.args.from c.args.to c.args.rule from_small to_small rule_small in
    record { ok = ok_moved c.add_record.result _ _ (λ f bytes h. moved _ _ _ _ (ap (λ (line : List ℕ). bytes ++ line) text) (f bytes h)) c.add_record.ensures.ok }
