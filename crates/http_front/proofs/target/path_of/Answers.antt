use Rattle.std.proofs.Common.{sym, ap, ◌∙◌, take, eqb, rules, tests}
use Rattle.std.proofs.lemmas.List.{take_all}
use Rattle.std.proofs.lemmas.Iterator.{YieldsList-from_slice}
use Rattle.std.proofs.lemmas.Iterator.Search.{position_from_yields_List}
use Rattle.http_front.proofs.PathLemmas.{position_found, position_not_found}
use Rattle.http_front.proofs.target.path_of.Goals as goal

pub returns-in-Some : goal.returns-in-Some
returns-in-Some c =
    let found = position_from_yields_List (λ b. eqb b 63) _ _ c.position.result c.position.ensures.ran (YieldsList-from_slice _ c.iter.ensures.rest) (λ x b q k. search (rules, tests)) in
    record { value = ap (λ n. take n c.args.target.now) (sym (position_found (λ b. eqb b 63) c.args.target.now c.in-Some.end (sym found ∙ c.in-Some.is))) }

pub returns-in-None : goal.returns-in-None
returns-in-None c =
    let found = position_from_yields_List (λ b. eqb b 63) _ _ c.position.result c.position.ensures.ran (YieldsList-from_slice _ c.iter.ensures.rest) (λ x b q k. search (rules, tests)) in
    record { value = sym (take_all _ c.args.target.now (position_not_found (λ b. eqb b 63) c.args.target.now (sym found ∙ c.in-None.is))) }
