use Rattle.std.proofs.Common.{◌∙◌, subst, sym}
use Rattle.std.specs.List.Sorted.{IsStrictlySortedBy}
use Rattle.settings.specs.Settings.{suffix_cmp}
use Rattle.tail_words.proofs.RouteLemmas.{none_rise, unwrapped_rise}
use Rattle.tail_words.proofs.dns.routes_of.Goals as goal

pub returns-in_ok-routes-in-Some-clause-suffixes : goal.returns-in_ok-routes-in-Some-clause-suffixes
returns-in_ok-routes-in-Some-clause-suffixes c =
    subst (IsStrictlySortedBy suffix_cmp) (sym c.unwrap_or.ensures)
    (unwrapped_rise c.in_ok-routes-in-Some.field-0 c.new.result c.new.ensures.value c.in_ok-routes-in-Some.ensures.suffixes)

pub returns-in-None-clause-suffixes : goal.returns-in-None-clause-suffixes
returns-in-None-clause-suffixes c = none_rise c.new-in-None.result c.new-in-None.ensures.value
