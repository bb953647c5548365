use Rattle.std.proofs.Common.{◌≡◌, ◌++◌, List, false, rules, subst, sym, ap, ◌∙◌}
use Rattle.std.specs.Prelude.{Contains, slice_index_or}
use Rattle.std.proofs.lemmas.List.{append-nil}
use Rattle.std.proofs.lemmas.Option.{slice_get-get_or}
use Rattle.policy_sites.specs.ByRule.{takes}
use Rattle.policy_sites.specs.declared.site.Site.{Site}
use Rattle.policy_eval.proofs.CoverLemmas.{get_member}
use Rattle.tailcfg.specs.declared.filter.FilterRule.{FilterRule}
use Rattle.filter_compile.proofs.TakeLemmas.{plain_none}
use Rattle.filter_compile.proofs.filter.add_plain_rule.Goals as goal

pub returns-then-not-takes : goal.returns-then-not-takes
returns-then-not-takes c =
    let x = c.args.expanded.now in
    let r = c.args.rule.now in
    let m = c.args.machine.now in
    let fails : c.takes.result ≡ false = search rules in
    let inside : Contains x.sites m = subst (λ (s : Site). Contains x.sites s) (c.requires.fit.there m) (get_member x.sites c.args.holdings.now.place (slice_index_or x.sites c.args.holdings.now.place m) (slice_get-get_or x.sites c.args.holdings.now.place m c.requires.fit.inside)) in
    let none : takes x.groups r m ≡ false = (λ i. takes x.groups (sym (c.requires.same r) i) (sym (c.requires.fit.there m) i)) ∙ (sym (c.takes.ensures.value r m) ∙ fails) in
    record {
      ok = sym (append-nil c.args.out.now) ∙ ap (λ (more : List FilterRule). c.args.out.now ++ more) (plain_none x.groups x.sites m r c.sites-sites.ensures.distinct c.sites-sites.ensures.apart inside none);
    }
