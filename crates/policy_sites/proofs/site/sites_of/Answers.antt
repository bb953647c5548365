use Rattle.std.proofs.Common.{◌∙◌, ℕ, List, ap, sym, subst}
use Rattle.std.specs.Option.{option_copied}
use Rattle.std.specs.Prelude.{filter, map}
use Rattle.net_rows.specs.declared.machine.Machine.{Machine}
use Rattle.policy_sites.specs.Sites.{AreServedApart, AreDistinct, is_among, site_of}
use Rattle.policy_sites.specs.declared.site.Site.{Site}
use Rattle.policy_sites.proofs.SiteLemmas.{one_site, sites_apart}
use Rattle.policy_sites.proofs.site.sites_of.Goals as goal

pub returns-clause-distinct : goal.returns-clause-distinct
returns-clause-distinct c =
    let live = ap (λ (ids : List ℕ). map (site_of (option_copied c.args.policy) c.args.tables.now.rows.users) (filter (is_among ids) c.machines-machines.result.now)) c.of-listed.ensures.value in
    let all = ap (λ (ms : List Machine). map (site_of (option_copied c.args.policy) c.args.tables.now.rows.users) (filter (is_among c.args.live.now) ms)) c.machines-machines.ensures.value in
    subst (λ (ss : List Site). AreDistinct ss) (sym (c.in_ok-sites.ensures.value ∙ live ∙ all)) (one_site (option_copied c.args.policy) c.args.tables.now.rows c.args.live.now c.machines-machines.ensures.sound)

pub returns-clause-apart : goal.returns-clause-apart
returns-clause-apart c =
    let live = ap (λ (ids : List ℕ). map (site_of (option_copied c.args.policy) c.args.tables.now.rows.users) (filter (is_among ids) c.machines-machines.result.now)) c.of-listed.ensures.value in
    let all = ap (λ (ms : List Machine). map (site_of (option_copied c.args.policy) c.args.tables.now.rows.users) (filter (is_among c.args.live.now) ms)) c.machines-machines.ensures.value in
    subst (λ (ss : List Site). AreServedApart ss) (sym (c.in_ok-sites.ensures.value ∙ live ∙ all)) (sites_apart (option_copied c.args.policy) c.args.tables.now.rows c.args.live.now c.machines-machines.ensures.sound)
