use Rattle.std.proofs.Common.{◌≡◌, ◌∷◌, true, rules}
use Rattle.policy_sites.specs.Fitting.{same_site}
use Rattle.policy_sites.specs.Sites.{is_among}
use Rattle.policy_sites.proofs.FittingLemmas.{behind_same}
use Rattle.policy_sites.proofs.fitting.sites_behind.Goals as goal

pub returns-then-same_site : goal.returns-then-same_site
returns-then-same_site c =
    let passes : is_among c.args.live.now c.args.machine.now ≡ true = search rules in
    let front : c.args.sites.now ≡ c.in_ok-site.site.now ∷ c.in_ok-site.rest.now = search rules in
    let same : same_site c.args.tables.now.rows.users c.in_ok-site.site.now c.args.machine.now ≡ true = search rules in
    record {
      behind = behind_same c.args.tables.now.rows.users c.args.live.now c.args.machine.now c.args.sites.now c.in_ok-site.site.now c.in_ok-site.rest.now passes front same;
    }
