use Rattle.std.proofs.Common.{◌∙◌}
use Rattle.peer_view.proofs.WorldLaws.{any_site, places_reach}
use Rattle.peer_view.proofs.by_id.id_reaches.Goals as goal

pub returns-in-Ok-Ok : goal.returns-in-Ok-Ok
returns-in-Ok-Ok c =
    let x = c.args.expanded.now in
    record {
      value = c.reaches.ensures.value any_site
          ∙ places_reach x.groups x.rules x.sites c.sites-sites.result.now c.args.a.id c.args.b.id c.in-Ok-Ok.a c.in-Ok-Ok.b c.sites-sites.ensures.value c.in-Ok-Ok.ensures.there c.in-Ok-Ok.ensures'.there;
    }
