-- A client's map is the fold of what it took.
use Rattle.std.proofs.Common.{◌≡◌, List, [], ◌∷◌, Bool, true, false, None, ap}
use Rattle.std.specs.Prelude.{Ok, Err, Result, unwrap_or, cond}
use Rattle.tail_base.specs.Steps.{◌>>=◌}
use Rattle.tailcfg.specs.declared.response.Response.{Response}
use Rattle.map_delta.specs.Fold.{fold_all}
use Rattle.netmap_client.specs.Follows.{follow_all, followed, follows, untold}
use Rattle.netmap_client.specs.declared.follower.Follower.{Follower}
use Rattle.netmap_client.specs.declared.follower.OutOfOrder.{OutOfOrder}

taken : (b : Bool) (next : Follower) (fault : OutOfOrder) (rs : List Response) (f : Follower) → (cond b (Ok next) (Err fault) >>= λ g. follow_all g rs) ≡ Ok f → follow_all next rs ≡ Ok f
taken true next fault rs f e = e
taken false next fault rs f e = absurd (cc (e))

abbrev ok : Follower → Result Follower OutOfOrder
ok f = Ok f

same : (g f : Follower) → ok g ≡ ok f → f ≡ g
same g f e = cc (e)

views_follow : (rs : List Response) (g f : Follower) → follow_all g rs ≡ Ok f → f.view ≡ fold_all g.view rs
views_follow [] g f e = ap (λ (h : Follower). h.view) (same g f e)
views_follow (r ∷ rs) g f e =
    views_follow rs (followed g r) f (taken (follows g.seq r r.seq) (followed g r) (record { had = g.seq; got = unwrap_or r.seq 0 }) rs f e)

pub views_are_folds : (rs : List Response) (f : Follower) → follow_all untold rs ≡ Ok f → f.view ≡ fold_all None rs
views_are_folds rs f e = views_follow rs untold f e
