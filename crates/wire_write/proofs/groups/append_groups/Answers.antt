use Rattle.std.proofs.Common.{◌≡◌, ℕ, List, sym, ap, ◌∙◌, arith}
use Rattle.std.proofs.lemmas.List.{length-take-le}
use Rattle.net_addr.specs.GroupTexts.{longest_run, start_of_run}
use Rattle.net_addr.proofs.GroupLemmas.{run_fits}
use Rattle.wire_write.proofs.groups.append_groups.Goals as goal

pub slice_bounds-append_joined-end : goal.slice_bounds-append_joined-end
slice_bounds-append_joined-end c =
    let groups : List ℕ = c.args.groups.now in
    let fits = run_fits groups (omega (arith, c.longest_run-n.ensures.value)) in
    let start : c.start_of_run-at.result ≡ start_of_run (longest_run groups) groups = c.start_of_run-at.ensures.value ∙ ap (λ n. start_of_run n groups) c.longest_run-n.ensures.value in
    sym (length-take-le c.start_of_run-at.result groups (omega arith))
