use Rattle.std.proofs.Common.{◌≡◌, ℕ, List, sym, true, subst}
use Rattle.tail_base.specs.Labels.{is_label, label_of_host}
use Rattle.tail_base.proofs.HostLemmas.{label_of_host_is_label}
use Rattle.tail_base.proofs.LabelLemmas.{label_ascii}
use Rattle.tail_base.proofs.label.Label.of_host.Goals as goal

name_is : (c : goal.After-or_node-name) → c.or_node-name.result.now ≡ label_of_host c.args.host.now
name_is c = cc (c.in_ok-text.ensures.value)

pub from_ascii-requires : goal.from_ascii-requires
from_ascii-requires c =
    let is = name_is c in
    record { ascii = rw is (label_ascii _ (label_of_host_is_label c.args.host.now)) }

pub invariant_of-result : goal.invariant_of-result
invariant_of-result c =
    let is : c.in_ok-from_ascii.field-0 ≡ label_of_host c.args.host.now = cc (c.in_ok-text.ensures.value, c.in_ok-from_ascii.ensures.value) in
    subst (λ (text : List ℕ). is_label text ≡ true) (sym is) (label_of_host_is_label c.args.host.now)
