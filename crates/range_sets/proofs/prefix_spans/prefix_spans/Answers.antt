use Rattle.std.proofs.Common.{◌≡◌, ◌+◌, ◌||◌, ℕ, false, rules, ap, sym, ◌∙◌}
use Rattle.std.proofs.lemmas.List.Elements.{recursion_from_All}
use Rattle.std.proofs.lemmas.List.Sorted.{All-permutation, IsNonDecreasingBy-from_sort_by_key, list_any-IsPermutation}
use Rattle.std.proofs.lemmas.Result.{IfOk-weaker}
use Rattle.net_addr.specs.Bits.{Address, family_size}
use Rattle.range_sets.specs.Sets.{some_holds}
use Rattle.range_sets.specs.Spans.{AreApart, AreBelow, in_span, spans_hold}
use Rattle.range_sets.proofs.PrefixSpanLemmas.{IsSound, begins_from_zero, below_from_sound, family_spans_hold, rising_from_sorted}
use Rattle.std.proofs.Math.Bool.{or-false}
use Rattle.range_sets.proofs.prefix_spans.prefix_spans.Goals as goal

pub united-requires-clause-left : goal.united-requires-clause-left
united-requires-clause-left c =
    let sorted = IsNonDecreasingBy-from_sort_by_key (λ s. s.first) _ c.in_ok-sort_by_key.ensures.sorted (λ a r q k. search rules) in
    let sound = recursion_from_All (IsSound (family_size c.args.v6)) _ (All-permutation (IsSound (family_size c.args.v6)) _ _ c.in_ok-sort_by_key.ensures.permutation c.in_ok-spans.ensures.sound) in
    rw c.deref.ensures.value (rising_from_sorted 0 (family_size c.args.v6) _ sorted sound (begins_from_zero _))

pub returns-clause-apart : goal.returns-clause-apart
returns-clause-apart c =
    let sound = recursion_from_All (IsSound (family_size c.args.v6)) _ (All-permutation (IsSound (family_size c.args.v6)) _ _ c.in_ok-sort_by_key.ensures.permutation c.in_ok-spans.ensures.sound) in
    let below : AreBelow (family_size c.args.v6) c.deref.result.now = rw c.deref.ensures.value (below_from_sound (family_size c.args.v6) _ sound) in
    IfOk-weaker c.united.result _ (λ v. AreApart 0 v.items (family_size c.args.v6 + 1)) (λ v h. h (family_size c.args.v6) below tt) c.united.ensures.apart

pub returns-clause-same : goal.returns-clause-same
returns-clause-same c =
    IfOk-weaker c.united.result (λ v. (x : ℕ) → spans_hold v.items x ≡ (spans_hold c.deref.result.now x || false)) (λ v. (addr : Address) → addr.v6 ≡ c.args.v6 → spans_hold v.items addr.bits ≡ some_holds c.args.list.now addr)
    (λ v h addr e. h addr.bits ∙ (or-false _ ∙ (ap (λ ss. spans_hold ss addr.bits) c.deref.ensures.value
    ∙ (sym (list_any-IsPermutation (λ s. in_span s addr.bits) _ _ c.in_ok-sort_by_key.ensures.permutation)
    ∙ (ap (λ ss. spans_hold ss addr.bits) c.in_ok-spans.ensures.value ∙ family_spans_hold c.args.v6 c.args.list.now addr e)))))
    c.united.ensures.same
