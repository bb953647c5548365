use Rattle.std.proofs.Common.{◌≡◌, ◌+◌, length, true, false, not, arith, is_some, sym, ap, ◌∙◌}
use Rattle.std.proofs.lemmas.Result.{IfOk-weaker}
use Rattle.allot.proofs.NameLemmas.{is_free_number, found_name, number_found}
use Rattle.allot.proofs.SearchLemmas.{LeadsOn-found, LeadsOn-next, LeadsOn-end}
use Rattle.allot.proofs.names.numbered.Goals as goal

pub returns-in-None : goal.returns-in-None
returns-in-None c =
    let machines = c.args.machines.now in
    let base = c.args.base.now in
    let free : is_free_number machines base c.loop-n.n ≡ true = ap not (sym c.in_ok-place.ensures.value) ∙ ap (λ o. not (is_some o)) c.in-None.is in
    let found = LeadsOn-found (is_free_number machines base) _ _ _ c.loop-n.invariant c.loop-n-test.true free in
    record { value = IfOk-weaker c.numbered.result _ _ (λ name is. found_name machines base name c.loop-n.n is found) c.numbered.ensures.value }

pub loop-n-preserved : goal.loop-n-preserved
loop-n-preserved c =
    let machines = c.args.machines.now in
    let base = c.args.base.now in
    let taken : is_free_number machines base c.loop-n.n ≡ false = ap not (sym c.in_ok-place.ensures.value) ∙ ap (λ o. not (is_some o)) c.in-Some.is in
    LeadsOn-next (is_free_number machines base) _ _ _ c.loop-n.invariant c.loop-n-test.true taken

pub unreachable-requires : goal.unreachable-requires
unreachable-requires c =
    let machines = c.args.machines.now in
    let base = c.args.base.now in
    let end : c.loop-n.n ≡ length machines + 2 = omega (arith, c.loop-n.auto.n-end) in
    let none = LeadsOn-end (is_free_number machines base) (length machines + 2) _ (rw end at c.loop-n.invariant) in
    number_found machines base c.requires.few none
