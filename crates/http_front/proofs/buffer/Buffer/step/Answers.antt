use Rattle.std.proofs.Common.{◌≡◌, ℕ, ◌+◌, ◌-◌, List, sym, ap, ◌∙◌, take, drop, length, arith, length-drop}
use Rattle.std.proofs.lemmas.List.{take_at, take_all, drop-drop}
use Rattle.http_front.proofs.MethodLemmas.{seen_token}
use Rattle.http_front.proofs.Looks.{stepped}
use Rattle.http_front.proofs.buffer.Buffer.step.Goals as goal

-- the range that the code takes is the bytes held
held_is : (all bytes : List ℕ) (at : ℕ) → all ≡ bytes → take (length all - at) (drop at all) ≡ drop at bytes
held_is all bytes at e = take_all (length all - at) (drop at all) (omega (arith, length-drop at all)) ∙ ap (drop at) e

pub returns-in-Ok : goal.returns-in-Ok
returns-in-Ok c =
    let bytes = c.self.inside.bytes.items in
    let at = c.self.inside.at in
    let held = held_is c.deref.result.now bytes at c.deref.ensures.value in
    record {
      steps = stepped (drop at bytes) _ _ c.args.self.now _ c.look_at.new.headers c.deref-in-Whole.result.now c.in-Whole.head c.in-Whole.size c.in-Ok.request
          held held (sym c.self.view_is)
          (c.deref-in-Whole.ensures.value ∙ take_at c.look_at.new.headers _ c.self.inside.headers.len (omega arith))
          c.in-Whole.ensures.look c.in-Ok.ensures.value (sym (drop-drop (c.in-Whole.head.len + c.in-Whole.size) at bytes));
    }

pub cut_request-requires-clause-token : goal.cut_request-requires-clause-token
cut_request-requires-clause-token c = seen_token _ _ c.in-Whole.head c.in-Whole.size c.in-Whole.ensures.look
