use Rattle.std.proofs.Common.{◌≡◌, ℕ, true, List, Some, None, sym, ap, ◌∙◌, cond, rules}
use Rattle.std.specs.Prelude.{IsUtf8, is_some, Ok}
use Rattle.std.proofs.lemmas.Bool.{false≢true}
use Rattle.serde_json.specs.Data.{Data}
use Rattle.serde_json.specs.Find.{as_object}
use Rattle.serde_json.specs.Read.{read}
use Rattle.tail_base.specs.Steps.{or_fault}
use Rattle.wire_json.specs.Body.{body_value, object_at}
use Rattle.wire_json.specs.declared.fault.WireFault.TheVariants as fault
use Rattle.wire_json.proofs.BodyLemmas.{body_none, body_some}
use Rattle.wire_json.proofs.body.object_of_body.Goals as goal

-- an object is taken as it is
taken : (body : List ℕ) (d : Data) → IsUtf8 body → read body ≡ Some d → true ≡ is_some (as_object d) → object_at (body_value body) ≡ Ok d
unfolding object_at
taken body d text same object =
    ap object_at (body_some body d text same) ∙ ap (λ b. or_fault {A = Data} fault.NotJson (cond b (Some d) None)) (sym object)

pub returns-in-Ok : goal.returns-in-Ok
returns-in-Ok c = record {
  value = taken c.args.body.now _ c.in-Ok.ensures.ok.0 c.in-Ok.ensures.ok.1 (search rules);
}

pub returns-in-Err-2 : goal.returns-in-Err-2
unfolding object_at
returns-in-Err-2 c = record {
  value = ap object_at (body_none c.args.body.now (c.in-Err.ensures.err (λ m. false≢true (c.if-is_memory.ensures.1 m))));
}
