use Rattle.crash_laws.proofs.Surviving.{opened_alone, survive, survive_alone, survive_first, survive_last}
use Rattle.crash_laws.proofs.laws.histories_survive.Goals as goal

pub returns : goal.returns
returns g c = record {
  any = survive _ _ _ _ _;
  end = survive_alone _ _ _ _ _;
  last = survive_last _ _ _ _ _;
  first = survive_first _ _ _ _ _;
  opened = opened_alone _ (λ _. 0) (λ _. 0) _ _;
}
