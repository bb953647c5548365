use Rattle.std.proofs.Common.{◌≡◌, ◌&&◌, length, nat_eq}
use Rattle.std.specs.Str.{bytes_eq}
use Rattle.tail_base.proofs.secret.is_same_secret.Given as goal

abbrev pub invariant-loop-left : goal.invariant-loop-left
invariant-loop-left l = record {
  rest : (nat_eq l.differences 0 && bytes_eq l.left-iterator.a.rest.now l.left-iterator.b.rest.now) ≡ bytes_eq l.one l.other;
  long : length l.left-iterator.a.rest.now ≡ length l.left-iterator.b.rest.now;
}
