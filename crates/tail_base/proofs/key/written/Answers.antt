use Rattle.std.proofs.Common.{◌≡◌}
use Rattle.tail_base.specs.Keys.{key_text}
use Rattle.tail_base.proofs.KeyLemmas.{key_again}
use Rattle.tail_base.proofs.key.written.Goals as goal

pub returns-clause-read_again : goal.returns-clause-read_again
returns-clause-read_again c =
    let is : c.push.new.self ≡ key_text c.args.head.now c.args.key.now = cc (c.in_ok-push.ensures.ok, c.in_ok-text.ensures.value, c.in_ok-digits.ensures) in
    key_again c.args.head.now c.args.key.now c.push.new.self c.told-key c.fits-key is
