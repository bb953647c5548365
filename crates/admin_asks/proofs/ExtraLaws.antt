-- Decisions on extra records are sound.
use Rattle.std.proofs.Common.{◌≡◌, ◌≢◌, ◌≤◌, true, false, List, refl, ap, subst, length}
use Rattle.std.proofs.lemmas.Bool.{both_ways}
use Rattle.tailcfg.specs.declared.dns.DnsExtra.{DnsExtra}
use Rattle.net_rows.specs.Rows.{after}
use Rattle.net_rows.specs.Sound.{AreSound}
use Rattle.net_rows.specs.declared.limits.TheConstants.{EXTRA_LIMIT}
use Rattle.net_rows.specs.declared.rows.Rows.{Rows}
use Rattle.net_rows.proofs.SoundPut.{sound_extras}
use Rattle.same_maps.specs.Dns.{same_extras}
use Rattle.same_maps.proofs.DnsLemmas.{extras_itself}
use Rattle.desk_state.specs.Decisions.{IsPlain, changing, only}
use Rattle.desk_state.specs.State.{State}
use Rattle.desk_state.proofs.Proper.{proper_choice, proper_none, proper_some, same_counters, sound_change}
use Rattle.admin_asks.specs.Extras.{extras_change, set_extras}
use Rattle.admin_asks.specs.declared.operator_answer.OperatorAnswer.TheVariants as answer

-- records that aren't those that were there are others
extras_differ : (t : Rows) (given : List DnsExtra) → same_extras t.extras given ≡ false → after t (extras_change t given) ≢ t
extras_differ t given other e =
    both_ways (same_extras t.extras given) other
    (subst (λ (held : List DnsExtra). same_extras held given ≡ true) (ap (λ (r : Rows). r.extras) e) (extras_itself given))

pub set_extras_proper : (s : State) (given : List DnsExtra) → AreSound s.rows → length given ≤ EXTRA_LIMIT → IsPlain s.rows (set_extras s given)
set_extras_proper s given sound short =
    let t = s.rows in
    proper_choice t (same_extras t.extras given) _ _ (λ _. proper_none t (only (answer.Extras given)) refl refl) (λ other.
    proper_some t (changing (extras_change t given) (answer.Extras given)) (extras_change t given) refl refl refl
    (sound_change t (extras_change t given) (sound_extras t given sound short) (extras_differ t given other) (same_counters t.next)))
