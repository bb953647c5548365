-- A policy is put.
use Rattle.std.proofs.Common.{◌≡◌, ◌≤◌, ℕ, List, [], ◌∷◌, None, length}
use Rattle.net_rows.specs.Damage.{damage}
use Rattle.tail_base.specs.declared.limits.TheConstants.{POLICY_LIMIT}
use Rattle.net_rows.specs.Rows.{after}
use Rattle.net_rows.specs.declared.rows.Rows.{Rows}
use Rattle.net_rows.specs.declared.change.Row.TheVariants as row
use Rattle.net_rows.specs.declared.change.Counters.{Counters}
use Rattle.net_rows.proofs.Sounds.{sound_of, no_damage}
use Rattle.net_rows.proofs.SoundPut.{sound_policy}

pub sound_after_policy : (t : Rows) (text : List ℕ) (next : Counters) → damage t ≡ None → length text ≤ POLICY_LIMIT → next ≡ t.next
    → damage (after t (record { puts = row.Policy text ∷ []; gone = []; next = next })) ≡ None
sound_after_policy t text next sound short same = rw same (no_damage _ (sound_policy t text (sound_of t sound) short))
