-- Without a policy each live machine sees all others.
use Rattle.std.proofs.Common.{◌≡◌, ◌==◌, ◌&&◌, ℕ, Bool, true, false, not, List, [], ◌∷◌, arith, refl, sym, ◌∙◌, inl, inr, subst}
use Rattle.std.proofs.Math.Bool.{and-true}
use Rattle.std.specs.Prelude.{Contains, None}
use Rattle.port_sets.specs.Ranges.{IsPorts}
use Rattle.net_rows.specs.Damage.{damage}
use Rattle.net_rows.specs.declared.rows.Rows.{Rows}
use Rattle.net_rows.proofs.Members.{cut_member, no_member}
use Rattle.settings.specs.declared.fields.SettingsFields.{SettingsFields}
use Rattle.policy_rows.specs.declared.dest.Dest.{Dest}
use Rattle.policy_rows.specs.declared.rule.Rule.{Rule}
use Rattle.policy_sites.specs.Grants.{open_rule, rules_of}
use Rattle.policy_sites.specs.Reach.{AreSoundRules, IsSoundRule}
use Rattle.peer_view.specs.Seen.{Node, seen_of, sees}
use Rattle.peer_view.proofs.SightLaws.{sight_rules}

all_ports : IsPorts (record { first = 0; last = 65535 } ∷ [])
all_ports = record { some = omega arith; apart = (omega arith, omega arith, omega arith, tt) }

open_entry : (entry : Dest) → Contains open_rule.dests entry → IsPorts entry.ports
open_entry entry m = elim (cut_member _ [] entry m) [
  | inl e ↦ subst (λ (d : Dest). IsPorts d.ports) (sym e) all_ports
  | inr none ↦ absurd (no_member entry none)
]

sound_open : IsSoundRule open_rule
sound_open = record { protos = tt; ports = open_entry }

open_sound : AreSoundRules (rules_of None)
open_sound r inside = elim (cut_member open_rule [] r inside) [
  | inl e ↦ subst (λ (z : Rule). IsSoundRule z) (sym e) sound_open
  | inr none ↦ absurd (no_member r none)
]

pub open_sight : (settings : SettingsFields) (rows : Rows) (live online : List ℕ) (m p : Node) → damage rows ≡ None
    → Contains (seen_of settings None rows live online).nodes m → Contains (seen_of settings None rows live online).nodes p
    → sees (seen_of settings None rows live online) m p ≡ not (m.row.id == p.row.id)
open_sight settings rows live online m p sound inside other =
    sight_rules settings None rows live online m p open_sound sound inside other ∙ and-true (not (m.row.id == p.row.id))
