-- What is decided on an operator's ask is sound.
use Rattle.std.proofs.Common.{◌≡◌, ℕ, List, Option, None, refl}
use Rattle.settings.specs.Settings.{AreSettings}
use Rattle.net_rows.specs.Damage.{damage}
use Rattle.net_rows.proofs.Sounds.{sound_of}
use Rattle.desk_state.specs.Decisions.{IsPlain}
use Rattle.desk_state.specs.State.{State}
use Rattle.desk_state.proofs.Proper.{proper_none}
use Rattle.admin_asks.specs.Decision.{decision}
use Rattle.admin_asks.specs.Short.{IsShortOperatorAsk}
use Rattle.admin_asks.specs.declared.operator_ask.OperatorAsk.{OperatorAsk}
use Rattle.admin_asks.specs.declared.operator_ask.OperatorAsk.TheVariants as ask
use Rattle.admin_asks.proofs.Admissions.{admit_proper}
use Rattle.admin_asks.proofs.ExtraLaws.{set_extras_proper}
use Rattle.admin_asks.proofs.KeyLaws.{add_key_proper, expire_key_proper}
use Rattle.admin_asks.proofs.NodeLaws.{drop_node_proper, expire_node_proper, rename_proper, set_tags_proper}
use Rattle.admin_asks.proofs.RouteLaws.{set_routes_proper}
use Rattle.admin_asks.proofs.SweepLaws.{sweep_proper}
use Rattle.admin_asks.proofs.UserLaws.{add_user_proper, drop_user_proper}

pub operator_decision_sound : (s : State) (x : OperatorAsk) (words : Option (List ℕ)) → AreSettings s.settings → damage s.rows ≡ None → IsShortOperatorAsk x → IsPlain s.rows (decision s x words)
operator_decision_sound s (ask.AddUser name) words hold none short = add_user_proper s name (sound_of s.rows none)
operator_decision_sound s ask.Users words hold none short = proper_none s.rows _ refl refl
operator_decision_sound s (ask.DropUser login) words hold none short = drop_user_proper s login (sound_of s.rows none)
operator_decision_sound s (ask.AddKey form) words hold none short = add_key_proper s form words (sound_of s.rows none) short
operator_decision_sound s ask.Keys words hold none short = proper_none s.rows _ refl refl
operator_decision_sound s (ask.ExpireKey id) words hold none short = expire_key_proper s id (sound_of s.rows none)
operator_decision_sound s ask.Nodes words hold none short = proper_none s.rows _ refl refl
operator_decision_sound s ask.Waiting words hold none short = proper_none s.rows _ refl refl
operator_decision_sound s (ask.Admit pending login) words hold none short = admit_proper s pending login hold (sound_of s.rows none)
operator_decision_sound s (ask.ExpireNode id expiry) words hold none short = expire_node_proper s id expiry (sound_of s.rows none)
operator_decision_sound s (ask.Rename id name) words hold none short = rename_proper s id name (sound_of s.rows none)
operator_decision_sound s (ask.SetTags id tags) words hold none short = set_tags_proper s id tags (sound_of s.rows none) short
operator_decision_sound s (ask.SetRoutes id routes) words hold none short = set_routes_proper s id routes (sound_of s.rows none)
operator_decision_sound s (ask.DropNode id) words hold none short = drop_node_proper s id (sound_of s.rows none)
operator_decision_sound s ask.Extras words hold none short = proper_none s.rows _ refl refl
operator_decision_sound s (ask.SetExtras given) words hold none short = set_extras_proper s given (sound_of s.rows none) short
operator_decision_sound s ask.Sweep words hold none short = sweep_proper s (sound_of s.rows none)
