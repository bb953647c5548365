-- The rules of a server's settings.
use Rattle.std.specs.Prelude.{◌≡◌, ◌≤◌, ℕ, Bool, true, List, length, nat_le, ◌&&◌}
use Rattle.std.specs.List.{list_all}
use Rattle.settings.specs.Settings.{IsFrom}
use Rattle.server_settings.specs.declared.fields.ServerFields.{ServerFields}
use Rattle.server_settings.specs.declared.limits.TheConstants.{COUNT_LIMIT, VISIBLE_LIMIT}

-- visible ASCII bytes, at least one, up to their limit
abbrev pub is_visible : List ℕ → Bool
is_visible text = nat_le 1 (length text) && nat_le (length text) VISIBLE_LIMIT && list_all (λ b. nat_le 33 b && nat_le b 126) text

-- Each field keeps its rule.
pub record AreServerSettings (s : ServerFields) : Type 0 where
  pub connections : s.connections ≤ COUNT_LIMIT
  pub poll_turns : IsFrom 1 COUNT_LIMIT s.poll_turns
  pub requests : IsFrom 1 COUNT_LIMIT s.requests
  pub server_url : is_visible s.server_url ≡ true
  pub token : is_visible s.token ≡ true
