-- Which texts spell a label.
use Rattle.std.specs.Prelude.{◌≡◌, ℕ, true, List}
use Rattle.tail_base.specs.Labels.{is_label}

-- a label spells itself, and no other text spells one
pub record SpellsLabel (text label : List ℕ) : Type 0 where
  pub valid : is_label text ≡ true
  pub is : label ≡ text
