-- Which texts spell a tag.
use Rattle.std.specs.Prelude.{◌≡◌, ℕ, true, List}
use Rattle.tail_base.specs.Tags.{is_tag}

-- a tag spells itself, and no other text spells one
pub record SpellsTag (text tag : List ℕ) : Type 0 where
  pub valid : is_tag text ≡ true
  pub is : tag ≡ text
