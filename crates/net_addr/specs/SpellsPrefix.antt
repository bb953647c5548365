-- Which texts spell a prefix.
use Rattle.std.specs.Prelude.{◌≡◌, ◌≤◌, ◌%◌, ℕ, List, ◌++◌, codes}
use Rattle.std.specs.Fmt.{decimal}
use Rattle.net_addr.specs.Bits.{Block, family_bits, size_of}
use Rattle.net_addr.specs.SpellsAddr.{SpellsAddr}

-- a text of the base, a slash, and the length in decimal; the base has no bit set past the length
pub record SpellsPrefix (text : List ℕ) (p : Block) : Type 0 where
  pub base_text : List ℕ
  pub base : SpellsAddr base_text p.base
  pub fits : p.len ≤ family_bits p.base.v6
  pub aligned : p.base.bits % size_of p ≡ 0
  pub is : text ≡ base_text ++ (codes "/" ++ decimal p.len)
