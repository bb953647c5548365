-- Files by name.
use Rattle.std.specs.Prelude.{ℕ, Option, List}
use Rattle.std.specs.List.{find}
use Rattle.std.specs.Option.{option_map}
use Rattle.std.specs.Str.{bytes_eq}
use Rattle.io_edge.specs.declared.files.NamedBytes.{NamedBytes}

-- the bytes of the first file of that name
abbrev pub bytes_of : List ℕ → List NamedBytes → Option (List ℕ)
bytes_of name files = option_map (λ f. f.bytes) (find (λ f. bytes_eq f.name name) files)
