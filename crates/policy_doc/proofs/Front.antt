-- What is read so far, and what is left to read.
use Rattle.std.proofs.Common.{List, ◌++◌, Result, Ok}
use Rattle.tail_base.specs.Steps.{◌>>=◌}

-- what was read, behind a front
abbrev pub with_front : {A E : Type 0} → List A → Result (List A) E → Result (List A) E
with_front front read = read >>= λ xs. Ok (front ++ xs)
