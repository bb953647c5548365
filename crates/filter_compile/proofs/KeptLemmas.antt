-- When a filter rule is there, and when it is left out.
use Rattle.std.proofs.Common.{◌≡◌, ◌≢◌, ◌==◌, ℕ, suc, true, false, List, [], ◌∷◌, length, arith, refl, ap, inl, inr}
use Rattle.std.proofs.lemmas.Bool.{cases_Bool, ne_eqb}
use Rattle.tailcfg.specs.declared.filter.DestRange.{DestRange}
use Rattle.tailcfg.specs.declared.filter.Sources.{Sources}
use Rattle.filter_compile.specs.Parts.{is_nobody, rule_or_none}

pub some_first : (d : DestRange) (ds : List DestRange) → d ∷ ds ≢ []
some_first d ds e = cc

pub left_out : (protos : List ℕ) (sources : Sources) (dests : List DestRange) → dests ≡ [] → rule_or_none protos sources dests ≡ []
left_out protos sources dests none = ap (λ (ds : List DestRange). rule_or_none protos sources ds) none

pub from_nobody : (protos : List ℕ) (sources : Sources) (dests : List DestRange) → is_nobody sources ≡ true → rule_or_none protos sources dests ≡ []
from_nobody protos sources dests nobody = elim (cases_Bool (length dests == 0)) [
  | inl none ↦ rw none refl
  | inr some ↦ rw (some, nobody) refl
]

pub kept_rule : (protos : List ℕ) (sources : Sources) (dests : List DestRange) → dests ≢ [] → is_nobody sources ≡ false
    → rule_or_none protos sources dests ≡ record { sources = sources; dests = dests; protos = protos } ∷ []
kept_rule protos sources [] some heard = absurd (some refl)
kept_rule protos sources (d ∷ ds) some heard = let more : (length (d ∷ ds) == 0) ≡ false = ne_eqb (suc (length ds)) 0 (λ e. omega arith) in rw (more, heard) refl

pub ruleset kept_steps = (left_out, from_nobody, kept_rule)
