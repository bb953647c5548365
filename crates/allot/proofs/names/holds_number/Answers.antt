use Rattle.std.proofs.Common.{◌≡◌, ◌≤◌, ◌+◌, ◌∷◌, ◌++◌, ℕ, List, codes, length, Some, sym, ap, ◌∙◌, arith}
use Rattle.std.specs.Fmt.{decimal}
use Rattle.std.proofs.lemmas.Slice.Eq.{slice_eq-Decides, strip_prefix_is}
use Rattle.std.proofs.lemmas.Bool.Decides.{Decides-eqb}
use Rattle.allot.proofs.NumberedLemmas.{bears_number}
use Rattle.allot.proofs.names.holds_number.Goals as goal

pub returns : goal.returns
returns c = record {
  found = λ same.
      let base = c.args.base.now in
      let number : c.as_bytes-digits.result.now ≡ decimal c.args.n = c.as_bytes-digits.ensures.value ∙ c.format.ensures.text in
      let fits : length base + length (decimal c.args.n) ≤ 62 = omega (arith, ap length c.as_slice.ensures.value, ap length number, c.if-as_slice-digits-gt63.false) in
      let front = strip_prefix_is Decides-eqb c.as_slice-2.result.now c.as_slice-3.result.now (Some c.in-Some.ending) c.in-Some.ensures.cases in
      let hyphen = strip_prefix_is Decides-eqb c.in-Some.ending.now (codes "-") (Some c.in-Some-strip_prefix.rest) c.in-Some-strip_prefix.ensures.cases in
      let digits = (slice_eq-Decides Decides-eqb c.in-Some-strip_prefix.rest.now c.as_bytes-digits.result.now c.eq.result c.eq.ensures).0 same in
      let name : c.args.machine.now.name ≡ base ++ c.in-Some.ending.now =
      sym c.as_slice-2.ensures.value ∙ front ∙ ap (λ (b : List ℕ). b ++ c.in-Some.ending.now) c.as_slice-3.ensures.value in
      bears_number c.args.machine.now.name base c.in-Some.ending.now c.args.n c.as_slice.ensures.label fits name (hyphen ∙ ap (λ (ds : List ℕ). 45 ∷ ds) (digits ∙ number));
}
