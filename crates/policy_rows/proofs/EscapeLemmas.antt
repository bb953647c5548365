-- What is written of one string.
use Rattle.std.proofs.Common.{◌≡◌, ℕ, List, [], ◌∷◌, ◌++◌, append-nil, ap, ◌∙◌}
use Rattle.json.specs.Token.{Token, string}
use Rattle.json.specs.Print.{print, print_from, quoted}

one_printed : (text : List ℕ) → print (string text ∷ []) ≡ quoted text
unfolding print_from
one_printed text = append-nil (quoted text)

pub one_string : (out before text : List ℕ) (tokens : List Token) → out ≡ before ++ print tokens → before ≡ [] → tokens ≡ string text ∷ [] → out ≡ quoted text
one_string out before text tokens is empty one =
    is ∙ (ap (λ (b : List ℕ). b ++ print tokens) empty ∙ (ap print one ∙ one_printed text))
