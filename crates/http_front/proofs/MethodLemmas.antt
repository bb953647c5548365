-- A token of a request line is a token of the methods.
use Rattle.std.proofs.Common.{◌≡◌, ℕ, List, [], ◌∷◌, refl, sym, ap, ◌∙◌, subst, take}
use Rattle.std.specs.Prelude.{IsTrue}
use Rattle.std.specs.List.{AllByRecursion}
use Rattle.std.proofs.lemmas.List.Elements.{All-from_recursion, recursion_from_All}
use Rattle.httparse.specs.Grammar.{is_token_byte, IsToken}
use Rattle.http_header.specs.Token.{is_token_byte as is_method_byte, IsToken as IsMethodToken}
use Rattle.httparse.specs.Spans.{span_bytes}
use Rattle.httparse.specs.declared.spans.HeaderSpan.{HeaderSpan}
use Rattle.httparse.specs.declared.spans.RequestSpans.{RequestSpans}
use Rattle.http_front.specs.Requests.{Head, head_limit}
use Rattle.http_front.specs.Looks.{IsSpanned}

same_byte : (b : ℕ) → is_token_byte b ≡ is_method_byte b
unfolding is_token_byte is_method_byte
same_byte b = refl

same_bytes : (bytes : List ℕ) → AllByRecursion (λ b. IsTrue (is_token_byte b)) bytes → AllByRecursion (λ b. IsTrue (is_method_byte b)) bytes
same_bytes [] each = tt
same_bytes (b ∷ bytes) each = (sym (same_byte b) ∙ each.0, same_bytes bytes each.1)

pub method_token : (bytes : List ℕ) → IsToken bytes → IsMethodToken bytes
method_token bytes x = (x.0, All-from_recursion (λ b. IsTrue (is_method_byte b)) bytes (same_bytes bytes (recursion_from_All (λ b. IsTrue (is_token_byte b)) bytes x.1)))

-- the method that the spans show is a token
pub seen_token : (bytes : List ℕ) (headers : List HeaderSpan) (r : RequestSpans) (size : ℕ) → IsSpanned bytes headers r size → IsToken (span_bytes (take head_limit bytes) r.method)
seen_token bytes headers r size x = subst IsToken (sym (ap (λ (h : Head). h.method) x.head_is)) x.has.reads.0.method
