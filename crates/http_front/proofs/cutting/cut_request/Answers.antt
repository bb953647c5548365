use Rattle.std.proofs.Common.{sym, subst, ◌≡◌, ◌+◌, ◌-◌, ap, ◌∙◌, take, drop, arith}
use Rattle.httparse.specs.Grammar.{IsToken}
use Rattle.httparse.specs.Spans.{span_bytes}
use Rattle.http_front.specs.Requests.{path_of, request_of, head_limit}
use Rattle.http_front.specs.Looks.{spanned_head}
use Rattle.http_front.proofs.Looks.{front_is, request_is}
use Rattle.http_front.proofs.cutting.cut_request.Goals as goal

pub returns : goal.returns
returns c =
    let size_is : c.args.head.now.len + c.args.size - c.args.head.now.len ≡ c.args.size = omega arith in
    record {
      value =
          request_is (take c.min.result c.args.bytes.now) (take head_limit c.args.bytes.now) c.args.headers.now c.args.head.now _ _ _ _ _ _
          (front_is c.args.bytes.now c.min.result c.min.ensures)
          (c.in_ok-method_of.ensures.value ∙ c.bytes_of.ensures.value)
          (c.in_ok-from_slice.ensures.value ∙ c.path_of.ensures.value ∙ ap path_of c.bytes_of-2.ensures.value)
          (c.in_ok-token.ensures.value ∙ c.first_named.ensures.value) (c.in_ok-machine.ensures.value ∙ c.first_named-2.ensures.value)
          c.any_named_is.ensures.value
          ∙ ap (request_of (spanned_head (take head_limit c.args.bytes.now) c.args.headers.now c.args.head.now))
          (c.in_ok-from_slice-2.ensures.value ∙ ap (λ n. take n (drop c.args.head.now.len c.args.bytes.now)) size_is);
    }

pub method_of-requires : goal.method_of-requires
method_of-requires c =
    let shown = ap (λ b. span_bytes b c.args.head.now.method) (front_is c.args.bytes.now c.min.result c.min.ensures) in
    record { token = subst IsToken (sym (c.bytes_of.ensures.value ∙ shown)) c.requires.token }
