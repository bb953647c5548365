-- What is heard of responses.
use Rattle.std.proofs.Common.{◌≡◌, ℕ, Bool, Option, None, Some, List, [], ◌∷◌, refl, ap, sym, ◌∙◌}
use Rattle.tailcfg.specs.declared.response.Response.{Response}
use Rattle.tailnet_desk.specs.declared.reply.Reply.TheVariants.{Frames}
use Rattle.load_run.specs.Hearing.{IsHeard, hear_response, hear_responses, hear_seq}
use Rattle.load_run.specs.declared.heard.Heard.{Heard}

seq_still : (h : Heard) (seq : Option ℕ) → (hear_seq h seq).starved ≡ h.starved
seq_still h None = refl
seq_still h (Some seq) = refl

responses_still : (h : Heard) (rs : List Response) → (hear_responses h rs).starved ≡ h.starved
responses_still h [] = refl
responses_still h (r ∷ rs) = responses_still (hear_response h r) rs ∙ seq_still h r.seq

-- responses say nothing of memory
pub frames_heard : (old new : Heard) (rs : List Response) → new ≡ hear_responses old rs → IsHeard old (Frames rs) new
frames_heard old new rs is = record {
  still = λ fed. sym (responses_still old rs) ∙ ap (λ (h : Heard). h.starved) (sym is) ∙ fed;
  heard = λ fed. is;
}
