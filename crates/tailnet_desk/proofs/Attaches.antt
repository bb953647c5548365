-- The outcome of an attach: a session goes on, or one begins.
use Rattle.std.proofs.Common.{◌≡◌, ◌<◌, ◌^◌, ◌∙◌, ◌==◌, ◌⊎◌, ℕ, Bool, true, false, not, List, Option, Some, None, Ok, inl, inr, refl, ap, if◌then◌else◌}
use Rattle.std.proofs.lemmas.Bool.{eqb-true, ltb-true}
use Rattle.tail_base.specs.declared.key.MachineKey.{MachineKey}
use Rattle.tail_base.specs.declared.key.NodeKey.{NodeKey}
use Rattle.tail_base.specs.Steps.{refuse_if}
use Rattle.tail_base.proofs.StepLemmas.{bind_parts, due_parts, not_parts}
use Rattle.net_rows.proofs.Members.{find_member}
use Rattle.desk_state.specs.Sessions.{session_of}
use Rattle.desk_state.specs.State.{State}
use Rattle.desk_state.specs.declared.refusal.Refusal.TheVariants.{EntropyFault, Full}
use Rattle.desk_state.specs.declared.refusal.Scarce.TheVariants as scarce
use Rattle.desk_state.specs.declared.session.Session.{Session}
use Rattle.machine_asks.specs.Asking.{asking}
use Rattle.machine_asks.specs.Attach.{attach, attach_to, has_number, is_taken_up, session_begun, session_due, session_taken_up}
use Rattle.machine_asks.specs.declared.attaching.AttachDecision.{AttachDecision}

-- a session that goes on, or one that begins
abbrev pub IsEither : State → AttachDecision → Type 0
IsEither s d = ((x : Session) × (session_of s.sessions x.id ≡ Some x) × (session_taken_up s x ≡ d)) ⊎ ((id : ℕ) × (words : List ℕ) × (s.next_session < 2 ^ 63) × (session_begun s id words ≡ d))

due_either : (s : State) (id : ℕ) (words : Option (List ℕ)) (d : AttachDecision) → session_due s id words ≡ Ok d → IsEither s d
due_either s id words d e =
    let number = bind_parts (refuse_if (not (has_number s)) (Full scarce.Session)) _ d e in
    let left : has_number s ≡ true = not_parts (has_number s) (Full scarce.Session) number.0 number.1 in
    let drawn = due_parts EntropyFault words _ d number.2 in
    let same : session_begun s id drawn.0 ≡ d = cc (drawn.2) in
    inr (id, drawn.0, ltb-true s.next_session (2 ^ 63) left, same)

taken_or : (s : State) (x : Session) (id : ℕ) (words : Option (List ℕ)) (b : Bool) (d : AttachDecision) → session_of s.sessions x.id ≡ Some x → (if b then Ok (session_taken_up s x) else session_due s id words) ≡ Ok d → IsEither s d
taken_or s x id words true d own e = let same : session_taken_up s x ≡ d = cc in inl (x, own, same)
taken_or s x id words false d own e = due_either s id words d e

to_either : (s : State) (id : ℕ) (handle : List ℕ) (seq : ℕ) (words : Option (List ℕ)) (o : Option Session) (d : AttachDecision) → session_of s.sessions id ≡ o → attach_to s id handle seq words o ≡ Ok d → IsEither s d
to_either s id handle seq words None d is e = due_either s id words d e
to_either s id handle seq words (Some x) d is e =
    let same : x.id ≡ id = eqb-true x.id id (find_member (λ (r : Session). r.id == id) s.sessions x is).1 in
    taken_or s x id words (is_taken_up s handle seq x) d (ap (λ (k : ℕ). session_of s.sessions k) same ∙ is) e

pub attach_either : (s : State) (mk : MachineKey) (node : NodeKey) (handle : List ℕ) (seq : ℕ) (words : Option (List ℕ)) (d : AttachDecision) → attach s mk node handle seq words ≡ Ok d → IsEither s d
attach_either s mk node handle seq words d e =
    let m = bind_parts (asking s mk node) _ d e in
    to_either s m.0.id handle seq words (session_of s.sessions m.0.id) d refl m.2
