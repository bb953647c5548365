-- The outcome of writes and reads of a link.
use Rattle.std.proofs.Common.{◌≡◌, ◌≤◌, ℕ, Bool, true, false, Option, List, [], ◌++◌, Result, Ok, Err, refl, sym, ap, ◌∙◌, subst, inr, inl, arith}
use Rattle.exit_status.specs.Pieces.{Wrote}
use Rattle.exit_status.proofs.Writes.{wrote_more}
use Rattle.io_edge.specs.Edge.{Besides, and_held}
use Rattle.io_edge.proofs.Told.{rose_later}
use Rattle.http_client.specs.Answers.{IsBadAnswer}
use Rattle.http_client.specs.Taking.{TakesAnswer}
use Rattle.http_client.specs.declared.answer.TakenAnswer.TheVariants as taken
use Rattle.http_client.specs.declared.answer.ServerAnswer.{ServerAnswer}
use Rattle.io_edge.specs.Linked.{LinkTold}
use Rattle.operator_commands.specs.Exchange.{Exchanged, IsAnswerRead, IsRequestSent, Met, ReadNone, Replied, RequestWritten, Unwritten}
use Rattle.operator_commands.specs.declared.unanswered.Unanswered.{Unanswered}
use Rattle.operator_commands.specs.declared.unanswered.Unanswered.TheVariants as fault

-- bytes that were written whole, and then others, or a front of these
pub wrote_both : (o mid new : Option (List ℕ)) (n m k : ℕ) (first second : List ℕ) (failed : Bool) → Wrote o mid n m first false → Wrote mid new m k second failed
    → Wrote o new n k (first ++ second) failed
wrote_both o mid new n m k first second failed x y =
    wrote_more o mid new n m k first second (first ++ second) failed refl (subst (λ b. mid ≡ and_held o b) (x.whole refl) x.to_sink) x.counted.later y

-- what was written is all where no write failed
pub written_whole : (o new : Option (List ℕ)) (n m : ℕ) (bytes : List ℕ) (failed : Bool) → Wrote o new n m bytes failed → failed ≡ false → new ≡ and_held o bytes
written_whole o new n m bytes failed x none = subst (λ b. new ≡ and_held o b) (x.whole none) x.to_sink

-- what was read is bad
pub bad_read : (left left_after : Option (List ℕ)) (held held_after : List ℕ) → held ≡ [] → TakesAnswer left left_after held held_after taken.Bad → ReadNone left left_after
bad_read left left_after held held_after empty t = record {
  read = t.read;
  moved = t.moved;
  none = inr (subst (λ h. IsBadAnswer (h ++ t.read)) empty t.answers.0);
}

-- a call that leaves what a link tells besides leaves each part of it
pub besides_stay : {L : Type 0} (besides : L → Besides) (bytes : L → Option (List ℕ)) (asked : L → Option (List (List ℕ))) (faults : L → ℕ)
    → ((l : L) → besides l ≡ record { bytes = bytes l; asked = asked l; faults = faults l }) → (old new : L) → besides new ≡ besides old
    → (bytes new ≡ bytes old) × ((asked new ≡ asked old) × (faults new ≡ faults old))
besides_stay besides bytes asked faults law old new e =
    let same = sym (law new) ∙ e ∙ law old in
    (ap (λ b. b.bytes) same, (ap (λ b. b.asked) same, ap (λ b. b.faults) same))

-- a fault since a moment is one since an earlier moment
pub read_earlier : (left left_after : Option (List ℕ)) (before mid now : ℕ) (answer : Result ServerAnswer Unanswered) → before ≤ mid
    → IsAnswerRead left left_after mid now answer → IsAnswerRead left left_after before now answer
read_earlier left left_after before mid now (Ok answer) le r = r
read_earlier left left_after before mid now (Err fault.ReadFault) le (inl rose) = inl (rose_later before mid now le rose)
read_earlier left left_after before mid now (Err fault.ReadFault) le (inr none) = inr none
read_earlier left left_after before mid now (Err fault.NoMemory) le r = r
read_earlier left left_after before mid now (Err fault.WriteFault) le r = r
read_earlier left left_after before mid now (Err fault.FileFault) le r = r
read_earlier left left_after before mid now (Err fault.TooLarge) le r = r

-- connected, a write failed
pub unwritten : (address bytes : List ℕ) (old met new : LinkTold) → Met address old met → RequestWritten bytes true met new → Unwritten address bytes old new (Err fault.WriteFault)
unwritten address bytes old met new m w = record {
  asked = w.asked ∙ m.asked;
  left = w.left ∙ m.left;
  wrote = record {
    written = w.wrote.written;
    front = w.wrote.front;
    to_sink = w.wrote.to_sink ∙ ap (λ o. and_held o w.wrote.written) m.holds;
    whole = w.wrote.whole;
    counted = record {
      later = omega (arith, m.writes_later, w.wrote.counted.later);
      rose = λ t. rose_later _ _ _ m.writes_later (w.wrote.counted.rose t);
    };
  };
  answer_is = refl;
}

-- a request that wasn't sent
pub unsent : (address bytes : List ℕ) (old met new : LinkTold) (why : Unanswered) → Met address old met → IsRequestSent bytes met new (Err why)
    → Exchanged address bytes old new (Err why)
unsent address bytes old met new fault.WriteFault m w = inr (inl (unwritten address bytes old met new m w))
unsent address bytes old met new fault.ReadFault m w = absurd w
unsent address bytes old met new fault.NoMemory m w = absurd w
unsent address bytes old met new fault.FileFault m w = absurd w
unsent address bytes old met new fault.TooLarge m w = absurd w

-- connected, written whole, and an answer was read or none was
pub replied : (address bytes : List ℕ) (old met sent new : LinkTold) (answer : Result ServerAnswer Unanswered) → Met address old met → RequestWritten bytes false met sent
    → new.asked ≡ sent.asked → new.holds ≡ sent.holds → IsAnswerRead sent.left new.left sent.read_faults new.read_faults answer → Replied address bytes old new answer
replied address bytes old met sent new answer m w asked holds read = record {
  asked = asked ∙ w.asked ∙ m.asked;
  holds = holds ∙ written_whole _ _ _ _ bytes false w.wrote refl ∙ ap (λ o. and_held o bytes) m.holds;
  read = subst (λ left. IsAnswerRead left new.left old.read_faults new.read_faults answer) (w.left ∙ m.left)
      (read_earlier sent.left new.left old.read_faults sent.read_faults new.read_faults answer (omega (arith, m.reads_later, w.read_faults)) read);
}
