-- A machine that registers again is answered, and nothing changes.
use Rattle.std.proofs.Common.{◌≡◌, ℕ, Bool, true, false, not, List, Option, Some, None, Ok, if◌then◌else◌, refl, sym, ap, ◌∙◌}
use Rattle.std.specs.Prelude.{Contains}
use Rattle.std.specs.Str.{bytes_eq}
use Rattle.tail_base.specs.declared.key.NodeKey.{NodeKey}
use Rattle.net_rows.specs.Rows.{machine_of}
use Rattle.net_rows.specs.Shelf.{row_at}
use Rattle.net_rows.specs.Sound.{AreSound}
use Rattle.net_rows.specs.declared.machine.Machine.{Machine}
use Rattle.net_rows.specs.declared.rows.Rows.{Rows}
use Rattle.std.proofs.lemmas.Bool.{and_from}
use Rattle.tail_base.proofs.Bools.{bytes_eq-from}
use Rattle.net_rows.proofs.Members.{find_none}
use Rattle.net_rows.proofs.RowAt.{row_at_is}
use Rattle.net_rows.proofs.Sounds.{sound_of}
use Rattle.tailcfg.specs.declared.register.Register.{Register}
use Rattle.desk_state.specs.Decisions.{rows_after}
use Rattle.desk_state.specs.State.{State, is_live}
use Rattle.desk_state.specs.declared.decision.Decision.{Decision}
use Rattle.desk_state.proofs.RowLemmas.{machine_found}
use Rattle.machine_asks.specs.Decision.{decision}
use Rattle.machine_asks.specs.Laws.{IsRepeat}
use Rattle.machine_asks.specs.Logout.{is_logout}
use Rattle.machine_asks.specs.Register.{register_as, registered_again, repeats}
use Rattle.machine_asks.specs.declared.answer.MachineAnswer.{MachineAnswer}
use Rattle.machine_asks.specs.declared.ask.MachineAsk.TheVariants as ask

first_of_two : {A : Type 0} (b : Bool) (x y : A) → b ≡ true → (if b then x else y) ≡ x
first_of_two true x y h = refl
first_of_two false x y h = absurd (cc)

second_of_two : {A : Type 0} (b : Bool) (x y : A) → b ≡ false → (if b then x else y) ≡ y
second_of_two true x y h = absurd (cc)
second_of_two false x y h = refl

-- a machine of sound tables is the one that its key finds
own_row : (t : Rows) (m : Machine) (held : Option Machine) → AreSound t → Contains t.machines m → machine_of t.machines m.machine.0 ≡ held → held ≡ Some m
own_row t m None sound inside e =
    let fails : bytes_eq m.machine.0 m.machine.0 ≡ false = find_none (λ (r : Machine). bytes_eq r.machine.0 m.machine.0) t.machines e m inside in
    let passes : bytes_eq m.machine.0 m.machine.0 ≡ true = bytes_eq-from m.machine.0 m.machine.0 refl in
    absurd (cc)
own_row t m (Some r) sound inside e =
    let here = machine_found t.machines m.machine r e in
    let ids : r.id ≡ m.id = sound.machines.machine_keys r m here.0 inside here.1 in
    let found : row_at (λ x. x.id) t.machines r.id ≡ Some r = row_at_is (λ (x : Machine). x.id) t.machines r sound.machines.ascend here.0 in
    let own : row_at (λ x. x.id) t.machines m.id ≡ Some m = row_at_is (λ (x : Machine). x.id) t.machines m sound.machines.ascend inside in
    sym found ∙ ap (λ (n : ℕ). row_at (λ x. x.id) t.machines n) ids ∙ own

-- the steps of a registration with this row result in a repeat
steps_repeat : (s : State) (m : Machine) (form : Register) (words : Option (List ℕ)) → IsRepeat s m form → register_as s m.machine form words (Some m) ≡ Ok (registered_again s m)
steps_repeat s m form words h =
    second_of_two (is_logout s form.expiry) _ _ (ap not h.stays)
    ∙ first_of_two (repeats s form.node m) _ _ (and_from (is_live s m) (bytes_eq m.node.0 form.node.0) h.live (bytes_eq-from m.node.0 form.node.0 (ap (λ (n : NodeKey). n.0) h.node)))

pub repeat_is : (s : State) (m : Machine) (form : Register) (words : Option (List ℕ)) → IsRepeat s m form → decision s (ask.Register m.machine form) words ≡ Ok (registered_again s m)
repeat_is s m form words h =
    ap (λ (held : Option Machine). register_as s m.machine form words held) (own_row s.rows m _ (sound_of s.rows h.sound) h.row refl) ∙ steps_repeat s m form words h

pub repeat_keeps : (s : State) (m : Machine) (form : Register) (words : Option (List ℕ)) (d : Decision MachineAnswer) → IsRepeat s m form
    → decision s (ask.Register m.machine form) words ≡ Ok d → rows_after s.rows d.change ≡ s.rows
repeat_keeps s m form words d h is =
    let both : Ok (registered_again s m) ≡ Ok d = sym (repeat_is s m form words h) ∙ is in
    let same : registered_again s m ≡ d = cc in
    ap (λ (x : Decision MachineAnswer). rows_after s.rows x.change) (sym same)
