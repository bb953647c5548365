-- All that a run may touch, and what it tells at a moment.
use Rattle.std.specs.Prelude.{ℕ, ℤ, Option, List}
use Rattle.io_edge.specs.Linked.{LinkTold}
use Rattle.io_edge.specs.Door.{Finished, Opening}
use Rattle.net_rows.specs.declared.rows.Rows.{Rows}
use Rattle.connections.specs.Connection.{Told, told}

-- what doors tell: the bytes of the connections that come, the connections given back, what the doors were asked for, and their count of faults
pub record DoorsTold : Type 0 where
  pub coming : Option (List (List (List ℕ)))
  pub finished : Option (List (List Finished))
  pub asked : Option (List Opening)
  pub faults : ℕ

abbrev pub doors_told : {D : Type 0} → (D → Option (List (List (List ℕ)))) → (D → Option (List (List Finished))) → (D → Option (List Opening)) → (D → ℕ) → D → DoorsTold
doors_told coming finished asked faults d = record { coming = coming d; finished = finished d; asked = asked d; faults = faults d }

-- What a connection's objects tell; the opener's rows, the names that it was asked for and its count of faults; the
-- files and their count; what errors hold and their count; the doors and the link.
pub record Outside : Type 0 where
  pub told : Told
  pub rows : Option Rows
  pub asked : Option (List (List ℕ))
  pub keeper_faults : ℕ
  pub files : List ℕ → Option (Option (List ℕ))
  pub file_faults : ℕ
  pub errors : Option (List ℕ)
  pub error_faults : ℕ
  pub doors : DoorsTold
  pub link : LinkTold

-- the outside of a run that has no doors and no link, around any such
abbrev pub outside : {I O E F P C N : Type 0} → (I → Option (List ℕ)) → (I → ℕ) → (O → Option (List ℕ)) → (O → ℕ) → (E → Option (List ℕ)) → (E → ℕ) → (F → List ℕ → Option (Option (List ℕ))) → (F → ℕ)
    → (P → Option Rows) → (P → Option (List (List ℕ))) → (P → ℕ) → (C → ℕ → Option ℤ) → (N → ℕ → Option (List ℕ)) → (N → ℕ) → DoorsTold → LinkTold → I → O → E → F → P → C → N → Outside
outside left read_faults holds write_faults errors error_faults files file_faults rows asked keeper_faults answer word word_faults doors link i o e f p c n = record {
  told = told left read_faults holds write_faults answer word word_faults i o c n;
  rows = rows p;
  asked = asked p;
  keeper_faults = keeper_faults p;
  files = files f;
  file_faults = file_faults f;
  errors = errors e;
  error_faults = error_faults e;
  doors = doors;
  link = link;
}

-- the outside of a run whose settings are read, around any rest
abbrev pub around : {I O P C N : Type 0} → (I → Option (List ℕ)) → (I → ℕ) → (O → Option (List ℕ)) → (O → ℕ) → (P → Option Rows) → (P → Option (List (List ℕ))) → (P → ℕ) → (C → ℕ → Option ℤ)
    → (N → ℕ → Option (List ℕ)) → (N → ℕ) → Outside → I → O → P → C → N → Outside
around left read_faults holds write_faults rows asked keeper_faults answer word word_faults rest i o p c n = record {
  told = told left read_faults holds write_faults answer word word_faults i o c n;
  rows = rows p;
  asked = asked p;
  keeper_faults = keeper_faults p;
  files = rest.files;
  file_faults = rest.file_faults;
  errors = rest.errors;
  error_faults = rest.error_faults;
  doors = rest.doors;
  link = rest.link;
}
