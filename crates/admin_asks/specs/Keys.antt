-- Operators make and list pre-auth keys, and let them expire.
use Rattle.std.specs.Prelude.{◌+◌, ℕ, false, List, [], ◌∷◌, map, Option, Some, Result, Ok, codes, not, if◌then◌else◌}
use Rattle.tail_base.specs.Steps.{◌>>=◌, or_fault, refuse_if}
use Rattle.net_rows.specs.Room.{has_room}
use Rattle.net_rows.specs.Rows.{key_with}
use Rattle.net_rows.specs.declared.change.Change.{Change}
use Rattle.net_rows.specs.declared.change.Kind.TheVariants as kind
use Rattle.net_rows.specs.declared.change.Row.TheVariants as row
use Rattle.net_rows.specs.declared.key.AuthKey.{AuthKey}
use Rattle.net_rows.specs.declared.rows.Rows.{Rows}
use Rattle.desk_state.specs.Decisions.{only, changing}
use Rattle.desk_state.specs.Lines.{key_line}
use Rattle.desk_state.specs.State.{State, is_ahead}
use Rattle.desk_state.specs.Texts.{row_text}
use Rattle.desk_state.specs.Tags.{tags_defined}
use Rattle.desk_state.specs.Users.{user_named}
use Rattle.desk_state.specs.declared.key_form.KeyForm.{KeyForm}
use Rattle.desk_state.specs.declared.decision.Decision.{Decision}
use Rattle.desk_state.specs.declared.lines.KeyLine.{KeyLine}
use Rattle.desk_state.specs.declared.refusal.Refusal.{Refusal}
use Rattle.desk_state.specs.declared.refusal.Refusal.TheVariants.{Full, EntropyFault, KeyUnknown}
use Rattle.desk_state.specs.declared.refusal.Scarce.TheVariants as scarce
use Rattle.admin_asks.specs.declared.operator_answer.OperatorAnswer.{OperatorAnswer}
use Rattle.admin_asks.specs.declared.operator_answer.OperatorAnswer.TheVariants as answer

-- the key as it was asked for, with the next id and a text of its own
abbrev pub new_key : Rows → KeyForm → ℕ → List ℕ → AuthKey
new_key t form user words = record {
  id = t.next.key;
  text = row_text (codes "tnkey-") t.next.key words;
  user = user;
  reusable = form.reusable;
  ephemeral = form.ephemeral;
  used = false;
  expiry = form.expiry;
  tags = form.tags;
}

-- the key is put, and the next id is one more
abbrev pub key_change : Rows → AuthKey → Change
key_change t key = record {
  puts = row.Key key ∷ [];
  gone = [];
  next = record t.next { key = t.next.key + 1 };
}

-- the key is made, and is the answer
abbrev pub added_key : Rows → AuthKey → Decision OperatorAnswer
added_key t key = changing (key_change t key) (answer.Key (key_line t.users key))

-- a key is made for a user who is there, with tags that are defined, if there is room and random words were drawn
abbrev pub add_key : State → KeyForm → Option (List ℕ) → Result (Decision OperatorAnswer) Refusal
add_key s form words = do
  user ← user_named s.rows form.login
  defined ← tags_defined s form.tags
  room ← refuse_if (not (has_room s.rows kind.Key)) (Full scarce.Key)
  drawn ← or_fault EntropyFault words
  Ok (added_key s.rows (new_key s.rows form user.id drawn))

-- the keys as an operator is shown them
abbrev pub key_lines : Rows → List KeyLine
key_lines t = map (key_line t.users) t.keys

-- the keys by id
abbrev pub keys : State → Result (Decision OperatorAnswer) Refusal
keys s = Ok (only (answer.Keys (key_lines s.rows)))

-- the key expires now
abbrev pub expiry_change : State → AuthKey → Change
expiry_change s key = record {
  puts = row.Key (record key { expiry = Some s.now }) ∷ [];
  gone = [];
  next = s.rows.next;
}

-- a key that has expired stays as it is
abbrev pub expired_key : State → AuthKey → Decision OperatorAnswer
expired_key s key = if is_ahead s.now key.expiry then changing (expiry_change s key) answer.Gone else only answer.Gone

-- the key of an id expires now
abbrev pub expire_key : State → ℕ → Result (Decision OperatorAnswer) Refusal
expire_key s id = do
  key ← or_fault KeyUnknown (key_with s.rows.keys id)
  Ok (expired_key s key)
