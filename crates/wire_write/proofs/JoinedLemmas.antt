-- A response with peers is what stands before their rows, the rows with commas between them, and what
-- stands behind.
use Rattle.std.proofs.Common.{◌≡◌, ℕ, List, [], ◌∷◌, ◌++◌, Bool, true, false, ◌==◌, length, refl, sym, ap, ap₂, ◌∙◌, append_assoc, Option}
use Rattle.std.specs.Prelude.{codes, flat_map, fold, map, ⊤}
use Rattle.std.proofs.lemmas.List.Sums.{fold-append}
use Rattle.json.specs.Json as json
use Rattle.json.specs.Token.{Token, key, begin_array, end_array}
use Rattle.json.specs.Print.{ends, print, print_from}
use Rattle.json.specs.Tree.{json_tokens, members_tokens}
use Rattle.json.proofs.Printed.Tokens.{print_from-append}
use Rattle.serde_json.specs.Data.{Data, null, boolean, number, string, array, object}
use Rattle.serde_json.specs.Written.{compact_text, members_outline}
use Rattle.tailcfg.specs.declared.node_row.NodeRow.{NodeRow}
use Rattle.tailcfg.specs.declared.response.Response.{Response}
use Rattle.wire_write.specs.Joined.{before_peers, behind_commas, behind_peers, comma_joined, first_members, first_tokens, node_row_text}
use Rattle.wire_write.specs.Nodes.{node_data}
use Rattle.wire_write.specs.Parts.{some_array}
use Rattle.wire_write.specs.Responses.{changed_members, peer_members, response_data, response_text}
use Rattle.wire_write.specs.Tokens.{closing_tokens, data_tokens, each_tokens, option_tokens}
use Rattle.wire_write.proofs.MemberLemmas.{before_all, option_step, optional_members}
use Rattle.wire_write.proofs.ResponseMembers.{from_changed, from_peers}
use Rattle.wire_write.proofs.TokenLemmas.{array_each, print_data}

-- ---- members

-- each name comes before those behind it
abbrev AreInOrder : List (List ℕ × Option Data) → List (List ℕ × Option Data) → Type 0
AreInOrder [] rest = ⊤
AreInOrder (m ∷ ms) rest = (before_all m.0 (ms ++ rest) ≡ true) × AreInOrder ms rest

first_joined : (ms rest : List (List ℕ × Option Data)) → AreInOrder ms rest → flat_map (λ m. option_tokens m.0 m.1) ms ++ closing_tokens (optional_members rest) ≡ closing_tokens (optional_members (ms ++ rest))
first_joined [] rest h = refl
first_joined (m ∷ ms) rest h =
    append_assoc (option_tokens m.0 m.1) (flat_map (λ n. option_tokens n.0 n.1) ms) (closing_tokens (optional_members rest))
    ∙ ap (λ ts. option_tokens m.0 m.1 ++ ts) (first_joined ms rest h.1) ∙ sym (option_step m.0 m.1 (ms ++ rest) h.0)

-- the members before `Peers`, and those from there on
pub whole_tokens : (r : Response) → first_tokens r ++ closing_tokens (peer_members r) ≡ data_tokens (response_data r)
unfolding data_tokens closing_tokens response_data peer_members changed_members
whole_tokens r = ap (λ ts. Token.begin_object ∷ ts) (first_joined (first_members r) (from_peers r) (refl, (refl, (refl, (refl, (refl, tt))))))

-- `Peers`, where there are some, and those behind
some_peers : (r : Response) (p : NodeRow) (ps : List NodeRow) → r.peers ≡ p ∷ ps
    → closing_tokens (peer_members r) ≡ key (codes "Peers") ∷ begin_array ∷ (each_tokens node_data (p ∷ ps) ++ end_array ∷ closing_tokens (changed_members r))
unfolding peer_members changed_members
some_peers r p ps e =
    ap (λ xs. closing_tokens (optional_members ((codes "Peers", some_array node_data xs) ∷ from_changed r))) e
    ∙ option_step (codes "Peers") (some_array node_data (p ∷ ps)) (from_changed r) refl
    ∙ ap (λ ts. key (codes "Peers") ∷ (ts ++ closing_tokens (changed_members r))) (sym (array_each node_data (p ∷ ps)))
    ∙ ap (λ ts. key (codes "Peers") ∷ begin_array ∷ ts) (append_assoc (each_tokens node_data (p ∷ ps)) (end_array ∷ []) (closing_tokens (changed_members r)))

-- ---- texts

-- members end with a brace, whatever stood before
members_end : (b : Bool) (ms : json.Members) → fold (λ _ t. ends t) b (members_tokens ms) ≡ true
members_end b json.no_members = refl
members_end b (json.member k j ms) =
    fold-append (λ (_ : Bool) (t : Token). ends t) false (json_tokens j) (members_tokens ms) ∙ members_end (fold (λ _ t. ends t) false (json_tokens j)) ms

abbrev IsObject : Data → Type 0
IsObject null = ⊥
IsObject (boolean b) = ⊥
IsObject (number n) = ⊥
IsObject (string s) = ⊥
IsObject (array ds) = ⊥
IsObject (object ms) = ⊤

object_ends : (d : Data) → IsObject d → fold (λ _ t. ends t) false (data_tokens d) ≡ true
unfolding data_tokens
object_ends null h = absurd h
object_ends (boolean b) h = absurd h
object_ends (number n) h = absurd h
object_ends (string s) h = absurd h
object_ends (array ds) h = absurd h
object_ends (object ms) h = members_end false (members_outline ms)

-- an object, and what stands behind it
print_object : (d : Data) (ts : List Token) → IsObject d → print (data_tokens d ++ ts) ≡ compact_text d ++ print_from true ts
print_object d ts h = print_from-append false (data_tokens d) ts ∙ ap₂ (λ text b. text ++ print_from b ts) (print_data d) (object_ends d h)

-- behind a value there is a comma before it
later_object : (d : Data) (ts : List Token) → IsObject d → print_from true (data_tokens d ++ ts) ≡ 44 ∷ print (data_tokens d ++ ts)
unfolding data_tokens print_from
later_object null ts h = absurd h
later_object (boolean b) ts h = absurd h
later_object (number n) ts h = absurd h
later_object (string s) ts h = absurd h
later_object (array ds) ts h = absurd h
later_object (object ms) ts h = refl

-- a row, and what stands behind it
print_row : (row : NodeRow) (ts : List Token) → print (data_tokens (node_data row) ++ ts) ≡ node_row_text row ++ print_from true ts
unfolding node_data node_row_text
print_row row ts = print_object (node_data row) ts tt

later_row : (row : NodeRow) (ts : List Token) → print_from true (data_tokens (node_data row) ++ ts) ≡ (44 ∷ node_row_text row) ++ print_from true ts
unfolding node_data node_row_text
later_row row ts = later_object (node_data row) ts tt ∙ ap (λ text. 44 ∷ text) (print_object (node_data row) ts tt)

-- no comma stands before a closing bracket
closing_bracket : (ts : List Token) → print_from true (end_array ∷ ts) ≡ print (end_array ∷ ts)
unfolding print_from
closing_bracket ts = refl

later_rows : (rows : List NodeRow) (ts : List Token) → print_from true (each_tokens node_data rows ++ end_array ∷ ts) ≡ behind_commas (map node_row_text rows) ++ print (end_array ∷ ts)
later_rows [] ts = closing_bracket ts
later_rows (row ∷ rows) ts =
    ap (print_from true) (append_assoc (data_tokens (node_data row)) (each_tokens node_data rows) (end_array ∷ ts))
    ∙ later_row row (each_tokens node_data rows ++ end_array ∷ ts) ∙ ap (λ text. (44 ∷ node_row_text row) ++ text) (later_rows rows ts)
    ∙ sym (append_assoc (44 ∷ node_row_text row) (behind_commas (map node_row_text rows)) (print (end_array ∷ ts)))

all_rows : (row : NodeRow) (rows : List NodeRow) (ts : List Token)
    → print (each_tokens node_data (row ∷ rows) ++ end_array ∷ ts) ≡ comma_joined (map node_row_text (row ∷ rows)) ++ print (end_array ∷ ts)
all_rows row rows ts =
    ap print (append_assoc (data_tokens (node_data row)) (each_tokens node_data rows) (end_array ∷ ts))
    ∙ print_row row (each_tokens node_data rows ++ end_array ∷ ts) ∙ ap (λ text. node_row_text row ++ text) (later_rows rows ts)
    ∙ sym (append_assoc (node_row_text row) (behind_commas (map node_row_text rows)) (print (end_array ∷ ts)))

-- up to an opening bracket, and behind it
bracket_opened : (ts us : List Token) → print (ts ++ key (codes "Peers") ∷ begin_array ∷ us) ≡ print (ts ++ key (codes "Peers") ∷ begin_array ∷ []) ++ print us
bracket_opened ts us =
    let opening : List Token = key (codes "Peers") ∷ begin_array ∷ [] in
    let place : fold (λ _ t. ends t) false (ts ++ opening) ≡ false = fold-append (λ (_ : Bool) (t : Token). ends t) false ts opening in
    ap print (sym (append_assoc ts opening us)) ∙ print_from-append false (ts ++ opening) us ∙ ap (λ b. print (ts ++ opening) ++ print_from b us) place

in_parts : (r : Response) (p : NodeRow) (ps : List NodeRow) → r.peers ≡ p ∷ ps
    → response_text r ≡ before_peers r ++ (comma_joined (map node_row_text (p ∷ ps)) ++ behind_peers r)
unfolding before_peers behind_peers
in_parts r p ps e =
    let behind : List Token = closing_tokens (changed_members r) in
    sym (print_data (response_data r)) ∙ ap print (sym (whole_tokens r) ∙ ap (λ ts. first_tokens r ++ ts) (some_peers r p ps e))
    ∙ bracket_opened (first_tokens r) (each_tokens node_data (p ∷ ps) ++ end_array ∷ behind)
    ∙ ap (λ text. print (first_tokens r ++ key (codes "Peers") ∷ begin_array ∷ []) ++ text) (all_rows p ps behind)

-- A response with peers, in parts.
pub text_in_parts : (r : Response) → (length r.peers == 0) ≡ false → response_text r ≡ before_peers r ++ (comma_joined (map node_row_text r.peers) ++ behind_peers r)
text_in_parts r some = go r.peers refl some
  where
    go : (rows : List NodeRow) → r.peers ≡ rows → (length rows == 0) ≡ false → response_text r ≡ before_peers r ++ (comma_joined (map node_row_text rows) ++ behind_peers r)
    go [] e none = absurd (cc)
    go (p ∷ ps) e one = in_parts r p ps e
