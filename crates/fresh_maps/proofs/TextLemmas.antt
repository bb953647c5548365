-- Texts of nodes, one after the other.
use Rattle.std.proofs.Common.{◌≡◌, ◌<◌, ◌≤◌, ◌+◌, ◌-◌, ◌++◌, ◌==◌, ℕ, false, List, [], ◌∷◌, ap, append-nil, append_assoc, arith, drop, get_or, length, sym, take, ◌∙◌}
use Rattle.std.specs.Prelude.{map}
use Rattle.std.proofs.lemmas.Grind.{flat_map-append}
use Rattle.std.proofs.lemmas.List.{map-append, take_more, take_rest}
use Rattle.tailcfg.specs.declared.node_row.NodeRow.{NodeRow}
use Rattle.tailcfg.specs.declared.response.Response.{Response}
use Rattle.wire_write.specs.Joined.{before_peers, behind_commas, behind_peers, comma_joined, node_row_text}
use Rattle.wire_write.specs.Responses.{response_text}
use Rattle.wire_write.proofs.JoinedLemmas.{text_in_parts}

-- the texts of one more row, each behind a comma
commas_more : (rows : List NodeRow) (i : ℕ) (row : NodeRow) → i < length rows → row ≡ get_or rows i row
    → behind_commas (map node_row_text (take (i + 1) rows)) ≡ behind_commas (map node_row_text (take i rows)) ++ 44 ∷ node_row_text row
commas_more rows i row lt is =
    let cut : take (i + 1) rows ≡ take i rows ++ row ∷ [] = take_more rows i row lt ∙ ap (λ (z : NodeRow). take i rows ++ z ∷ []) (sym is) in
    let one : 44 ∷ (node_row_text row ++ []) ≡ 44 ∷ node_row_text row = ap (λ text. 44 ∷ text) (append-nil (node_row_text row)) in
    ap (λ rs. behind_commas (map node_row_text rs)) cut ∙ ap behind_commas (map-append node_row_text (take i rows) (row ∷ []))
    ∙ flat_map-append (λ text. 44 ∷ text) (map node_row_text (take i rows)) (node_row_text row ∷ [])
    ∙ ap (λ text. behind_commas (map node_row_text (take i rows)) ++ text) one

-- a comma and a text behind those so far
pub later_more : (rows : List NodeRow) (i : ℕ) (row : NodeRow) (before so_far with_comma made : List ℕ) → i < length rows → row ≡ get_or rows i row
    → so_far ≡ before ++ behind_commas (map node_row_text (take i rows)) → with_comma ≡ so_far ++ 44 ∷ [] → made ≡ with_comma ++ node_row_text row
    → made ≡ before ++ behind_commas (map node_row_text (take (i + 1) rows))
later_more rows i row before so_far with_comma made lt is was comma text =
    let texts = behind_commas (map node_row_text (take i rows)) in
    text ∙ ap (λ bytes. bytes ++ node_row_text row) (comma ∙ ap (λ bytes. bytes ++ 44 ∷ []) was)
    ∙ append_assoc (before ++ texts) (44 ∷ []) (node_row_text row) ∙ append_assoc before texts (44 ∷ node_row_text row)
    ∙ ap (λ bytes. before ++ bytes) (sym (commas_more rows i row lt is))

-- the first text, and the later ones behind it
pub rows_made : (rows : List NodeRow) (first : NodeRow) (before one made : List ℕ) → 1 ≤ length rows → first ≡ get_or rows 0 first
    → one ≡ before ++ node_row_text first → made ≡ one ++ behind_commas (map node_row_text (take (length rows - 1) (drop 1 rows))) → made ≡ before ++ comma_joined (map node_row_text rows)
rows_made [] first before one made some is text later = absurd (omega arith)
rows_made (row ∷ rows) first before one made some is text later =
    let begun : one ≡ before ++ node_row_text row = text ∙ ap (λ (z : NodeRow). before ++ node_row_text z) is in
    later ∙ ap (λ (rest : List NodeRow). one ++ behind_commas (map node_row_text rest)) (take_rest (row ∷ rows) 1)
    ∙ ap (λ bytes. bytes ++ behind_commas (map node_row_text rows)) begun ∙ append_assoc before (node_row_text row) (behind_commas (map node_row_text rows))

-- the three parts of a response with peers, one behind the other
pub parts_made : (r : Response) (bytes before rows made : List ℕ) → (length r.peers == 0) ≡ false → before ≡ bytes ++ before_peers r
    → rows ≡ before ++ comma_joined (map node_row_text r.peers) → made ≡ rows ++ behind_peers r → made ≡ bytes ++ response_text r
parts_made r bytes before rows made some first then last =
    let texts = comma_joined (map node_row_text r.peers) in
    last ∙ ap (λ text. text ++ behind_peers r) (then ∙ ap (λ text. text ++ texts) first)
    ∙ append_assoc (bytes ++ before_peers r) texts (behind_peers r) ∙ append_assoc bytes (before_peers r) (texts ++ behind_peers r)
    ∙ ap (λ text. bytes ++ text) (sym (text_in_parts r some))
