-- Pieces merged one by one, and all at once.
use Rattle.std.proofs.Common.{◌≡◌, ◌+◌, ◌<◌, ◌≤◌, ◌^◌, ℕ, Option, Some, None, arith, length, ltb, Bool, true, false, List, [], ◌∷◌, cond, leb, refl, sym, ap, ◌∙◌}
use Rattle.std.specs.Prelude.{Result, Ok, Err, codes}
use Rattle.std.specs.List.{slice_split, before_first, after_first, position_or_len}
use Rattle.std.specs.Str.{bytes_eq}
use Rattle.std.proofs.lemmas.Bool.{leb-true}
use Rattle.tail_base.proofs.NumeralLemmas.{digits_in_fits}
use Rattle.tail_base.specs.Steps.{◌>>=◌}
use Rattle.port_sets.specs.declared.fault.PortFault.{PortFault}
use Rattle.port_sets.specs.declared.fault.PortFault.TheVariants.{Reversed, TooMany}
use Rattle.port_sets.specs.declared.range.PortRange.{PortRange}
use Rattle.port_sets.specs.PortTexts.{HoldsSame, is_comma, is_hyphen, merged_from, piece_between, piece_of, port_of_text, pieces_from, pieces_of_text, ports_of_text}
use Rattle.port_sets.specs.Ranges.{IsApart, IsPorts, holds, inserted, merged_into}
use Rattle.port_sets.proofs.RangeLemmas.{holds_merged, ports_inserted}
use Rattle.port_sets.proofs.PartLemmas.{some_part}

after_piece : (ranges : List PortRange) (piece : Result PortRange PortFault) (pieces : Result (List PortRange) PortFault)
    → (piece >>= (λ p. pieces >>= (λ ps. Ok (merged_into (inserted p ranges) ps)))) ≡ ((piece >>= (λ p. pieces >>= (λ ps. Ok (p ∷ ps)))) >>= (λ ps. Ok (merged_into ranges ps)))
after_piece ranges (Ok p) (Ok ps) = refl
after_piece ranges (Ok p) (Err e) = refl
after_piece ranges (Err e) pieces = refl

same_after : (piece : Result PortRange PortFault) (f g : PortRange → Result (List PortRange) PortFault) → ((p : PortRange) → f p ≡ g p) → (piece >>= f) ≡ (piece >>= g)
same_after (Ok p) f g h = h p
same_after (Err e) f g h = refl

at_count : (full : Bool) (ranges : List PortRange) (f : Result (List PortRange) PortFault) (g : Result (List PortRange) PortFault) → f ≡ (g >>= (λ ps. Ok (merged_into ranges ps)))
    → cond full (Err TooMany) f ≡ (cond full (Err TooMany) g >>= (λ ps. Ok (merged_into ranges ps)))
at_count true ranges f g h = refl
at_count false ranges f g h = h

pub merged_pieces : (count : ℕ) (ranges : List PortRange) (parts : List (List ℕ)) → merged_from count ranges parts ≡ (pieces_from count parts >>= (λ pieces. Ok (merged_into ranges pieces)))
merged_pieces count ranges [] = refl
merged_pieces count ranges (part ∷ parts) =
    at_count (leb 64 count) ranges _ _ (same_after (piece_of part) _ _ (λ p. merged_pieces (count + 1) (inserted p ranges) parts) ∙ after_piece ranges (piece_of part) (pieces_from (count + 1) parts))

pub same_ports : (pieces : Result (List PortRange) PortFault) (ranges : List PortRange) → (pieces >>= (λ ps. Ok (merged_into [] ps))) ≡ Ok ranges → HoldsSame pieces ranges
same_ports (Ok pieces) ranges h =
    let same : merged_into [] pieces ≡ ranges = cc in
    λ port. ap (λ r. holds r port) (sym same) ∙ holds_merged [] pieces port
same_ports (Err e) ranges h = absurd (cc)

pub ports_star : (text : List ℕ) → bytes_eq text (codes "*") ≡ true → ports_of_text text ≡ Ok (record { first = 0; last = 65535 } ∷ [])
unfolding ports_of_text pieces_of_text
ports_star text h = rw h refl

pub ports_parts : (text : List ℕ) → bytes_eq text (codes "*") ≡ false → ports_of_text text ≡ merged_from 0 [] (slice_split is_comma text)
unfolding ports_of_text pieces_of_text
ports_parts text h = rw h (sym (merged_pieces 0 [] (slice_split is_comma text)))

pub meant : (text : List ℕ) (ranges : List PortRange) → ports_of_text text ≡ Ok ranges → HoldsSame (pieces_of_text text) ranges
unfolding ports_of_text
meant text ranges h = same_ports (pieces_of_text text) ranges h

-- each piece is in order and fits
abbrev IsPiece : PortRange → Type 0
IsPiece range = (range.first ≤ range.last) × (range.last < 2 ^ 16)

between_fits : (first last : Option ℕ) (piece : PortRange) → ((n : ℕ) → last ≡ Some n → n ≤ 65535) → piece_between first last ≡ Ok piece → IsPiece piece
between_fits (Some a) (Some b) piece high h = by_order (leb a b) refl h
  where
    by_order : (t : Bool) → leb a b ≡ t → cond t (Ok (record { first = a; last = b })) (Err Reversed) ≡ Ok piece → IsPiece piece
    by_order true p q =
        let is : record { first = a; last = b } ≡ piece = cc in
        let low = leb-true a b p in
        let top = high b refl in
        rw (← is) (low, omega arith)
    by_order false p q = absurd (cc)
between_fits (Some a) None piece high h = absurd (cc)
between_fits None last piece high h = absurd (cc)

port_fits : (text : List ℕ) (n : ℕ) → port_of_text text ≡ Some n → n ≤ 65535
port_fits text n h = (digits_in_fits 5 0 65535 n text h).1

piece_fits : (text : List ℕ) (piece : PortRange) → piece_of text ≡ Ok piece → IsPiece piece
piece_fits text piece h = by_hyphen (ltb (position_or_len is_hyphen text) (length text)) refl
  where
    by_hyphen : (t : Bool) → ltb (position_or_len is_hyphen text) (length text) ≡ t → IsPiece piece
    by_hyphen true p = between_fits _ _ piece (port_fits (after_first is_hyphen text)) (sym (ap (λ t. cond t (piece_between (port_of_text (before_first is_hyphen text)) (port_of_text (after_first is_hyphen text))) (piece_between (port_of_text text) (port_of_text text))) p) ∙ h)
    by_hyphen false p = between_fits _ _ piece (port_fits text) (sym (ap (λ t. cond t (piece_between (port_of_text (before_first is_hyphen text)) (port_of_text (after_first is_hyphen text))) (piece_between (port_of_text text) (port_of_text text))) p) ∙ h)

-- merged pieces, of which there is one at least, are a set of ports
merged_ports : (count : ℕ) (parts : List (List ℕ)) (before ranges : List PortRange) → IsApart 0 before → 0 < length parts → merged_from count before parts ≡ Ok ranges → IsPorts ranges
merged_ports count [] before ranges h some read = absurd (omega arith)
merged_ports count (part ∷ parts) before ranges h some read =
    by_count (λ now sound more given. merged_ports (count + 1) parts now ranges sound.apart more given) (leb 64 count) refl read
  where
    by_parts : (rest : List (List ℕ)) (now : List PortRange) → IsPorts now → (0 < length rest → merged_from (count + 1) now rest ≡ Ok ranges → IsPorts ranges) → merged_from (count + 1) now rest ≡ Ok ranges → IsPorts ranges
    by_parts [] now sound more given = let same : now ≡ ranges = cc in rw (← same) sound
    by_parts (next ∷ others) now sound more given = more (omega arith) given

    by_piece : ((now : List PortRange) → IsPorts now → 0 < length parts → merged_from (count + 1) now parts ≡ Ok ranges → IsPorts ranges)
        → (r : Result PortRange PortFault) → piece_of part ≡ r → (r >>= (λ p. merged_from (count + 1) (inserted p before) parts)) ≡ Ok ranges → IsPorts ranges
    by_piece more (Ok p) is given =
        let fits = piece_fits part p is in
        let sound = ports_inserted p before fits.0 fits.1 h in
        by_parts parts (inserted p before) sound (more (inserted p before) sound) given
    by_piece more (Err e) is given = absurd (cc)

    by_count : ((now : List PortRange) → IsPorts now → 0 < length parts → merged_from (count + 1) now parts ≡ Ok ranges → IsPorts ranges)
        → (t : Bool) → leb 64 count ≡ t → cond t (Err TooMany) (piece_of part >>= (λ p. merged_from (count + 1) (inserted p before) parts)) ≡ Ok ranges → IsPorts ranges
    by_count more true p given = absurd (cc)
    by_count more false p given = by_piece more (piece_of part) refl given

all_ports : IsPorts (record { first = 0; last = 65535 } ∷ [])
all_ports = record { some = omega arith; apart = (omega arith, omega arith, omega arith, tt) }

pub read_ports : (text : List ℕ) (ranges : List PortRange) → ports_of_text text ≡ Ok ranges → IsPorts ranges
read_ports text ranges h = by_star (bytes_eq text (codes "*")) refl
  where
    by_star : (t : Bool) → bytes_eq text (codes "*") ≡ t → IsPorts ranges
    by_star true p = let same : record { first = 0; last = 65535 } ∷ [] ≡ ranges = cc (sym (ports_star text p) ∙ h) in rw (← same) all_ports
    by_star false p = merged_ports 0 (slice_split is_comma text) [] ranges tt (some_part text) (sym (ports_parts text p) ∙ h)
