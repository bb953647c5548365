-- Records of numbers need no quotes, and their texts are lines.
use Rattle.std.proofs.Common.{◌≡◌, ◌<◌, ◌≤◌, ◌+◌, ◌^◌, ◌%◌, ◌/◌, ◌==◌, ◌||◌, ℕ, Bool, true, false, List, [], ◌∷◌, ◌++◌, length, get_or, take, append_assoc, arith, refl, sym, ap, subst, ◌∙◌, Result, Ok, Err}
use Rattle.std.specs.Prelude.{Option, Some, None, OnOk, codes, decimal, flat_map}
use Rattle.std.specs.List.{list_any}
use Rattle.std.specs.Io.KnownBytes.{Appends}
use Rattle.std.proofs.lemmas.Bool.{ne_eqb}
use Rattle.std.proofs.lemmas.Fmt.{decimal_by_steps}
use Rattle.std.proofs.Math.Seq.{take-length}
use Rattle.std.proofs.lemmas.List.{append-nil, flat_map_more, take_more}
use Rattle.std.proofs.lemmas.List.Folds.{list_any-append}
use Rattle.csv.specs.Writing.{default_writer, escaped, field_text, fields_text, is_blank, needs_byte, row_text}
use Rattle.csv.specs.declared.writer.Writer.{Writer}
use Rattle.reach_report.specs.Records.{HasTaken}
use Rattle.reach_report.specs.ReportTexts.{numbers_line, reach_line}
use Rattle.reach_report.specs.declared.reach.Reach.{Reach}

digit_plain : (b : ℕ) → 48 ≤ b → needs_byte default_writer b ≡ false
digit_plain b big =
    let comma : (b == 44) ≡ false = ne_eqb b 44 (λ e. omega arith) in
    let quote : (b == 34) ≡ false = ne_eqb b 34 (λ e. omega arith) in
    let return : (b == 13) ≡ false = ne_eqb b 13 (λ e. omega arith) in
    let feed : (b == 10) ≡ false = ne_eqb b 10 (λ e. omega arith) in
    rw (comma, quote, return, feed) refl

-- a number needs no quotes
pub number_plain : (n : ℕ) → n < 2 ^ 64 → list_any (needs_byte default_writer) (decimal n) ≡ false
number_plain = decimal_by_steps (λ n ds. list_any (needs_byte default_writer) ds ≡ false) one more
  where
    one : (n : ℕ) → n < 10 → list_any (needs_byte default_writer) ((48 + n) ∷ []) ≡ false
    one n small = rw (digit_plain (48 + n) (omega arith)) refl

    more : (n : ℕ) (ds : List ℕ) → 10 ≤ n → list_any (needs_byte default_writer) ds ≡ false → list_any (needs_byte default_writer) (ds ++ ((48 + n % 10) ∷ [])) ≡ false
    more n ds big h =
        list_any-append (needs_byte default_writer) ds ((48 + n % 10) ∷ []) ∙ rw (h, digit_plain (48 + n % 10) (omega arith)) refl

plain_field : (field : List ℕ) → list_any (needs_byte default_writer) field ≡ false → field_text default_writer field ≡ field
plain_field field h = rw h refl

line_joined : (a b c : List ℕ) → ((a ++ (44 ∷ (b ++ (44 ∷ (c ++ []))))) ++ (10 ∷ [])) ≡ numbers_line a b c
line_joined a b c = simp (append_assoc, append-nil) refl

-- a record of three fields that need none is a line
pub plain_line : (a b c : List ℕ) → list_any (needs_byte default_writer) a ≡ false → list_any (needs_byte default_writer) b ≡ false → list_any (needs_byte default_writer) c ≡ false
    → row_text default_writer (a ∷ b ∷ c ∷ []) ≡ numbers_line a b c
unfolding fields_text is_blank
plain_line a b c p q r = rw (plain_field a p, plain_field b q, plain_field c r) (line_joined a b c)

pub numbers_record : (a b c : ℕ) → a < 2 ^ 64 → b < 2 ^ 64 → c < 2 ^ 64 → row_text default_writer (decimal a ∷ decimal b ∷ decimal c ∷ []) ≡ numbers_line (decimal a) (decimal b) (decimal c)
numbers_record a b c p q r = plain_line (decimal a) (decimal b) (decimal c) (number_plain a p) (number_plain b q) (number_plain c r)

pub header_line : row_text default_writer (codes "source" ∷ codes "destination" ∷ codes "rule" ∷ []) ≡ codes "source,destination,rule\n"
unfolding fields_text is_blank escaped
header_line = refl

-- known bytes that grew are known
pub grown : (old new : Option (List ℕ)) (xs bs : List ℕ) → old ≡ Some xs → Appends old new bs → new ≡ Some (xs ++ bs)
grown None new xs bs h g = absurd (cc)
grown (Some ys) None xs bs h g = absurd g
grown (Some ys) (Some zs) xs bs h g =
    let e : ys ≡ xs = cc in
    ap (λ (vs : List ℕ). Some vs) (g ∙ ap (λ (vs : List ℕ). vs ++ bs) e)

-- ---- what is written

pub ok_moved : {X E : Type 0} (r : Result X E) (P Q : Type 0) → (P → Q) → OnOk r P → OnOk r Q
ok_moved (Ok x) P Q f h = f h
ok_moved (Err e) P Q f h = tt

pub moved : {W : Type 0} (contents : W → Option (List ℕ)) (w : Writer W) (a b : List ℕ) → a ≡ b → HasTaken contents w a → HasTaken contents w b
moved contents w a b e h = subst (λ (text : List ℕ). HasTaken contents w text) e h

-- one more line
pub lines_more : (reaches : List Reach) (i : ℕ) (d : Reach) (bytes : List ℕ) → i < length reaches
    → (bytes ++ flat_map reach_line (take i reaches)) ++ reach_line (get_or reaches i d) ≡ bytes ++ flat_map reach_line (take (i + 1) reaches)
lines_more reaches i d bytes lt =
    flat_map_more reach_line bytes (take i reaches) (get_or reaches i d)
    ∙ ap (λ (rs : List Reach). bytes ++ flat_map reach_line rs) (sym (take_more reaches i d lt))

-- all lines
pub lines_all : (reaches : List Reach) (i : ℕ) (bytes : List ℕ) → i ≤ length reaches → length reaches ≤ i → bytes ++ flat_map reach_line (take i reaches) ≡ bytes ++ flat_map reach_line reaches
lines_all reaches i bytes below past =
    let end : i ≡ length reaches = omega arith in
    ap (λ (rs : List Reach). bytes ++ flat_map reach_line rs) (ap (λ (n : ℕ). take n reaches) end ∙ take-length reaches)
