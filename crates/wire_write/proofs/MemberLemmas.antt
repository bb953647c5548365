-- Members that are put from the last on stand in the order in which they are written.
use Rattle.std.proofs.Common.{◌≡◌, ℕ, List, [], ◌∷◌, ◌++◌, Bool, true, false, refl, sym, ap, Option, Some, None}
use Rattle.std.specs.Prelude.{⊤}
use Rattle.std.specs.Ordering.{nat_cmp, match_ordering}
use Rattle.std.specs.declared.cmp.Ordering.TheVariants.{Less, Equal, Greater}
use Rattle.std.specs.Cmp.Lexicographic.{slice_cmp}
use Rattle.serde_json.specs.Data.{Data, Members, no_members, member, put}
use Rattle.json.specs.Written.{Written}
use Rattle.wire_write.specs.Parts.{some_member}
use Rattle.wire_write.specs.Tokens.{Adds, closing_tokens, data_tokens, option_tokens}
use Rattle.wire_write.proofs.TokenLemmas.{recast, then}

-- those members that there are, in byte order
abbrev pub optional_members : List (List ℕ × Option Data) → Members
optional_members [] = no_members
optional_members (m ∷ ms) = some_member m.0 m.1 (optional_members ms)

-- every name comes behind this one
abbrev pub AllBehind : List ℕ → Members → Type 0
AllBehind k no_members = ⊤
AllBehind k (member l e ms) = (slice_cmp nat_cmp k l ≡ Less) × AllBehind k ms

-- a name that comes before all is put in front
pub put_first : (k : List ℕ) (d : Data) (ms : Members) → AllBehind k ms → put k d ms ≡ member k d ms
put_first k d no_members h = refl
put_first k d (member l e ms) h = ap (λ o. match_ordering o (member k d (member l e ms)) (member l d ms) (member l e (put k d ms))) h.0

pub behind_put : (k l : List ℕ) (d : Data) (ms : Members) → slice_cmp nat_cmp k l ≡ Less → AllBehind k ms → AllBehind k (put l d ms)
behind_put k l d no_members before h = (before, tt)
behind_put k l d (member n e ms) before h = elim (slice_cmp nat_cmp l n) as (λ o. AllBehind k (match_ordering o (member l d (member n e ms)) (member n d ms) (member n e (put l d ms)))) [
  | Less ↦ (before, h)
  | Equal ↦ h
  | Greater ↦ (h.0, behind_put k l d ms before h.1)
]

pub behind_some : (k l : List ℕ) (o : Option Data) (ms : Members) → slice_cmp nat_cmp k l ≡ Less → AllBehind k ms → AllBehind k (some_member l o ms)
behind_some k l None ms before h = h
behind_some k l (Some d) ms before h = behind_put k l d ms before h

-- whether the name comes before each of these
abbrev pub before_all : List ℕ → List (List ℕ × Option Data) → Bool
before_all k [] = true
before_all k (m ∷ ms) = match_ordering (slice_cmp nat_cmp k m.0) (before_all k ms) false false

behind_cmp : (k l : List ℕ) (b : Bool) → match_ordering (slice_cmp nat_cmp k l) b false false ≡ true → (slice_cmp nat_cmp k l ≡ Less) × (b ≡ true)
behind_cmp k l b h = elim (slice_cmp nat_cmp k l) as (λ o. match_ordering o b false false ≡ true → (o ≡ Less) × (b ≡ true)) [
  | Less ↦ λ e. (refl, e)
  | Equal ↦ λ e. cc
  | Greater ↦ λ e. cc
] h

behind : (k : List ℕ) (ms : List (List ℕ × Option Data)) → before_all k ms ≡ true → AllBehind k (optional_members ms)
behind k [] h = tt
behind k (m ∷ ms) h =
    let parts = behind_cmp k m.0 (before_all k ms) h in
    behind_some k m.0 m.1 (optional_members ms) parts.0 (behind k ms parts.1)

-- an optional member, and then others
pub option_step : (k : List ℕ) (o : Option Data) (ms : List (List ℕ × Option Data)) → before_all k ms ≡ true → closing_tokens (optional_members ((k, o) ∷ ms)) ≡ option_tokens k o ++ closing_tokens (optional_members ms)
unfolding data_tokens closing_tokens
option_step k None ms h = refl
option_step k (Some d) ms h = ap closing_tokens (put_first k d (optional_members ms) (behind k ms h))

pub next_some : (k : List ℕ) (o : Option Data) (ms : List (List ℕ × Option Data)) {a b c : Written} → before_all k ms ≡ true → Adds (option_tokens k o) a b → Adds (closing_tokens (optional_members ms)) b c → Adds (closing_tokens (optional_members ((k, o) ∷ ms))) a c
next_some k o ms h p q = recast (sym (option_step k o ms h)) (then p q)
