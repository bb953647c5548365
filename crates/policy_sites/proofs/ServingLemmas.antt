-- The addresses of routes, and of two addresses beside them.
use Rattle.std.proofs.Common.{◌≡◌, ◌+◌, ◌&&◌, ◌||◌, ◌∙◌, ℕ, Bool, true, false, List, [], ◌∷◌, ◌++◌, ap, arith, eqb, leb, refl}
use Rattle.std.proofs.Math.Bool.{or-false}
use Rattle.std.specs.Bool.{beq}
use Rattle.std.proofs.lemmas.Bool.Decides.{nat_tests}
use Rattle.std.proofs.lemmas.List.Folds.{list_any-append}
use Rattle.net_addr.specs.Bits.{Address, Block}
use Rattle.net_addr.specs.Blocks.{holds, prefix_of_addr}
use Rattle.net_rows.specs.Damage.{address_eq}
use Rattle.range_sets.specs.Sets.{some_holds}

last_first : (a b c : Bool) → ((c || a) || b) ≡ ((a || b) || c)
last_first true true true = refl
last_first true true false = refl
last_first true false true = refl
last_first true false false = refl
last_first false true true = refl
last_first false true false = refl
last_first false false true = refl
last_first false false false = refl

pushed : (ps : List Block) (p : Block) (addr : Address) → some_holds (ps ++ p ∷ []) addr ≡ (some_holds ps addr || holds p addr)
pushed ps p addr = list_any-append (λ q. holds q addr) ps (p ∷ []) ∙ ap (λ b. some_holds ps addr || b) (or-false (holds p addr))

one_number : (a x : ℕ) → (leb a x && leb x (a + 0)) ≡ eqb a x
one_number a x = grind (arith, nat_tests)

one_at : (same : Bool) (a x : ℕ) → (same && leb a x && leb x (a + 0)) ≡ (same && eqb a x)
one_at true a x = one_number a x
one_at false a x = refl

one_held : (v6 : Bool) (bits : ℕ) (addr : Address) → holds (prefix_of_addr (record { v6 = v6; bits = bits })) addr ≡ address_eq (record { v6 = v6; bits = bits }) addr
one_held true bits addr = one_at (beq true addr.v6) bits addr.bits
one_held false bits addr = one_at (beq false addr.v6) bits addr.bits

-- the prefix of one address holds it alone
address_held : (a addr : Address) → holds (prefix_of_addr a) addr ≡ address_eq a addr
address_held a addr = one_held a.v6 a.bits addr

-- two addresses behind routes
pub both_pushed : (ps : List Block) (a b addr : Address)
    → some_holds ((ps ++ prefix_of_addr a ∷ []) ++ prefix_of_addr b ∷ []) addr ≡ (address_eq a addr || address_eq b addr || some_holds ps addr)
both_pushed ps a b addr =
    let second = pushed (ps ++ prefix_of_addr a ∷ []) (prefix_of_addr b) addr in
    let first = pushed ps (prefix_of_addr a) addr in
    let whole : some_holds ((ps ++ prefix_of_addr a ∷ []) ++ prefix_of_addr b ∷ []) addr ≡ ((some_holds ps addr || address_eq a addr) || address_eq b addr) =
    second ∙ (ap (λ (x : Bool). x || holds (prefix_of_addr b) addr) first
    ∙ (ap (λ (x : Bool). (some_holds ps addr || x) || holds (prefix_of_addr b) addr) (address_held a addr)
    ∙ ap (λ (x : Bool). (some_holds ps addr || address_eq a addr) || x) (address_held b addr))) in
    whole ∙ last_first (address_eq a addr) (address_eq b addr) (some_holds ps addr)

pub ruleset serving_steps = (both_pushed)
