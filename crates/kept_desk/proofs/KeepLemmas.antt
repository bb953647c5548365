-- Responses that are kept one after another.
use Rattle.std.proofs.Common.{◌≡◌, ◌<◌, ◌+◌, ℕ, List, [], ◌∷◌, ◌++◌, ◌≤◌, length, get_or, take, refl, ap, arith, sym, ◌∙◌}
use Rattle.std.proofs.lemmas.List.{take_all, take_more}
use Rattle.tail_base.specs.declared.key.MachineKey.{MachineKey}
use Rattle.tailcfg.specs.declared.response.Response.{Response}
use Rattle.frame_shelf.specs.Shelves.{ShelfLine, lines_without}
use Rattle.kept_desk.specs.Keeping.{IsDropped, keep_all, keep_numbered}

-- one more behind the others
pub keep_all_added : (lines : List ShelfLine) (machine : MachineKey) (handle : List ℕ) (rs : List Response) (r : Response)
    → keep_all lines machine handle (rs ++ r ∷ []) ≡ keep_numbered (keep_all lines machine handle rs) machine handle r
keep_all_added lines machine handle [] r = refl
keep_all_added lines machine handle (x ∷ rs) r = keep_all_added (keep_numbered lines machine handle x) machine handle rs r

-- the next of them, of which there may be a copy
pub keep_more : (lines : List ShelfLine) (machine : MachineKey) (handle : List ℕ) (rs : List Response) (i : ℕ) (r : Response) (before after : List ShelfLine)
    → i < length rs → r ≡ get_or rs i r → before ≡ keep_all lines machine handle (take i rs) → after ≡ keep_numbered before machine handle r
    → after ≡ keep_all lines machine handle (take (i + 1) rs)
keep_more lines machine handle rs i r before after inside is had now =
    let more : take (i + 1) rs ≡ take i rs ++ r ∷ [] = take_more rs i r inside ∙ ap (λ (z : Response). take i rs ++ z ∷ []) (sym is) in
    now ∙ ap (λ (ls : List ShelfLine). keep_numbered ls machine handle r) had
    ∙ sym (keep_all_added lines machine handle (take i rs) r)
    ∙ ap (λ (zs : List Response). keep_all lines machine handle zs) (sym more)

-- the line went before any was kept
pub dropped_at_once : (lines : List ShelfLine) (machine : MachineKey) (handle : List ℕ) (rs : List Response) (after : List ShelfLine)
    → after ≡ lines_without lines machine → IsDropped lines machine handle rs after
dropped_at_once lines machine handle rs after gone = record { kept = 0; gone = gone }

-- behind so many of them
pub dropped_behind : (lines : List ShelfLine) (machine : MachineKey) (handle : List ℕ) (rs : List Response) (i : ℕ) (had after : List ShelfLine)
    → had ≡ keep_all lines machine handle (take i rs) → after ≡ lines_without had machine → IsDropped lines machine handle rs after
dropped_behind lines machine handle rs i had after was gone =
    record { kept = i; gone = gone ∙ ap (λ (ls : List ShelfLine). lines_without ls machine) was }

-- all of them
pub all_kept : (lines : List ShelfLine) (machine : MachineKey) (handle : List ℕ) (rs : List Response) (i : ℕ) (had : List ShelfLine) → length rs ≤ i
    → had ≡ keep_all lines machine handle (take i rs) → had ≡ keep_all lines machine handle rs
all_kept lines machine handle rs i had end was =
    was ∙ ap (λ (zs : List Response). keep_all lines machine handle zs) (take_all i rs end)

-- and the line went behind all
pub dropped_last : (lines : List ShelfLine) (machine : MachineKey) (handle : List ℕ) (rs : List Response) (had after : List ShelfLine)
    → had ≡ keep_all lines machine handle rs → after ≡ lines_without had machine → IsDropped lines machine handle rs after
dropped_last lines machine handle rs had after was gone =
    let whole : take (length rs) rs ≡ rs = take_all (length rs) rs (omega arith) in
    dropped_behind lines machine handle rs (length rs) had after (was ∙ ap (λ (zs : List Response). keep_all lines machine handle zs) (sym whole)) gone
