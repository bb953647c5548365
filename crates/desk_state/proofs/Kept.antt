-- Changes that put no policy leave its text.
use Rattle.std.proofs.Common.{◌≡◌, Bool, true, false, List, [], ◌∷◌, refl, ◌∙◌}
use Rattle.std.specs.List.{list_all}
use Rattle.std.proofs.lemmas.Bool.{and_parts}
use Rattle.net_rows.specs.Rows.{after, put, put_all, take_all_out, take_out}
use Rattle.net_rows.specs.declared.change.Change.{Change}
use Rattle.net_rows.specs.declared.change.Row.{Row}
use Rattle.net_rows.specs.declared.change.Row.TheVariants as row
use Rattle.net_rows.specs.declared.change.RowKey.{RowKey}
use Rattle.net_rows.specs.declared.change.RowKey.TheVariants as key
use Rattle.net_rows.specs.declared.rows.Rows.{Rows}

-- the row is no policy
abbrev pub is_no_policy : Row → Bool
is_no_policy (row.User x) = true
is_no_policy (row.Key x) = true
is_no_policy (row.Pending x) = true
is_no_policy (row.Machine x) = true
is_no_policy (row.Extras x) = true
is_no_policy (row.Policy x) = false

gone_keeps_text : (t : Rows) (k : RowKey) → (take_out t k).policy ≡ t.policy
gone_keeps_text t (key.User id) = refl
gone_keeps_text t (key.Key id) = refl
gone_keeps_text t (key.Pending id) = refl
gone_keeps_text t (key.Machine id) = refl

all_gone_keep_text : (t : Rows) (ks : List RowKey) → (take_all_out t ks).policy ≡ t.policy
all_gone_keep_text t [] = refl
all_gone_keep_text t (k ∷ ks) = all_gone_keep_text (take_out t k) ks ∙ gone_keeps_text t k

put_keeps_text : (t : Rows) (r : Row) → is_no_policy r ≡ true → (put t r).policy ≡ t.policy
put_keeps_text t (row.User x) h = refl
put_keeps_text t (row.Key x) h = refl
put_keeps_text t (row.Pending x) h = refl
put_keeps_text t (row.Machine x) h = refl
put_keeps_text t (row.Extras x) h = refl
put_keeps_text t (row.Policy x) h = absurd (cc)

puts_keep_text : (t : Rows) (rs : List Row) → list_all is_no_policy rs ≡ true → (put_all t rs).policy ≡ t.policy
puts_keep_text t [] h = refl
puts_keep_text t (r ∷ rs) h =
    let parts = and_parts (is_no_policy r) (list_all is_no_policy rs) h in
    puts_keep_text (put t r) rs parts.1 ∙ put_keeps_text t r parts.0

-- a change that puts no policy leaves its text
pub change_keeps_text : (t : Rows) (c : Change) → list_all is_no_policy c.puts ≡ true → (after t c).policy ≡ t.policy
change_keeps_text t c h = puts_keep_text (take_all_out t c.gone) c.puts h ∙ all_gone_keep_text t c.gone
