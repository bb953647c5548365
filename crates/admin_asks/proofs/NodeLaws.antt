-- Decisions on machines are sound.
use Rattle.std.proofs.Common.{◌≡◌, ◌≢◌, ◌≤◌, ◌==◌, ℕ, ℤ, true, false, not, ◌&&◌, List, Option, Some, None, unwrap_or, Ok, inl, inr, sym, ap, refl, subst, length, arith}
use Rattle.std.specs.Prelude.{Contains}
use Rattle.std.specs.Cmp.Lexicographic.{pointwise, slice_cmp}
use Rattle.std.specs.Ordering.{nat_cmp}
use Rattle.std.specs.Str.{bytes_eq}
use Rattle.std.proofs.lemmas.Bool.{cases_Bool, both_ways}
use Rattle.std.proofs.lemmas.Bool.Decides.{Decides-int_eq}
use Rattle.std.proofs.lemmas.Slice.Eq.{slice_eq-Decides, bytes_eq-Decides}
use Rattle.tail_base.specs.Labels.{label_of}
use Rattle.tail_base.specs.Sorted.{sorted_once}
use Rattle.tail_base.proofs.Bools.{bytes_eq-from}
use Rattle.tail_base.proofs.SortedLemmas.{length-sorted_once}
use Rattle.net_addr.specs.Bits.{Block}
use Rattle.tailcfg.specs.declared.limits.TheConstants.{ROUTE_LIMIT}
use Rattle.net_rows.specs.declared.limits.TheConstants.{TAG_LIMIT}
use Rattle.net_rows.specs.Rows.{machine_with}
use Rattle.net_rows.specs.Sound.{AreSound}
use Rattle.net_rows.specs.declared.machine.Machine.{Machine}
use Rattle.net_rows.specs.declared.rows.Rows.{Rows}
use Rattle.net_rows.proofs.Members.{list_any_member}
use Rattle.desk_state.specs.Changes.{machine_gone}
use Rattle.desk_state.specs.Decisions.{IsPlain}
use Rattle.desk_state.specs.State.{State}
use Rattle.desk_state.specs.Tags.{tags_defined}
use Rattle.desk_state.specs.declared.refusal.Refusal.TheVariants.{UnknownMachine, BadName, NameTaken}
use Rattle.desk_state.proofs.Proper.{proper_bind, proper_choice, proper_none, proper_or, proper_refuse, proper_some, same_counters, sound_change}
use Rattle.desk_state.specs.Rows.{row_replaced}
use Rattle.desk_state.proofs.Rests.{replaced_differs}
use Rattle.desk_state.proofs.RowLemmas.{row_sound}
use Rattle.desk_state.proofs.SoundChanges.{gone_change}
use Rattle.admin_asks.specs.Nodes.{changed_node, ends_at, expired_node, expire_node, is_name_taken, renamed_node, rename, same_node, tagged_node, set_tags, drop_node}
use Rattle.admin_asks.proofs.NamedLaws.{row_there}
use Rattle.net_rows.proofs.Puttable.{IsOwn, FitsMachine}

-- the row with another name, other tags, other approvals and another expiry
abbrev pub row_with : Machine → List ℕ → List (List ℕ) → List Block → Option ℤ → Machine
row_with m name tags approved expiry = record m { name = name; tags = tags; approved = approved; expiry = expiry }

-- its lists are within their limits
abbrev pub AreShort : List (List ℕ) → List Block → Type 0
AreShort tags approved = (length tags ≤ TAG_LIMIT) × (length approved ≤ ROUTE_LIMIT)

fits_with : (t : Rows) (m : Machine) (name : List ℕ) (tags : List (List ℕ)) (approved : List Block) (expiry : Option ℤ) → AreSound t → Contains t.machines m
    → IsOwn (λ r. r.id) (λ r. r.name) t.machines (row_with m name tags approved expiry) → AreShort tags approved → FitsMachine t (row_with m name tags approved expiry)
fits_with t m name tags approved expiry sound inside own short =
    let keeps = sound.machines.keeps m inside in
    record {
      id = (sound.machines.ids m inside).0;
      room = inr (m, inside, refl);
      machine_key = λ a within e. sound.machines.machine_keys a m within inside e;
      node_key = λ a within e. sound.machines.node_keys a m within inside e;
      name = own;
      v4 = λ a within e. sound.machines.v4 a m within inside e;
      v6 = λ a within e. sound.machines.v6 a m within inside e;
      keeps = record {
        user = keeps.user;
        v4 = keeps.v4;
        v6 = keeps.v6;
        host = keeps.host;
        endpoints = keeps.endpoints;
        routes = keeps.routes;
        approved = short.1;
        tags = short.0;
      };
    }

-- a row that differs is put in a machine's place
pub changed_proper : (s : State) (m : Machine) (name : List ℕ) (tags : List (List ℕ)) (approved : List Block) (expiry : Option ℤ) → AreSound s.rows → Contains s.rows.machines m
    → IsOwn (λ r. r.id) (λ r. r.name) s.rows.machines (row_with m name tags approved expiry) → AreShort tags approved
    → row_with m name tags approved expiry ≢ m → IsPlain s.rows (Ok (changed_node s (row_with m name tags approved expiry)))
changed_proper s m name tags approved expiry sound inside own short apart =
    let t = s.rows in
    let r : Machine = row_with m name tags approved expiry in
    proper_some t (changed_node s r) (row_replaced t r) refl refl refl
    (sound_change t (row_replaced t r)
    (row_sound t r t.next.machine None None sound (fits_with t m name tags approved expiry sound inside own short)
    (sound.machines.ids m inside).1 (omega arith) sound.counters.machine.1 tt)
    (replaced_differs t m r sound inside refl apart) (same_counters t.next))

-- its own name stays its own
pub own_name : (t : Rows) (m : Machine) → AreSound t → Contains t.machines m → IsOwn (λ r. r.id) (λ r. r.name) t.machines m
own_name t m sound inside a within e = sound.machines.names a m within inside e

-- its own lists are within their limits
pub own_short : (t : Rows) (m : Machine) → AreSound t → Contains t.machines m → AreShort m.tags m.approved
own_short t m sound inside = ((sound.machines.keeps m inside).tags, (sound.machines.keeps m inside).approved)

-- another expiry
expired_proper : (s : State) (m : Machine) (end : ℤ) → AreSound s.rows → Contains s.rows.machines m → IsPlain s.rows (Ok (expired_node s m end))
expired_proper s m end sound inside =
    proper_choice s.rows (ends_at m.expiry end) _ _ (λ _. proper_none s.rows (same_node s m) refl refl) (λ other.
    changed_proper s m m.name m.tags m.approved (Some end) sound inside (own_name s.rows m sound inside) (own_short s.rows m sound inside) (λ e.
    both_ways (ends_at m.expiry end) other
    (subst (λ (x : Option ℤ). ends_at x end ≡ true) (ap (λ (x : Machine). x.expiry) e) ((Decides-int_eq end end).1 refl))))

pub expire_node_proper : (s : State) (id : ℕ) (expiry : Option ℤ) → AreSound s.rows → IsPlain s.rows (expire_node s id expiry)
expire_node_proper s id expiry sound =
    proper_or s.rows UnknownMachine (machine_with s.rows.machines id) _ (λ (m : Machine) found.
    expired_proper s m (unwrap_or expiry s.now) sound (row_there (λ (x : Machine). x.id) s.rows.machines id m found))

-- a name that no machine of another id has
name_free : (t : Rows) (m : Machine) (name : List ℕ) → is_name_taken t.machines m.id name ≡ false → IsOwn (λ r. r.id) (λ r. r.name) t.machines (record m { name = name })
name_free t m name free a within e =
    let test : (bytes_eq a.name name && not (a.id == m.id)) ≡ false = list_any_member (λ (r : Machine). bytes_eq r.name name && not (r.id == m.id)) t.machines free a within in
    let same : bytes_eq a.name name ≡ true = bytes_eq-from a.name name e in
    let other : not (a.id == m.id) ≡ false = rw same at test in
    elim (cases_Bool (a.id == m.id)) [
      | inl own ↦ grind arith
      | inr apart ↦ let bad : true ≡ false = rw apart at other in absurd (cc)
    ]

-- another name
renamed_proper : (s : State) (m : Machine) (name : List ℕ) → AreSound s.rows → Contains s.rows.machines m → is_name_taken s.rows.machines m.id name ≡ false
    → IsPlain s.rows (Ok (renamed_node s m name))
renamed_proper s m name sound inside free =
    proper_choice s.rows (bytes_eq m.name name) _ _ (λ _. proper_none s.rows (same_node s m) refl refl) (λ other.
    changed_proper s m name m.tags m.approved m.expiry sound inside (name_free s.rows m name free) (own_short s.rows m sound inside) (λ e.
    both_ways (bytes_eq m.name name) other (bytes_eq-from m.name name (sym (ap (λ (x : Machine). x.name) e)))))

pub rename_proper : (s : State) (id : ℕ) (name : List ℕ) → AreSound s.rows → IsPlain s.rows (rename s id name)
rename_proper s id name sound =
    let t = s.rows in
    proper_or t UnknownMachine (machine_with t.machines id) _ (λ (m : Machine) found.
    proper_or t BadName (label_of name) _ (λ (label : List ℕ) _.
    proper_refuse t (is_name_taken t.machines m.id label) NameTaken _ (λ free.
    renamed_proper s m label sound (row_there (λ (x : Machine). x.id) t.machines id m found) free)))

-- other tags
tagged_proper : (s : State) (m : Machine) (tags : List (List ℕ)) → AreSound s.rows → Contains s.rows.machines m → length tags ≤ TAG_LIMIT
    → IsPlain s.rows (Ok (tagged_node s m tags))
tagged_proper s m tags sound inside short =
    proper_choice s.rows (pointwise bytes_eq m.tags tags) _ _ (λ _. proper_none s.rows (same_node s m) refl refl) (λ other.
    changed_proper s m m.name tags m.approved m.expiry sound inside (own_name s.rows m sound inside) (short, (sound.machines.keeps m inside).approved) (λ e.
    both_ways (pointwise bytes_eq m.tags tags) other
    ((slice_eq-Decides bytes_eq-Decides m.tags tags _ refl).1 (sym (ap (λ (x : Machine). x.tags) e)))))

pub set_tags_proper : (s : State) (id : ℕ) (tags : List (List ℕ)) → AreSound s.rows → length tags ≤ TAG_LIMIT → IsPlain s.rows (set_tags s id tags)
set_tags_proper s id tags sound short =
    let t = s.rows in
    proper_or t UnknownMachine (machine_with t.machines id) _ (λ (m : Machine) found.
    proper_bind t (tags_defined s tags) _ (λ _ _.
    tagged_proper s m (sorted_once (slice_cmp nat_cmp) tags) sound (row_there (λ (x : Machine). x.id) t.machines id m found)
    (omega (arith, short, length-sorted_once (slice_cmp nat_cmp) tags))))

pub drop_node_proper : (s : State) (id : ℕ) → AreSound s.rows → IsPlain s.rows (drop_node s id)
drop_node_proper s id sound =
    let t = s.rows in
    proper_or t UnknownMachine (machine_with t.machines id) _ (λ (m : Machine) found.
    proper_some t _ (machine_gone t m.id) refl refl refl
    (gone_change t m sound (row_there (λ (x : Machine). x.id) t.machines id m found)))
